-- The plain words of demand 3 leave one list: what is exactly all matches is `all_matches` (`exactly-only`), since two upward lists with the same entries are one.
use Rattle.meaning_numbers.proofs.Prelude.{◌≡◌, refl, sym, ap, ◌∙◌, ⊎_elim, List, [], ◌∷◌, List-as-Memᴰ as Mem, List·Memᴰ·head as here, List·Memᴰ·tail as there, List·Memᴰ·not-nil as not-nil, List·Memᴰ·cases-cons as cases, ℕ, suc, ◌≤◌, arith}
use Rattle.meaning_filter.specs.Matches.{Question, all_matches, Upward, done, next, Exactly}
use Rattle.meaning_filter.proofs.Matches.{all-exactly}

abbrev Entries : Type 0
Entries = List (ℕ × ℕ)

-- all of the first stand in the second
abbrev Among : Entries → Entries → Type 0
Among l m = (e : ℕ × ℕ) → Mem e l → Mem e m

least : {k : ℕ} {e : ℕ × ℕ} {l : Entries} → Upward k l → Mem e l → k ≤ e.0
least done m = absurd (not-nil m)
least {k} (next h u) m = ⊎_elim (λ q. rw q h) (λ n. omega (arith, h, least u n)) (cases m)

-- each of two first entries is at most the other
first-same : {a b : ℕ × ℕ} {l m : Entries} → Upward (suc a.0) l → Upward (suc b.0) m → Among (a ∷ l) (b ∷ m) → Among (b ∷ m) (a ∷ l) → a ≡ b
first-same {a} {b} u v f g = ⊎_elim (λ q. q) (λ n. ⊎_elim (λ q. sym q) (λ o. absurd (omega (arith, least v n, least u o))) (cases (g b (here refl)))) (cases (f a (here refl)))

-- what stands behind the first entry of one list stands behind that of the other
rest-among : {a b : ℕ × ℕ} {l m : Entries} → a.0 ≡ b.0 → Upward (suc a.0) l → Among (a ∷ l) (b ∷ m) → Among l m
rest-among {a} {b} o u f e n = ⊎_elim (λ q. absurd (omega (arith, least u n, ap (λ x. x.0) q, o))) (λ r. r) (cases (f e (there n)))

upward-same : {k : ℕ} (l m : Entries) → Upward k l → Upward k m → Among l m → Among m l → l ≡ m
upward-same [] [] u v f g = refl
upward-same [] (b ∷ m) u v f g = absurd (not-nil (g b (here refl)))
upward-same (a ∷ l) [] u v f g = absurd (not-nil (f a (here refl)))
upward-same (a ∷ l) (b ∷ m) (next h u) (next i v) f g =
    let q = first-same u v f g in
    let o = ap (λ x. x.0) q in
    let t = upward-same l m u (rw q v) (rest-among o u f) (rest-among (sym o) v g) in
    ap (λ x. x ∷ l) q ∙ rw t

exactly-among : (z : Question) {l m : Entries} → Exactly z l → Exactly z m → Among l m
exactly-among z {l} {m} x y e n =
    let o = x.only e n in
    rw o.2 (y.every e.0 (omega arith) o.1)

pub exactly-only : (z : Question) (l : Entries) → Exactly z l → l ≡ all_matches z
exactly-only z l x =
    let y = all-exactly z in
    upward-same l (all_matches z) x.ascending y.ascending (exactly-among z x y) (exactly-among z y x)
