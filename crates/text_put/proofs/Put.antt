-- Laws of specs/Put.
use Rattle.meaning_numbers.proofs.Prelude.{◌≡◌, refl, sym, ◌∙◌, List, [], ◌∷◌, ◌++◌, ◌⊎◌, inl, inr, ⊎_elim, true, false, ℕ, suc, ◌+◌, ◌<◌, ◌≤◌, min, arith, add-one, ltb, length, take, drop, get_or, length-append, sets, length-sets, sets-eq, set_out, take-suc, ltb-true, ltb-false}
use Rattle.meaning_text.proofs.Sets.{sets-append}
use Rattle.text_put.specs.Put.{Put}

sets-out : (l old : List ℕ) (i : ℕ) → length old ≤ i → sets old i l ≡ old
sets-out [] old i h = refl
sets-out (b ∷ l) old i h = rw (set_out old i b h) (sets-out l old (suc i) (omega arith))

lt-or : (a b : ℕ) → (a < b) ⊎ (b ≤ a)
lt-or a b = elim (ltb a b) as (λ t. ltb a b ≡ t → (a < b) ⊎ (b ≤ a)) [ true ↦ (λ e. inl (ltb-true a b e)) | false ↦ (λ e. inr (ltb-false a b e)) ] refl

sets-capped : (l old : List ℕ) (i : ℕ) → sets old (min i (suc (length old))) l ≡ sets old i l
sets-capped l old i =
    ⊎_elim
    (λ h. let e : min i (suc (length old)) ≡ i = omega arith in rw e)
    (λ h. let e : min i (suc (length old)) ≡ suc (length old) = omega arith in rw e (sets-out l old _ (omega arith) ∙ sym (sets-out l old i (omega arith))))
    (lt-or i (suc (length old)))

pub put_then : {a b c l m : List ℕ} {i j k : ℕ} → Put a i l b j → Put b j m c k → Put a i (l ++ m) c k
put_then {a} {b} {c} {l} {m} {i} {j} {k} p q =
    let len : length b ≡ length a = rw p.holds (length-sets a i l) in
    record {
      holds = q.holds ∙ rw (p.holds, p.ends, ← (length-sets a i l)) (sets-capped m _ _) ∙ sym (sets-append l m a i);
      ends = q.ends ∙ rw (len, p.ends, length-append l m) (omega arith);
    }

-- a byte that there is no room for
pub put-out : (old : List ℕ) (i b : ℕ) → length old ≤ i → Put old i (b ∷ []) old (length old + 1)
put-out old i b h = record { holds = sym (set_out old i b h); ends = omega arith }

-- where there was room
pub put-room : {old l new : List ℕ} {i j : ℕ} → Put old i l new j → j ≤ length old → (j ≡ i + length l) × (new ≡ take i old ++ l ++ drop (i + length l) old)
put-room {old} {l} {new} {i} {j} p h =
    let e : j ≡ i + length l = omega arith in
    (e, p.holds ∙ sets-eq l old i (omega arith))

-- a loop's turn: one byte more of a word
pub put-turn : {a b c : List ℕ} {i j k : ℕ} (word : List ℕ) (n : ℕ) → n < length word
    → Put a i (take n word) b j → Put b j (get_or word n 0 ∷ []) c k → Put a i (take (n + 1) word) c k
put-turn word n h p q = rw (add-one, take-suc word n 0) (put_then p q)

pub put-length : {old l new : List ℕ} {i j : ℕ} → Put old i l new j → length new ≡ length old
put-length {old} {l} {new} {i} p = rw p.holds (length-sets old i l)

-- nothing more, behind what was put
pub put-stays : {a b l : List ℕ} {i j : ℕ} → Put a i l b j → Put b j [] b j
put-stays p = record { holds = refl; ends = omega (arith, p.ends, put-length p) }
