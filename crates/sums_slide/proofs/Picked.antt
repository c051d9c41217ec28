-- Laws of specs/Picked.
use Rattle.meaning_numbers.proofs.Prelude.{◌≡◌, refl, sym, ap, ◌∙◌, Bool, true, false, List, [], ◌∷◌, ◌++◌, append-nil, append_assoc, ℕ, zero, suc, ◌+◌, ◌<◌, ◌≤◌, arith, add-one, length, take, set, length-append, length-set, take-suc-set, by-test}
use Rattle.sums_slide.specs.Picked.{picked, Appended}

pub append-none : (k : ℕ) (old : List ℕ) → Appended [] k k old old
append-none k old = record { count = omega arith; long = refl; front = sym (append-nil _) }

pub append-one : {l old new : List ℕ} {k r : ℕ} (v : ℕ) → Appended l k r old new → r < length new → Appended (l ++ (v ∷ [])) k (r + 1) old (set new r v)
append-one {l} {old} {new} {k} {r} v a h = record {
  count = omega (arith, a.count, length-append l (v ∷ []));
  long = length-set new r v ∙ a.long;
  front = rw (add-one r, take-suc-set new r v h, a.front) (append_assoc (take k old) l _);
}

pub picked-start : (p : ℕ → Bool) (base : ℕ) → picked p base 0 ≡ []
unfolding picked
picked-start p base = refl

pub picked-yes : (p : ℕ → Bool) (base m : ℕ) → p (base + m) ≡ true → picked p base (m + 1) ≡ picked p base m ++ ((base + m) ∷ [])
unfolding picked
picked-yes p base m h = rw (add-one m, h)

pub picked-no : (p : ℕ → Bool) (base m : ℕ) → p (base + m) ≡ false → picked p base (m + 1) ≡ picked p base m
unfolding picked
picked-no p base m h = rw (add-one m, h)

-- two stretches, one after the other
pub picked-on : (p : ℕ → Bool) (base m k : ℕ) → picked p base (m + k) ≡ picked p base m ++ picked p (base + m) k
picked-on p base m zero = let e : m + 0 ≡ m = omega arith in rw (e, picked-start) (sym (append-nil (picked p base m)))
picked-on p base m (suc k) =
    let e : m + suc k ≡ (m + k) + 1 = omega arith in
    let f : suc k ≡ k + 1 = omega arith in
    let g : base + (m + k) ≡ base + m + k = omega arith in
    rw (e, f) (by-test _
    (λ t. rw (picked-yes p base (m + k) (ap p g ∙ t), picked-yes p _ k t, picked-on p base m k, g) (append_assoc (picked p base m) (picked p (base + m) k) ((base + m + k) ∷ [])))
    (λ t. rw (picked-no p base (m + k) (ap p g ∙ t), picked-no p _ k t) (picked-on p base m k)))

pub picked_none : (p : ℕ → Bool) (base m : ℕ) → ((x : ℕ) → x < m → p (base + x) ≡ false) → picked p base m ≡ []
unfolding picked
picked_none p base zero h = refl
picked_none p base (suc m) h = rw (h m (omega arith)) (picked_none p base m (λ x l. h x (omega arith)))

pub picked-cong : (p q : ℕ → Bool) (base m : ℕ) → ((x : ℕ) → x < m → p (base + x) ≡ q (base + x)) → picked p base m ≡ picked q base m
unfolding picked
picked-cong p q base zero h = refl
picked-cong p q base (suc m) h = rw (h m (omega arith), picked-cong p q base m (λ x l. h x (omega arith)))

-- no shorter for more numbers
pub picked_more : (p : ℕ → Bool) (base m k : ℕ) → length (picked p base m) ≤ length (picked p base (m + k))
picked_more p base m k = omega (arith, ap length (picked-on p base m k), length-append (picked p base m) (picked p (base + m) k))

-- one stretch behind the other
pub append-on : {l m old mid new : List ℕ} {k q r : ℕ} → Appended l k q old mid → Appended m q r mid new → Appended (l ++ m) k r old new
append-on {l} {m} {old} {mid} {new} {k} {q} {r} a b = record {
  count = omega (arith, a.count, b.count, length-append l m);
  long = b.long ∙ a.long;
  front = b.front ∙ rw a.front (append_assoc (take k old) l m);
}
