-- Laws of sums over the indices below n, over ℤ and over ℕ, and the bridge between them (`rep-Σ`). Each lemma is an induction on the number of terms, one `omega` a step.
-- `Σℕ-split` cuts a sum in two; a part of a sum of naturals is at most the whole (`Σℕ-part`).
use native.Mathlib.Nat.{le_step, add-suc}
use Rattle.meaning_numbers.specs.Sum.{Σℤ, Σℕ}
use Rattle.meaning_numbers.proofs.Rep.{Rep, up, dn, rep-self, rep_pos, rep_add, rep-sub, rep_mul, rep-eq}
use Rattle.meaning_numbers.proofs.Prelude.{ℕ, zero, suc, ◌+◌, ◌-◌, ◌*◌, ◌<◌, ◌≤◌, ℤ, pos, ◌-ℤ◌, ◌*ℤ◌, ◌≡◌, refl, add-one, arith}

pub Σℕ-none : (f : ℕ → ℕ) → Σℕ 0 f ≡ 0
unfolding Σℕ
Σℕ-none f = refl

pub Σℕ-more : (n : ℕ) (f : ℕ → ℕ) → Σℕ (n + 1) f ≡ Σℕ n f + f n
unfolding Σℕ
Σℕ-more n f = rw (add-one n)

-- what is a − b at each index is a sum of a's less a sum of b's
pub rep-Σ : (n : ℕ) (f : ℕ → ℤ) (a b : ℕ → ℕ) → ((j : ℕ) → j < n → Rep (f j) (a j) (b j)) → Rep (Σℤ n f) (Σℕ n a) (Σℕ n b)
unfolding Σℤ Σℕ
rep-Σ zero f a b h = rep_pos 0
rep-Σ (suc n) f a b h = rep_add (rep-Σ n f a b (λ j l. h j (le_step l))) (h n (omega arith))

-- in particular by the canonical pairs
pub rep-Σ-self : (n : ℕ) (f : ℕ → ℤ) → Rep (Σℤ n f) (Σℕ n (λ k. up (f k))) (Σℕ n (λ k. dn (f k)))
rep-Σ-self n f = rep-Σ n f (λ k. up (f k)) (λ k. dn (f k)) (λ j l. rep-self (f j))

pub Σℕ-const : (n k : ℕ) → Σℕ n (λ _. k) ≡ k * n
unfolding Σℕ
Σℕ-const zero k = omega arith
Σℕ-const (suc n) k = omega (arith, Σℕ-const n k)

pub Σℕ-mono : (n : ℕ) (a b : ℕ → ℕ) → ((j : ℕ) → j < n → a j ≤ b j) → Σℕ n a ≤ Σℕ n b
unfolding Σℕ
Σℕ-mono zero a b h = omega arith
Σℕ-mono (suc n) a b h = omega (arith, Σℕ-mono n a b (λ j l. h j (le_step l)), h n (omega arith))

pub Σℤ-same : (n : ℕ) (f g : ℕ → ℤ) → ((j : ℕ) → j < n → f j ≡ g j) → Σℤ n f ≡ Σℤ n g
unfolding Σℤ
Σℤ-same zero f g h = refl
Σℤ-same (suc n) f g h = rw (Σℤ-same n f g (λ j l. h j (le_step l)), h n (omega arith))

pub Σℕ-same : (n : ℕ) (f g : ℕ → ℕ) → ((j : ℕ) → j < n → f j ≡ g j) → Σℕ n f ≡ Σℕ n g
unfolding Σℕ
Σℕ-same zero f g h = refl
Σℕ-same (suc n) f g h = rw (Σℕ-same n f g (λ j l. h j (le_step l)), h n (omega arith))

-- a sum cut in two
pub Σℕ-split : (p w : ℕ) (f : ℕ → ℕ) → Σℕ (p + w) f ≡ Σℕ p f + Σℕ w (λ k. f (p + k))
unfolding Σℕ
Σℕ-split p zero f = let e : p + 0 ≡ p = omega arith in rw e (omega arith)
Σℕ-split p (suc w) f = rw (add-suc p w) (omega (arith, Σℕ-split p w f))

pub Σℕ-part : (m p w : ℕ) (f : ℕ → ℕ) → p + w ≤ m → Σℕ w (λ k. f (p + k)) ≤ Σℕ m f
Σℕ-part m p w f h =
    let e : m ≡ p + w + (m - (p + w)) = omega arith in
    rw e (omega (arith, Σℕ-split (p + w) (m - (p + w)) f, Σℕ-split p w f))

-- fewer terms, no greater a sum
pub Σℕ-fewer : (n m : ℕ) (f : ℕ → ℕ) → n ≤ m → Σℕ n f ≤ Σℕ m f
Σℕ-fewer n m f h = let e : m ≡ n + (m - n) = omega arith in rw e (omega (arith, Σℕ-split n (m - n) f))

-- a sum of values that are each m times a value less t
pub Σℤ-centred : (m w : ℕ) (t : ℤ) (s : ℕ → ℤ) → Σℤ w (λ k. pos m *ℤ s k -ℤ t) ≡ pos m *ℤ Σℤ w s -ℤ pos w *ℤ t
unfolding Σℤ
Σℤ-centred m zero t s = rep-eq (rep_pos 0) (rep-sub (rep_mul (rep_pos m) (rep_pos 0)) (rep_mul (rep_pos 0) (rep-self t))) (omega arith)
Σℤ-centred m (suc w) t s =
    let S = rep-self (Σℤ w s) in
    let T = rep-self t in
    let X = rep-self (s w) in
    rw (Σℤ-centred m w t s)
    (rep-eq (rep_add (rep-sub (rep_mul (rep_pos m) S) (rep_mul (rep_pos w) T)) (rep-sub (rep_mul (rep_pos m) X) T))
    (rep-sub (rep_mul (rep_pos m) (rep_add S X)) (rep_mul (rep_pos (suc w)) T)) (omega arith))

pub Σℕ-le : (n k : ℕ) (a : ℕ → ℕ) → ((j : ℕ) → j < n → a j ≤ k) → Σℕ n a ≤ k * n
Σℕ-le n k a h = omega (arith, Σℕ-mono n a (λ _. k) h, Σℕ-const n k)
