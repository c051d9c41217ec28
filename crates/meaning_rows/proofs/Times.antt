-- A list of sets of offsets, each given as a test: how many of them have an offset (`times`), and their sizes added up (`sizes`), which count each offset as often (`sizes-more`).
-- And of ranges: where they ascend, at most one holds a sum (`holders-are`).
use Rattle.meaning_numbers.specs.{Sum.bit, Sum.count, Place.any}
use Rattle.meaning_numbers.proofs.Count.{bit-false}
use Rattle.meaning_numbers.proofs.Prelude.{◌≡◌, refl, Bool, false, List, [], ◌∷◌, ℕ, zero, suc, ◌+◌, ◌<◌, ◌≤◌, arith, le_step, ℤ, ◌≤ℤ◌, ◌<ℤ◌, zarith, by-test, clash}
use Rattle.meaning_rows.specs.Range.{inside}
use Rattle.meaning_rows.proofs.Range.{inside-below, is-inside}

-- how many of the sets have j
unfoldable pub times : List (ℕ → Bool) → ℕ → ℕ
times [] j = 0
times (p ∷ l) j = bit (p j) + times l j

-- how many offsets below n they have, each counted in each
unfoldable pub sizes : List (ℕ → Bool) → ℕ → ℕ
sizes [] n = 0
sizes (p ∷ l) n = count p n + sizes l n

sizes-none : (l : List (ℕ → Bool)) → sizes l 0 ≡ 0
unfolding sizes count
sizes-none [] = refl
sizes-none (p ∷ l) = omega (arith, sizes-none l)

pub sizes-more : (l : List (ℕ → Bool)) (n : ℕ) → sizes l (suc n) ≡ sizes l n + times l n
unfolding sizes count times
sizes-more [] n = refl
sizes-more (p ∷ l) n = omega (arith, sizes-more l n)

-- where at most one set has an offset, they have as many offsets as are in some set
pub sizes-count : (l : List (ℕ → Bool)) (p : ℕ → Bool) (n : ℕ) → ((j : ℕ) → j < n → times l j ≡ bit (p j)) → sizes l n ≡ count p n
unfolding count
sizes-count l p zero h = sizes-none l
sizes-count l p (suc n) h = omega (arith, sizes-more l n, sizes-count l p n (λ j b. h j (le_step b)), h n (omega arith))

-- where each offset stands in one set, all are counted once
pub sizes-all : (l : List (ℕ → Bool)) (n : ℕ) → ((j : ℕ) → j < n → times l j ≡ 1) → sizes l n ≡ n
sizes-all l zero h = sizes-none l
sizes-all l (suc n) h = omega (arith, sizes-more l n, sizes-all l n (λ j b. h j (le_step b)), h n (omega arith))

-- where each offset from m on stands in one set, n - m more are counted
pub sizes-once : (l : List (ℕ → Bool)) (m k : ℕ) → ((j : ℕ) → m ≤ j → j < m + k → times l j ≡ 1) → sizes l (m + k) ≡ sizes l m + k
sizes-once l m zero h = let e : m + 0 ≡ m = omega arith in rw e (omega arith)
sizes-once l m (suc k) h =
    let e : m + suc k ≡ suc (m + k) = omega arith in
    rw e (omega (arith, sizes-more l (m + k), sizes-once l m k (λ j a b. h j a (omega arith)), h (m + k) (omega arith) (omega arith)))

-- where no set has j the number is 0
pub none-times : (l : List (ℕ → Bool)) (j : ℕ) → any (λ p. p j) l ≡ false → times l j ≡ 0
unfolding any times
none-times [] j e = refl
none-times (p ∷ l) j e = by-test (p j) (λ t. clash refl (rw t at e)) (λ f. omega (arith, bit-false f, none-times l j (rw f at e)))

-- ---- ranges

abbrev pub Range : Type 0
Range = ℤ × ℤ

-- the range holds z
abbrev pub holds : ℤ → Range → Bool
holds z r = inside r.0 r.1 z

-- nonempty ranges in order, not overlapping, from a on
unfoldable pub Ascending : ℤ → List Range → Type 0
Ascending a [] = Unit {0}
Ascending a (r ∷ l) = (a ≤ℤ r.0) × (r.0 <ℤ r.1) × Ascending r.1 l

-- how many ranges hold z
unfoldable pub holders : List Range → ℤ → ℕ
holders [] z = 0
holders (r ∷ l) z = bit (holds z r) + holders l z

pub holders-below : (a z : ℤ) (l : List Range) → Ascending a l → z <ℤ a → holders l z ≡ 0
unfolding Ascending holders bit
holders-below a z [] p h = refl
holders-below a z (r ∷ l) p h =
    let e : z <ℤ r.0 = omega zarith in
    rw (inside-below r.0 r.1 z e) (omega (arith, holders-below r.1 z l p.2 (omega zarith)))

pub holders-are : (a z : ℤ) (l : List Range) → Ascending a l → holders l z ≡ bit (any (holds z) l)
unfolding Ascending holders any bit
holders-are a z [] p = refl
holders-are a z (r ∷ l) p = by-test (holds z r)
    (λ t. rw t (omega (arith, holders-below r.1 z l p.2 (is-inside r.0 r.1 z t).1)))
    (λ f. rw f (omega (arith, holders-are r.1 z l p.2)))
