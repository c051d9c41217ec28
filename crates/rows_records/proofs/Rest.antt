-- Plain facts of lists and counts.
--     by_bool          by cases on a test, with the equation in hand
--     drop-next        where i is below the length, what is left of a list from i on is its element i, and what is left from i + 1 on
--     set_long         a list with an element written is as long.     take_less, as_long       how long the first k of a list are
--     sub-fits         a difference fits where the greater number does
--     next_fits, next-upto, nearer, nearer-to, upto-end       of a count i that goes up to n
use native.Mathlib.Nat.{not-suc-le-zero, le_of_suc-le-suc}
use Rattle.meaning_numbers.proofs.Prelude.{ℕ, zero, suc, ◌+◌, ◌-◌, ◌<◌, ◌≤◌, length, get_or, set, take, drop, length-set, length-take, Bool, true, false, List, [], ◌∷◌, ◌≡◌, refl, ◌∙◌, arith}

pub by_bool {ℓ} : {X : Type ℓ} (t : Bool) → (t ≡ true → X) → (t ≡ false → X) → X
by_bool true a b = a refl
by_bool false a b = b refl

pub drop-next : {X : Type 0} (xs : List X) (i : ℕ) (d : X) → i < length xs → drop i xs ≡ get_or xs i d ∷ drop (suc i) xs
drop-next [] i d l = absurd (not-suc-le-zero l)
drop-next (x ∷ xs) zero d l = refl
drop-next (x ∷ xs) (suc i) d l = drop-next xs i d (le_of_suc-le-suc l)

pub set_long : {X : Type 0} {m : ℕ} (l : List X) (i : ℕ) (y : X) → length l ≡ m → length (set l i y) ≡ m
set_long l i y long = length-set l i y ∙ long

pub sub-fits : {m : ℕ} (a b : ℕ) → a < m → a - b < m
sub-fits a b l = omega (arith, l)

-- ---- counting up to n

pub next_fits : {m : ℕ} (i n : ℕ) → i < n → n < m → i + 1 < m
next_fits i n less l = omega (arith, l)

pub next-upto : (i n : ℕ) → i < n → i + 1 ≤ n
next-upto i n less = omega arith

pub nearer : (i n : ℕ) → i < n → n - (i + 1) < n - i
nearer i n less = omega arith

pub nearer-to : (i j n : ℕ) → i < j → i < n → n - j < n - i
nearer-to i j n further less = omega arith

pub upto-end : (i n : ℕ) → i ≤ n → n ≤ i → i ≡ n
upto-end i n most past = omega arith

-- ---- the first k elements

pub take_less : {X : Type 0} (k : ℕ) (xs : List X) → length (take k xs) ≤ length xs
take_less k xs = simp length-take (omega arith)

pub as_long : {X : Type 0} (xs : List X) {k n : ℕ} → length xs ≡ n → k ≤ n → k ≡ length (take k xs)
as_long xs {k} {n} e l = simp length-take (omega (arith, e, l))
