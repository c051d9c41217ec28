-- What a value in its limits lies outside an envelope whose ends are in them: at most 20,000, its square at most 400,000,000, and so on for sums of such squares.
use Rattle.meaning_numbers.specs.Sum.{Σℕ, square}
use Rattle.meaning_numbers.proofs.Prelude.{◌≡◌, List, ℕ, ◌+◌, ◌-◌, ◌*◌, ◌≤◌, arith, ℤ, pos, negsuc, ◌-ℤ◌, up, dn, zarith, z-sub}
use Rattle.meaning_numbers.proofs.{Sum.Σℕ-le, Root.sq-le}
use Rattle.meaning_curves.specs.Curve.{at, stretch}
use Rattle.meaning_curves.proofs.Values.{InLimits, AllIn}
use Rattle.meaning_filter.proofs.Bound.{excess, apart}

-- of the two numbers of a whole number one is 0
pub up_is : (z : ℤ) → up z ≡ up z - dn z
up_is (pos n) = omega arith
up_is (negsuc n) = omega arith

pub excess_small : {l u x : ℤ} → InLimits l → InLimits u → InLimits x → excess l u x ≤ 20000
excess_small {l} {u} {x} h k i = omega (zarith, up_is (x -ℤ u), up_is (l -ℤ x), z-sub x u, z-sub l x, h.low, h.high, k.low, k.high, i.low, i.high)

pub excess-sq-le : {l u x : ℤ} → InLimits l → InLimits u → InLimits x → square (excess l u x) ≤ 400000000
excess-sq-le h k i = omega (arith, sq-le (excess_small h k i))

-- n squares from place p on
pub aparts-le : {s low high : List ℤ} → AllIn s → AllIn low → AllIn high → (from p n : ℕ) → Σℕ n (λ k. apart (stretch s from) (at low) (at high) (p + k)) ≤ 400000000 * n
aparts-le {s} {low} {high} h k i from p n =
    Σℕ-le n 400000000 (λ j. apart (stretch s from) (at low) (at high) (p + j)) (λ j l. excess-sq-le (k.at (p + j)) (i.at (p + j)) (h.at _))
