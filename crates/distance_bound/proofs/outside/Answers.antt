-- `outside`: the greater of the two differences, and 0 where it is negative.
use mir.Val.{SFits}
use Rattle.std.specs.Int.{int_max}
use Rattle.meaning_numbers.proofs.Order.{maxℤ-one}
use Rattle.meaning_numbers.proofs.Prelude.{◌≡◌, ◌⊎◌, ⊎_elim, ℤ, pos, ◌-ℤ◌, ◌≤ℤ◌, max, nat_abs, w32, to_z, of_z, to_z-of_z, z-abs, zarith, zmach32, up, z-sub}
use Rattle.meaning_curves.proofs.Values.{InLimits}
use Rattle.meaning_filter.proofs.{Apart.up_is}
use Rattle.numbers.proofs.Order.{max-same}
use Rattle.distance_bound.proofs.outside.Goals as goal

-- a difference of two values, as the machine reads it
read : {x y : ℤ} → InLimits x → InLimits y → to_z w32 (of_z w32 (to_z w32 (of_z w32 x) -ℤ to_z w32 (of_z w32 y))) ≡ x -ℤ y
read {x} {y} h k =
    let f : SFits w32 x = omega (zmach32, h.low, h.high) in
    let g : SFits w32 y = omega (zmach32, k.low, k.high) in
    let e : SFits w32 (x -ℤ y) = omega (zmach32, z-sub x y, h.low, h.high, k.low, k.high) in
    rw (to_z-of_z w32 x f, to_z-of_z w32 y g) (to_z-of_z w32 _ e)

either : {d : ℤ} (a b : ℤ) → d ≡ int_max a b → (d ≡ b) ⊎ (d ≡ a)
either a b e = rw (e, max-same a b) (maxℤ-one a b)

-- the size of r, the greatest of a, b and 0
size : (a b d r : ℤ) → a ≤ℤ d → b ≤ℤ d → (d ≡ b) ⊎ (d ≡ a) → d ≤ℤ r → pos 0 ≤ℤ r → (r ≡ pos 0) ⊎ (r ≡ d) → nat_abs r ≡ max (up a) (up b)
size a b d r h k one u z two =
    let none : r ≡ pos 0 → nat_abs r ≡ max (up a) (up b) = λ e. omega (zarith, z-abs r, up_is a, up_is b) in
    ⊎_elim none
    (λ e. ⊎_elim (λ f. omega (zarith, z-abs r, up_is a, up_is b)) (λ f. omega (zarith, z-abs r, up_is a, up_is b)) one)
    two

pub returns : goal.returns
returns c =
    let D = to_z-of_z w32 c.max-d.result (record { sfits = c.max-d.type_inv }) in
    let R = to_z-of_z w32 c.max.result (record { sfits = c.max.type_inv }) in
    let p = c.max-d.ensures in
    let q = c.max.ensures in
    let s = size _ _ _ _ p.self_bound p.other_bound (either _ _ p.value) (rw D at q.self_bound) q.other_bound (either _ _ (rw D at q.value)) in
    rw R (rw (read c.requires.in_limits_3 c.requires.in_limits_2, read c.requires.in_limits c.requires.in_limits_3) at s)
