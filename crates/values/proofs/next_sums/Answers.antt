-- `next_sums` (`slide-values`, `slide-squares`).
use Rattle.meaning_numbers.proofs.Root.{sq-le}
use Rattle.meaning_numbers.proofs.Prelude.{◌≡◌, ◌∙◌, sym, ℕ, ◌*◌, ◌≤◌, arith, ℤ}
use Rattle.meaning_curves.proofs.Values.{InLimits}
use Rattle.numbers.specs.Raised.{raised, raised-le}
use mir.Syntax.{w32}
use mir.Val.{to_z, of_z}
use Rattle.numbers.proofs.Back.{raised-back}
use Rattle.values.proofs as own
use own.SumsLaws.{sums-le, slide-values, slide-squares}
use Rattle.values.proofs.next_sums.Goals as goal

-- a raised value, as the meaning has it, is small, and so is its square
module _ {x : ℤ} {r : ℕ} (in_x : InLimits x) (e : r ≡ raised (to_z w32 (of_z w32 x))) where
  told : r ≡ raised x
  told = e ∙ raised-back in_x

  small : (r ≤ 20000) × (r * r ≤ 400000000)
  small = rw told (raised-le in_x, omega (arith, sq-le (raised-le in_x)))

pub overflow_add-result : goal.overflow_add-result
overflow_add-result c =
    let l = sums-le c.requires.all_in c.requires.are_sums in
    omega (arith, (small (c.requires.all_in.at _) c.raise-v.ensures).0, c.requires.m_le_longest_query)

pub overflow_sub-result : goal.overflow_sub-result
overflow_sub-result c =
    let u = told (c.requires.all_in.at _) c.raise-u.ensures in
    let v = told (c.requires.all_in.at _) c.raise-v.ensures in
    omega (arith, rw (sym u, sym v) at (slide-values c.requires.are_sums))

pub overflow_add-result-2 : goal.overflow_add-result-2
overflow_add-result-2 c =
    let l = sums-le c.requires.all_in c.requires.are_sums in
    omega (arith, (small (c.requires.all_in.at _) c.raise-v.ensures).1, c.requires.m_le_longest_query)

pub overflow_sub-result-2 : goal.overflow_sub-result-2
overflow_sub-result-2 c =
    let u = told (c.requires.all_in.at _) c.raise-u.ensures in
    let v = told (c.requires.all_in.at _) c.raise-v.ensures in
    omega (arith, rw (sym u, sym v) at (slide-squares c.requires.are_sums))

pub returns : goal.returns
returns c =
    let u = told (c.requires.all_in.at _) c.raise-u.ensures in
    let v = told (c.requires.all_in.at _) c.raise-v.ensures in
    record {
      values = omega (arith, rw (sym u, sym v) at (slide-values c.requires.are_sums));
      squares = omega (arith, rw (sym u, sym v) at (slide-squares c.requires.are_sums));
    }
