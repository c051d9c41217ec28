-- `next_window` (`moved_on`); nothing wraps, as no window's sum is large (`out-fits`).
use Rattle.meaning_numbers.proofs.Prelude.{◌≡◌, ◌∙◌, ◌+◌, ◌≤◌, ℤ, ◌-ℤ◌, w32, to_z, of_z, to_z-of_z, up, dn, zarith, z-sub}
use Rattle.meaning_curves.specs.Curve.{at, window_sum}
use Rattle.numbers.proofs.Back.{plus-fits, plus-back}
use Rattle.values.proofs as own
use own.Window.{window-small, out-fits, out-sum, moved_on}
use Rattle.values.proofs.next_window.Goals as goal

module _ (c : goal.After-y-1) where
  -- the sum, and what leaves
  abbrev z : ℤ
  z = window_sum c.args.s.now c.args.w c.args.j

  abbrev x : ℤ
  x = at c.args.s.now c.args.j

  sum_is : to_z w32 (of_z w32 c.args.sum) ≡ z
  sum_is = to_z-of_z w32 _ c.ranges.sum ∙ c.requires.sum_value

  left_is : to_z w32 (of_z w32 (to_z w32 (of_z w32 c.args.sum) -ℤ to_z w32 (of_z w32 x))) ≡ z -ℤ x
  left_is = out-sum _ _ c.requires.all_in c.requires.w_le_longest_window sum_is _

  above : up (z -ℤ x) ≤ dn (z -ℤ x) + 1000000000
  above = let i = c.requires.all_in.at c.args.j in omega (zarith, z-sub z x, window-small c.args.w c.args.j c.requires.all_in, i.low, i.high, c.requires.w_le_longest_window)

  below : dn (z -ℤ x) ≤ up (z -ℤ x) + 1000000000
  below = let i = c.requires.all_in.at c.args.j in omega (zarith, z-sub z x, window-small c.args.w c.args.j c.requires.all_in, i.low, i.high, c.requires.w_le_longest_window)

pub overflow_sub-result : goal.overflow_sub-result
overflow_sub-result c = let a = c.args in out-fits a.w a.j c.requires.all_in c.requires.w_le_longest_window (sum_is c) a.j

pub overflow_add-result : goal.overflow_add-result
overflow_add-result c = plus-fits (left_is c) (above c) (below c) (c.requires.all_in.at _)

pub returns : goal.returns
returns c = let a = c.args in plus-back (left_is c) (above c) (below c) (c.requires.all_in.at _) ∙ moved_on _ a.w a.j
