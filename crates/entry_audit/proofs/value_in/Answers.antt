-- `value_in` (`window-last`); nothing wraps, as no window's sum is large (`in-fits`).
use Rattle.meaning_numbers.proofs.Prelude.{◌≡◌, ◌∙◌, arith, w32, to_z, of_z, to_z-of_z}
use Rattle.meaning_curves.specs.Curve.{window_sum}
use Rattle.values.proofs.Window.{in-fits, in_sum, window-last}
use Rattle.entry_audit.proofs.value_in.Goals as goal

module _ (c : goal.After-x-1) where
  sum_is : to_z w32 (of_z w32 c.args.part) ≡ window_sum c.args.s.now c.args.rest c.args.j
  sum_is = to_z-of_z w32 _ c.ranges.part ∙ c.requires.part_value

pub overflow_add-result : goal.overflow_add-result
overflow_add-result c = let a = c.args in in-fits a.rest a.j c.requires.all_in (omega arith) (sum_is c) _

pub returns : goal.returns
returns c = let a = c.args in in_sum a.rest a.j c.requires.all_in (omega arith) (sum_is c) _ ∙ window-last a.s.now a.rest a.j
