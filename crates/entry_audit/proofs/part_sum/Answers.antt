-- `part_sum` (`but_last`); nothing wraps, as no window's sum is large (`out-fits`).
use Rattle.meaning_numbers.proofs.Prelude.{◌≡◌, ◌∙◌, ◌+◌, arith, w32, to_z, of_z, to_z-of_z}
use Rattle.meaning_curves.specs.Curve.{window_sum}
use Rattle.values.proofs.Window.{out-fits, out-sum, but_last}
use Rattle.entry_audit.proofs.part_sum.Goals as goal

module _ (c : goal.After-x-1) where
  sum_is : to_z w32 (of_z w32 c.window_sum-sum.result) ≡ window_sum c.args.s.now (c.args.rest + 1) c.args.j
  sum_is = to_z-of_z w32 _ (record { sfits = c.window_sum-sum.type_inv }) ∙ c.window_sum-sum.ensures

pub overflow_sub-result : goal.overflow_sub-result
overflow_sub-result c = let a = c.args in out-fits _ a.j c.requires.all_in (omega arith) (sum_is c) _

pub returns : goal.returns
returns c = let a = c.args in out-sum _ a.j c.requires.all_in (omega arith) (sum_is c) _ ∙ but_last a.s.now a.rest a.j
