-- `part_range`: the sums of w values are small.
use Rattle.meaning_numbers.proofs.Prelude.{rules, ◌≡◌, ◌∙◌, List, ℕ, ◌*◌, ◌≤◌, arith, ℤ, w32, w64, to_z, of_z, to_z-of_z}
use Rattle.meaning_curves.specs.Curve.{window_sum}
use Rattle.meaning_curves.proofs.Values.{AllIn}
use Rattle.numbers.specs.Small.{Small}
use Rattle.numbers.proofs.Small.{one_side, small-more, small-back}
use Rattle.values.proofs.Window.{window-small}
use Rattle.candidate_ranges.proofs.part_range.Goals as goal

sum-small : (s : List ℤ) (w j : ℕ) → w ≤ 256 → AllIn s → Small 2560000 (window_sum s w j)
sum-small s w j h a = let n = window-small w j a in small-more 2560000 (omega arith) (one_side _ _ n.0 n.1)

-- a small number, passed on
back : {z : ℤ} → Small 2560000 z → to_z w64 (of_z w64 z) ≡ z
back {z} h = small-back z (omega arith) h

passed : {z : ℤ} → Small 2560000 z → Small 2560000 (to_z w64 (of_z w64 z))
passed {z} h = rw (back h) h

module _ (c : goal.After-window_sum-most) where
  least-is : to_z w32 (of_z w32 c.window_sum-least.result) ≡ window_sum c.args.low.now c.args.w (c.args.i * c.args.w)
  least-is = to_z-of_z w32 _ (record { sfits = c.window_sum-least.type_inv }) ∙ c.window_sum-least.ensures

  least : Small 2560000 (to_z w32 (of_z w32 c.window_sum-least.result))
  least = rw least-is (sum-small _ _ _ c.requires.3 c.requires.4)

pub low_end-requires : goal.low_end-requires
low_end-requires c = (search rules, passed (least c))

module _ (c : goal.After-low_end) where
  most-is : to_z w32 (of_z w32 c.window_sum-most.result) ≡ window_sum c.args.high.now c.args.w (c.args.i * c.args.w)
  most-is = to_z-of_z w32 _ (record { sfits = c.window_sum-most.type_inv }) ∙ c.window_sum-most.ensures

  most : Small 2560000 (to_z w32 (of_z w32 c.window_sum-most.result))
  most = rw most-is (sum-small _ _ _ c.requires.3 c.requires.5)

pub high_end-requires : goal.high_end-requires
high_end-requires c = (search rules, passed (most c))
