-- `normal_frame`: each step is small, so what the machine's bits say is said of the numbers.
use Rattle.meaning_numbers.proofs.Prelude.{◌≡◌, ◌∙◌, ◌+◌, ◌*◌, ◌≤◌, ℕ, arith, ℤ, pos, ◌+ℤ◌, ◌-ℤ◌, ◌*ℤ◌, w64, SFits, to_z, of_z, to_z-of_z}
use Rattle.meaning_filter.specs.declared.Limits.{Limits}
use Rattle.numbers.specs.Small.{Small}
use Rattle.numbers.proofs.Small.{small_pos, small_mul, small-fits, small-back, cast-back}
use Rattle.candidate_ranges.specs.Frame.{QueryIn}
use Rattle.candidate_ranges.proofs.Sizes.{reach-le, most-le, total-small, below-small, above-small}
use Rattle.candidate_ranges.proofs.normal_frame.Goals as goal

module _ {m w : ℕ} {l : Limits} {values spread : ℕ} (q : QueryIn m w l values spread) where
  values-le : values ≤ 20480000
  values-le = omega (arith, q.values-most, q.most)

  bias-le : 10000 * m ≤ 20480000
  bias-le = omega (arith, q.most)

  shift_le : m * l.shift ≤ 20480000
  shift_le = most-le _ _ q.most q.shift

  factor-le : 100 * w ≤ 25600
  factor-le = omega (arith, q.window)

  abbrev sum : ℤ
  sum = pos values -ℤ pos (10000 * m)

  abbrev most : ℤ
  most = pos (m * l.shift)

  most-back : to_z w64 (m * l.shift) ≡ most
  most-back = cast-back _ (omega arith) shift_le

  factor-back : to_z w64 (100 * w) ≡ pos (100 * w)
  factor-back = cast-back _ (omega arith) factor-le

  -- the sum, as the machine's bits have it
  abbrev total : ℤ
  total = to_z w64 (of_z w64 (to_z w64 values -ℤ to_z w64 (10000 * m)))

  total-is : total ≡ sum
  total-is = rw (cast-back _ (omega arith) values-le, cast-back _ (omega arith) bias-le) (small-back sum (omega arith) (total-small q))

  -- with the shift, at either end, and times 100 w
  module _ (step : ℤ → ℤ → ℤ) (s : Small 51200000 (step sum most)) where
    abbrev end : ℤ
    end = to_z w64 (100 * w) *ℤ to_z w64 (of_z w64 (step total (to_z w64 (m * l.shift))))

    end-is : end ≡ pos (100 * w) *ℤ step sum most
    end-is = rw (total-is, most-back, small-back (step sum most) (omega arith) s, factor-back)

    end-small : Small 1310720000000 end
    end-small = rw end-is (small_mul _ _ (small_pos 25600 _ factor-le) s)

    fits : SFits w64 end
    fits = small-fits (omega arith) end-small

    back : to_z w64 (of_z w64 end) ≡ pos (100 * w) *ℤ step sum most
    back = small-back end (omega arith) end-small ∙ end-is

pub overflow_add-result : goal.overflow_add-result
overflow_add-result c = omega (arith, c.root.ensures, reach-le _ _ c.requires.window c.requires.threshold, c.requires.window)

pub overflow_cast-result : goal.overflow_cast-result
overflow_cast-result c =
    let r : c.root.result + c.args.w ≤ 16000256 = omega (arith, c.root.ensures, reach-le _ _ c.requires.window c.requires.threshold, c.requires.window) in
    small-fits {n = 16000256} (omega arith) (small_pos 16000256 _ r)

pub overflow_mul-result : goal.overflow_mul-result
overflow_mul-result c = fits c.requires ◌-ℤ◌ (below-small c.requires)

pub overflow_mul-result-2 : goal.overflow_mul-result-2
overflow_mul-result-2 c = fits c.requires ◌+ℤ◌ (above-small c.requires)

pub returns : goal.returns
returns c =
    let r : c.root.result + c.args.w ≤ 16000256 = omega (arith, c.root.ensures, reach-le _ _ c.requires.window c.requires.threshold, c.requires.window) in
    cc (
      cast-back {n = 16000256} (c.root.result + c.args.w) (omega arith) r,
      c.root.ensures,
      to_z-of_z w64 c.low_scale.result (record { sfits = c.low_scale.type_inv }),
      c.low_scale.ensures,
      to_z-of_z w64 c.high_scale.result (record { sfits = c.high_scale.type_inv }),
      c.high_scale.ensures,
      back c.requires ◌-ℤ◌ (below-small c.requires),
      back c.requires ◌+ℤ◌ (above-small c.requires),
    )
