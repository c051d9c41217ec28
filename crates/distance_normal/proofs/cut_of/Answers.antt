-- `cut_of`: the estimate or one more (`estimate`, `cut-flag`).
use Rattle.meaning_numbers.proofs.Prelude.{ℕ, ◌*◌, ◌/◌, arith}
use Rattle.distance_normal.proofs as own
use own.Normal.{Estimate, estimate, cut-flag}
use Rattle.distance_normal.proofs.cut_of.Goals as goal

abbrev e : goal.Start → ℕ
e c = 100 * c.args.d * c.args.f / 2147483648

facts : (c : goal.Start) → Estimate c.args.a c.args.f (100 * c.args.d) (e c)
facts c = estimate _ _ (omega arith) c.requires.a_nonzero c.requires.a_bound c.requires.factor (omega arith) (omega arith)

pub overflow_mul-more : goal.overflow_mul-more
overflow_mul-more c = omega (arith, (facts c).next)

pub overflow_mul-more-2 : goal.overflow_mul-more-2
overflow_mul-more-2 c = omega (arith, (facts c).next-times)

pub returns : goal.returns
returns c = cut-flag (facts c)
