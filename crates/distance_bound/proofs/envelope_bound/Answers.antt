use Rattle.meaning_numbers.specs.Sum.{Σℕ}
use Rattle.meaning_numbers.proofs.Prelude.{◌≡◌, List, ℕ, ◌+◌, ◌*◌, ◌≤◌, arith, ℤ}
use Rattle.meaning_curves.specs.Curve.{at, stretch}
use Rattle.meaning_curves.proofs.Values.{AllIn}
use Rattle.meaning_filter.proofs.{Bound.apart, Apart.aparts-le}
use Rattle.numbers.proofs.Blocks.{Made, made_none, made_more, made-left, made-whole}
use Rattle.distance_bound.proofs.envelope_bound.Goals as goal

-- what a block of n values from place i on adds
module _ {s low high : List ℤ} (all : AllIn s × AllIn low × AllIn high) (from i n : ℕ) {r : ℕ} (told : r ≡ Σℕ n (λ k. apart (stretch s from) (at low) (at high) (i + k))) where
  small : r ≤ 400000000 * n
  small = omega (arith, told, aparts-le all.0 all.1 all.2 from i n)

  more : {total : ℕ} → Made (apart (stretch s from) (at low) (at high)) 400000000 i total → Made (apart (stretch s from) (at low) (at high)) 400000000 (i + n) (total + r)
  more d = made_more n r d told small

pub loop-i-init : goal.loop-i-init
loop-i-init c = (omega arith, omega arith, made_none _ _)

pub overflow_add-total : goal.overflow_add-total
overflow_add-total c = omega (arith, small c.requires.all_in c.args.from c.loop-i.i 16 c.envelope_part-total.ensures)

pub returns-then-limit-total : goal.returns-then-limit-total
returns-then-limit-total c = made-left (more c.requires.all_in c.args.from c.loop-i.i 16 c.envelope_part-total.ensures c.loop-i.invariant.2) (omega arith) (omega arith)

pub loop-i-preserved : goal.loop-i-preserved
loop-i-preserved c = (omega arith, omega arith, more c.requires.all_in c.args.from c.loop-i.i 16 c.envelope_part-total.ensures c.loop-i.invariant.2)

pub overflow_add-result : goal.overflow_add-result
overflow_add-result c = omega (arith, small c.requires.all_in c.args.from c.loop-i.i _ c.envelope_part.ensures)

pub returns : goal.returns
returns c = made-whole (more c.requires.all_in c.args.from c.loop-i.i _ c.envelope_part.ensures c.loop-i.invariant.2) (omega arith)
