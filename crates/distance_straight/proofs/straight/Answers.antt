use Rattle.meaning_numbers.specs.Sum.{Σℕ}
use Rattle.meaning_numbers.proofs.Prelude.{◌≡◌, List, ℕ, ◌+◌, ◌*◌, ◌≤◌, arith, ℤ}
use Rattle.meaning_curves.specs.{Curve.at, Curve.stretch, Straight.cost, Straight.straight}
use Rattle.meaning_curves.proofs.Values.{AllIn, costs-le}
use Rattle.numbers.proofs.Blocks.{Made, made_none, made_more, made-left, made-whole}
use Rattle.distance_straight.proofs.straight.Goals as goal

-- what a block of n values from place i on adds
module _ {s q : List ℤ} (in_s : AllIn s) (in_q : AllIn q) (from i n : ℕ) {r : ℕ} (told : r ≡ Σℕ n (λ k. cost (stretch s from (i + k)) (at q (i + k)))) where
  small : r ≤ 400000000 * n
  small = omega (arith, told, costs-le in_s in_q from i n)

  more : {total : ℕ} → Made (λ k. cost (stretch s from k) (at q k)) 400000000 i total → Made (λ k. cost (stretch s from k) (at q k)) 400000000 (i + n) (total + r)
  more d = made_more n r d told small

pub loop-i-init : goal.loop-i-init
loop-i-init c = (omega arith, omega arith, made_none _ _)

pub overflow_add-total : goal.overflow_add-total
overflow_add-total c = omega (arith, small c.requires.all_in c.requires.all_in_2 c.args.from c.loop-i.i 16 c.part-total.ensures)

pub returns-then-limit-total : goal.returns-then-limit-total
unfolding straight
returns-then-limit-total c = made-left (more c.requires.all_in c.requires.all_in_2 c.args.from c.loop-i.i 16 c.part-total.ensures c.loop-i.invariant.2) (omega arith) (omega arith)

pub loop-i-preserved : goal.loop-i-preserved
loop-i-preserved c = (omega arith, omega arith, more c.requires.all_in c.requires.all_in_2 c.args.from c.loop-i.i 16 c.part-total.ensures c.loop-i.invariant.2)

pub overflow_add-result : goal.overflow_add-result
overflow_add-result c = omega (arith, small c.requires.all_in c.requires.all_in_2 c.args.from c.loop-i.i _ c.part.ensures)

pub returns : goal.returns
unfolding straight
returns c = made-whole (more c.requires.all_in c.requires.all_in_2 c.args.from c.loop-i.i _ c.part.ensures c.loop-i.invariant.2) (omega arith)
