use Rattle.meaning_numbers.proofs.Sum.{Σℕ-none, Σℕ-more, Σℕ-fewer}
use Rattle.meaning_numbers.proofs.Prelude.{◌≡◌, sym, ◌∙◌, ℕ, ◌+◌, ◌≤◌, ◌<◌, arith, length, get_or}
use Rattle.rows_pack.specs.Packed.{total}
use Rattle.rows_pack.proofs as own
use own.Packed.{summed-start, summed-more}
use Rattle.rows_pack.proofs.sum_up.Goals as goal

pub loop-i-init : goal.loop-i-init
loop-i-init c = (sym (Σℕ-none (λ k. get_or c.args.counts.now k 0)), summed-start _)

-- the sum with the next count
module _ (c : goal.After-slice_known-1) where
  next : c.loop-i.sum + get_or c.loop-i.counts c.loop-i.i 0 ≡ total c.args.counts.now c.loop-i.i + get_or c.args.counts.now c.loop-i.i 0
  next = let v = c.loop-i.invariant in omega (arith, v.0, v.1.rest c.loop-i.i (omega arith))

  small : c.loop-i.sum + get_or c.loop-i.counts c.loop-i.i 0 ≤ 4294967295
  small =
      let f : ℕ → ℕ = λ k. get_or c.args.counts.now k 0 in
      omega (arith, next, Σℕ-more c.loop-i.i f, Σℕ-fewer (c.loop-i.i + 1) c.args.n f (omega arith), c.requires.1)

  room : c.loop-i.i < length c.loop-i.counts
  room = omega arith

pub overflow_add-sum : goal.overflow_add-sum
overflow_add-sum c = omega (arith, small c)

pub loop-i-preserved : goal.loop-i-preserved
loop-i-preserved c = (
  next c ∙ sym (Σℕ-more _ (λ k. get_or c.args.counts.now k 0)),
  summed-more (c.loop-i.sum + get_or c.loop-i.counts c.loop-i.i 0) c.loop-i.invariant.1 (room c) (next c),
)
