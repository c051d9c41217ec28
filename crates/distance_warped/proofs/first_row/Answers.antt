use Rattle.meaning_numbers.proofs.Prelude.{◌≡◌, ◌∙◌, sym, ℕ, ◌+◌, ◌≤◌, arith, ℤ}
use Rattle.meaning_curves.specs.{Curve.at, Curve.stretch, Straight.cost}
use Rattle.meaning_curves.proofs.Values.{cost-le}
use Rattle.numbers.proofs.Back.{cost-back}
use Rattle.distance_warped.specs.Rows.{before-none, before_more, cells, first-start, first-end, first_cell}
use Rattle.distance_warped.proofs as own
use own.Rows.{halfway-more}
use Rattle.distance_warped.proofs.first_row.Goals as goal

pub loop-j-init : goal.loop-j-init
loop-j-init c =
    (first-start (stretch c.args.s.now c.args.from) (at c.args.q.now) _ _ _ c.fill_row.ensures, sym (before-none 0 _), omega arith)

-- a turn
module _ (l : goal.After-squared-left) where
  abbrev S : ℕ → ℤ
  S = stretch l.args.s.now l.args.from

  abbrev Q : ℕ → ℤ
  Q = at l.args.q.now

  small : (x y : ℕ) → cost (S x) (Q y) ≤ 400000000
  small x y = cost-le (l.requires.all_in.0.at _) (l.requires.all_in.1.at _)

told : (c : goal.After-squared-left) → c.squared-left.result ≡ cost (S c 0) (Q c c.loop-j.j)
told c =
    let e : c.args.from + 0 ≡ c.args.from = omega arith in
    rw e (c.squared-left.ensures ∙ cost-back (c.requires.all_in.0.at _) (c.requires.all_in.1.at _))

pub overflow_add-left : goal.overflow_add-left
overflow_add-left c = omega (arith, told c, small c 0 c.loop-j.j)

pub loop-j-preserved : goal.loop-j-preserved
loop-j-preserved c =
    let f = cells (S c) (Q c) c.args.b 0 in
    let j = c.loop-j.j in
    let v = c.loop-j.invariant in
    let new : c.loop-j.left + c.squared-left.result ≡ f j = omega (arith, told c, v.1, first_cell (S c) (Q c) c.args.b (small c) j (record { first = omega arith; second = omega arith })) in (
      halfway-more _ v.0 (omega arith) new,
      new ∙ sym (before_more 0 f j),
      omega (arith, told c, small c 0 j),
    )

pub returns : goal.returns
returns c = first-end (stretch c.args.s.now c.args.from) (at c.args.q.now) _ _ _ _ (omega arith) c.loop-j.invariant.0
