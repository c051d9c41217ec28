-- `walk_rows`. A byte of the text moves what is known as it moves the automaton; the walk stops where the text ends, a byte is refused, or something is filed wrongly.
use mir.Val.{SFits}
use Rattle.meaning_numbers.proofs.Prelude.{◌≡◌, sym, ◌∙◌, List, ℕ, ◌+◌, ◌<◌, ◌≤◌, arith, rules, ℤ, length, get_or, w64, to_z-of_z}
use Rattle.meaning_rows.specs.declared.Head.{Head}
use Rattle.text_index.specs.{declared.Field.Field, declared.State.State, declared.Moved.Moved, Step.index_step}
use Rattle.text_index.proofs.View.{Kept, kept-start, kept-to, kept-value, kept-closed}
use Rattle.payout_walk.specs.{declared.Walk.Walk, Walk.start_walk, Walk.tell_walk, Walk.shut_walk}
use Rattle.payout_walk.proofs.Run.{some-of}
use Rattle.payout_walk.proofs.Seen.{walked_end, walked-refuse, walked-stopped, tell-rows, shut-rows}
use Rattle.payout_walk.proofs.walk_rows.Goals as goal
use Rattle.payout_walk.proofs.walk_rows.Goals.{in-To, in-Value+else-is_some, in-Closed}

-- after a number
moved : (series : List ℤ) (head : Head) (text : List ℕ) (s : State) (t : Walk) (i : ℕ) (n : State) (p : Field) (z : ℤ) (u : Walk) → Kept (tell_walk series head) shut_walk start_walk text s t i → t.rows ≤ i → i < length text
    → index_step s (get_or text i 0) ≡ Moved.Value n p z → u ≡ tell_walk series head p z t → Kept (tell_walk series head) shut_walk start_walk text n u (i + 1) × (u.rows ≤ i + 1)
moved series head text s t i n p z u k r b e q = rw q (kept-value (tell_walk series head) shut_walk start_walk text s t i k b n p z e, omega (arith, r, tell-rows series head p z t))

pub loop-b-init : goal.loop-b-init
loop-b-init c = rw c.no_walk-t.ensures (kept-start (tell_walk c.args.series.now c.args.head) shut_walk start_walk _, omega arith)

pub returns-then-is_some : goal.returns-then-is_some
returns-then-is_some c =
    let a = c.args in
    let l = c.loop-b in
    let z = c.in-Value.z in
    let fits : SFits w64 z = search rules in
    let m = moved a.series.now a.head a.text.now l.s l.t l.b-index c.in-Value.n c.in-Value.p z c.tell-t.result l.invariant.0 l.invariant.1 c.loop-b-test.true (sym c.in-Value.ensures) (rw (to_z-of_z w64 z fits) at c.tell-t.ensures) in
    let p = some-of _ (sym c.is_some.ensures ∙ c.if-is_some.true) in
    walked-stopped a.series.now a.head _ c.in-Value.n c.tell-t.result (l.b-index + 1) p.0 m.0 p.1

pub returns-in-Refuse : goal.returns-in-Refuse
returns-in-Refuse c = walked-refuse c.args.series.now c.args.head _ c.loop-b.s c.loop-b.t c.loop-b.b-index c.loop-b.invariant.0 c.loop-b-test.true (sym c.in-Refuse.ensures)

pub loop-b-preserved : goal.loop-b-preserved
loop-b-preserved c =
    let a = c.args in
    let l = c.loop-b in
    elim c.match-index_step.branch [
      | in-To w ↦
          rw (w.s-is, w.t-is)
          (kept-to (tell_walk a.series.now a.head) shut_walk start_walk _ l.s l.t l.b-index l.invariant.0 c.loop-b-test.true w.in-To.n (sym w.in-To.ensures), omega (arith, l.invariant.1))
      | in-Value+else-is_some w ↦
          let z = w.in-Value.z in
          let fits : SFits w64 z = search rules in
          rw (w.s-is, w.t-is)
          (moved a.series.now a.head a.text.now l.s l.t l.b-index w.in-Value.n w.in-Value.p z w.tell-t.result l.invariant.0 l.invariant.1 c.loop-b-test.true (sym w.in-Value.ensures) (rw (to_z-of_z w64 z fits) at w.tell-t.ensures))
      | in-Closed w ↦
          rw (w.s-is, w.t-is, w.shut-t.ensures)
          (kept-closed (tell_walk a.series.now a.head) shut_walk start_walk _ l.s l.t l.b-index l.invariant.0 c.loop-b-test.true w.in-Closed.n (sym w.in-Closed.ensures), omega (arith, l.invariant.1, shut-rows l.t))
    ]

pub returns : goal.returns
returns c = walked_end c.args.series.now c.args.head _ c.loop-b.s c.loop-b.t c.loop-b.b-index c.loop-b.invariant.0 c.loop-b-test.false
