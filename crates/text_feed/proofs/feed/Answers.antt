-- `feed`. What a byte does to what is kept is what it does to the automaton; a byte that is refused refuses the text.
use mir.Val.{SFits}
use Rattle.meaning_numbers.proofs.Prelude.{◌≡◌, length, arith, sym, rules, w64, to_z-of_z}
use Rattle.text_feed.proofs.FeedLaws.{sofar-to, sofar-value, sofar-ended, sofar-refuse, comes-failed, comes-going}
use Rattle.text_feed.proofs.feed.Goals as goal
use Rattle.text_feed.proofs.feed.Goals.{in-To, in-Value, in-Ended}

pub loop-i-preserved : goal.loop-i-preserved
loop-i-preserved c =
    elim c.match-line_step.branch [
      | in-To w ↦ rw (w.numbers-is, w.series-is, w.query-is, w.s-is, w.v-is, w.q-is) (sofar-to c.loop-i.invariant c.loop-i-test.true w.in-To.n (sym w.in-To.ensures))
      | in-Value w ↦
          let z = w.in-Value.z in
          let fits : SFits w64 z = search rules in
          rw (w.numbers-is, w.series-is, w.query-is, w.s-is, w.v-is, w.q-is, w.put.ensures, w.number_place.ensures, w.kept-v.ensures.out_after, w.kept-v.ensures.value, w.in_series.ensures, w.kept-q.ensures.out_after, w.kept-q.ensures.value, w.in_query.ensures, to_z-of_z w64 z fits)
          (sofar-value c.loop-i.invariant c.loop-i-test.true w.in-Value.n w.in-Value.place z (sym w.in-Value.ensures))
      | in-Ended w ↦
          let fits : SFits w64 w.kind_number.result = search rules in
          rw (w.numbers-is, w.series-is, w.query-is, w.s-is, w.v-is, w.q-is, w.put-in-Ended.ensures, w.kind_place.ensures, to_z-of_z w64 w.kind_number.result fits, w.kind_number.ensures)
          (sofar-ended c.loop-i.invariant c.loop-i-test.true w.in-Ended.n w.in-Ended.w (sym w.in-Ended.ensures))
    ]

pub returns-in-Refuse-clause-comes : goal.returns-in-Refuse-clause-comes
returns-in-Refuse-clause-comes c =
    λ g kept asked. comes-failed c.args.p _ _ _ _ _ _ _ _ g kept asked (sofar-refuse c.loop-i.invariant c.loop-i-test.true (sym c.in-Refuse.ensures) g kept asked)

pub returns-clause-comes : goal.returns-clause-comes
returns-clause-comes c =
    let e : c.loop-i.i ≡ length c.args.piece.now = omega arith in
    rw (← e) (λ g kept asked. comes-going c.args.p _ _ _ _ _ _ _ _ _ _ _ c.loop-i.invariant c.loop-i-test.false g kept asked)
