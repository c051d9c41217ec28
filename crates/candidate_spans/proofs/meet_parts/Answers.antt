use Rattle.meaning_numbers.proofs.Prelude.{◌≡◌, arith}
use Rattle.candidate_spans.proofs.MetLaws.{meeting-starts, meeting-ends, meeting-asks, meeting-stores, meeting-next}
use Rattle.candidate_spans.proofs.meet_parts.Goals as goal

pub loop-i-init : goal.loop-i-init
loop-i-init c = meeting-starts c.args.rows.now c.args.parts c.args.first.now c.args.last.now

pub range_at-range-requires : goal.range_at-range-requires
range_at-range-requires c = meeting-asks c.requires c.loop-i.invariant c.loop-i-test.true

pub put_span-requires : goal.put_span-requires
put_span-requires c = rw (c.met_span-span.ensures, c.range_at-range.ensures) (meeting-stores c.requires c.loop-i.invariant c.loop-i-test.true)

pub loop-i-preserved : goal.loop-i-preserved
loop-i-preserved c = meeting-next c.requires c.loop-i.invariant c.loop-i-test.true (rw (c.met_span-span.ensures, c.range_at-range.ensures) at c.put_span.ensures)

pub returns : goal.returns
returns c =
    let e : c.loop-i.i ≡ c.args.parts = omega arith in
    meeting-ends c.requires c.loop-i.invariant e
