use Rattle.meaning_numbers.proofs.Prelude.{rules, ◌≡◌, ap, ◌∙◌, arith, w64, to_z-of_z}
use Rattle.candidate_met.specs.Stored.{raised_end}
use Rattle.candidate_spans.proofs.Held.{none-held, held_next, part_room}
use Rattle.candidate_spans.proofs.put_ends.Goals as goal

pub loop-i-init : goal.loop-i-init
loop-i-init c = (none-held _ _ 0 _ _, search rules, search rules)

pub part_range-range-requires : goal.part_range-range-requires
part_range-range-requires c =
    let r = part_room c.requires _ c.loop-i-test.true in
    (c.requires.frame, r.0, r.1, c.requires.window, c.requires.low-in, c.requires.high-in)

pub loop-i-preserved : goal.loop-i-preserved
loop-i-preserved c =
    let v = c.loop-i.invariant in
    let r = c.part_range-range.ensures in
    let low = c.raise_clamped-a.ensures ∙ ap raised_end (to_z-of_z w64 _ (record { sfits = search rules }) ∙ ap (λ y. y.low) r) in
    let high = c.raise_clamped-b.ensures ∙ ap raised_end (to_z-of_z w64 _ (record { sfits = search rules }) ∙ ap (λ y. y.high) r) in
    (held_next c.store_pair.ensures v.0 low high, c.store_pair.ensures.first-long ∙ v.1, c.store_pair.ensures.last-long ∙ v.2)

pub returns : goal.returns
returns c =
    let v = c.loop-i.invariant in
    let e : c.loop-i.i ≡ c.args.parts = omega arith in
    (rw e at v.0, v.1, v.2)
