-- `met_span`: the ends of the range are clamped, the rows that they reach found, and the stretch of runs told (`met-is`).
use Rattle.meaning_numbers.proofs.Prelude.{rules, ◌≡◌, ap, ◌∙◌, w32, w64, to_z, of_z, to_z-of_z}
use Rattle.candidate_met.specs.Met.{clamp_of}
use Rattle.candidate_met.proofs.Stretch.{met-is}
use Rattle.candidate_met.proofs.met_span.Goals as goal

pub returns : goal.returns
returns c =
    let low : to_z w32 (of_z w32 c.clamp-low.result) ≡ clamp_of c.args.range.low = to_z-of_z w32 _ (record { sfits = c.clamp-low.type_inv }) ∙ c.clamp-low.ensures ∙ ap clamp_of (to_z-of_z w64 _ (record { sfits = search rules })) in
    let high : to_z w32 (of_z w32 c.clamp-high.result) ≡ clamp_of c.args.range.high = to_z-of_z w32 _ (record { sfits = c.clamp-high.type_inv }) ∙ c.clamp-high.ensures ∙ ap clamp_of (to_z-of_z w64 _ (record { sfits = search rules })) in
    met-is c.args.rows.now (rw low at c.find_row-a.ensures) (rw high at c.find_row-b.ensures) c.zero_row-none.ensures c.row_or-first.ensures c.saturating_sub.ensures c.row_or-last.ensures c.row_or-edge.ensures (rw high at c.span_of.ensures)
