-- `extend_planned`: the head's numbers are lifted, the passes made by them, and what stands in the buffers is answered.
use Rattle.std.proofs.Common.{ap, ◌∙◌, ℕ, get_or}
use Rattle.meaning_entries.specs.Buffers.{index_buffers}
use Rattle.rows_records.specs.Records.{zero_row}
use Rattle.entry_extend.proofs.Stages.{made_so}
use Rattle.entry_extend.proofs.AnswerLaws.{lift-asked, sizes, passes-asked, last-in, extended-kept}
use Rattle.entry_extend.proofs.extend_planned.Goals as goal

pub lift_of-l-requires : goal.lift_of-l-requires
lift_of-l-requires c =
    let a = c.args in
    lift-asked a.series.now a.head a.from.now a.lefts.now a.rights.now (index_buffers a.rows.now a.left.now a.right.now) c.requires

pub extend_passes-n-requires : goal.extend_passes-n-requires
extend_passes-n-requires c =
    let a = c.args in
    passes-asked a.series.now a.head a.from.now a.lefts.now a.rights.now (index_buffers a.rows.now a.left.now a.right.now) c.requires c.lift_of-l.ensures

pub row_at-r-requires : goal.row_at-r-requires
row_at-r-requires c =
    let a = c.args in
    let old = index_buffers a.rows.now a.left.now a.right.now in
    let made = made_so a.series.now a.head a.from.now a.lefts.now a.rights.now old c.lift_of-l.ensures c.extend_passes-n.ensures in
    rw c.saturating_sub.ensures (last-in a.series.now a.head a.from.now a.lefts.now a.rights.now old c.requires made.0 made.1)

pub answer-requires : goal.answer-requires
answer-requires c =
    let a = c.args in
    sizes a.series.now a.head a.from.now a.lefts.now a.rights.now (index_buffers a.rows.now a.left.now a.right.now) c.requires

pub returns : goal.returns
returns c =
    let a = c.args in
    let old = index_buffers a.rows.now a.left.now a.right.now in
    let made = made_so a.series.now a.head a.from.now a.lefts.now a.rights.now old c.lift_of-l.ensures c.extend_passes-n.ensures in
    rw c.answer.ensures
    (extended-kept a.series.now a.head a.from.now a.lefts.now a.rights.now old c.requires made.0 made.1 (c.row_at-r.ensures ∙ ap (λ (x : ℕ). get_or c.extend_passes-n.new.rows x zero_row) c.saturating_sub.ensures))
