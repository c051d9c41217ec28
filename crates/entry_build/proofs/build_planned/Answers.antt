-- `build_planned`: the rows are built by the numbers of the plan, and what stands in the index_buffers is answered.
use Rattle.meaning_numbers.proofs.Prelude.{◌≡◌, length}
use Rattle.meaning_rows.specs.Build.{built}
use Rattle.meaning_entries.specs.Buffers.{index_buffers}
use Rattle.build_passes.specs.Filled.{Holds}
use Rattle.entry_build.proofs.Stages.{many, held}
use Rattle.entry_build.proofs.AnswerLaws.{plan-sizes, plan-lays, some-rows, last-in, built-kept}
use Rattle.entry_build.proofs.build_planned.Goals as goal

pub build_rows-n-requires : goal.build_rows-n-requires
build_rows-n-requires c =
    let a = c.args in
    rw c.from.ensures (plan-lays a.series.now a.w a.d a.g (index_buffers a.rows.now a.left.now a.right.now) a.p c.requires)

pub overflow_sub-n : goal.overflow_sub-n
overflow_sub-n c =
    let a = c.args in
    let b = index_buffers a.rows.now a.left.now a.right.now in
    some-rows a.series.now a.w a.d a.g b a.p c.requires (many a.series.now a.w a.d a.g b a.p c.requires c.from.ensures c.build_rows-n.ensures)

pub row_at-r-requires : goal.row_at-r-requires
row_at-r-requires c =
    let a = c.args in
    let b = index_buffers a.rows.now a.left.now a.right.now in
    let m : c.build_rows-n.result ≡ length (built a.series.now a.w a.d a.g).rows = many a.series.now a.w a.d a.g b a.p c.requires c.from.ensures c.build_rows-n.ensures in
    let h : Holds a.d a.g a.series.now a.w b (index_buffers c.build_rows-n.new.rows c.build_rows-n.new.left c.build_rows-n.new.right) = held a.series.now a.w a.d a.g b a.p c.requires c.from.ensures c.build_rows-n.ensures in
    last-in a.series.now a.w a.d a.g b a.p c.requires m h

pub answer-requires : goal.answer-requires
answer-requires c =
    let a = c.args in
    plan-sizes a.series.now a.w a.d a.g (index_buffers a.rows.now a.left.now a.right.now) a.p c.requires

pub returns : goal.returns
returns c =
    let a = c.args in
    let b = index_buffers a.rows.now a.left.now a.right.now in
    let m : c.build_rows-n.result ≡ length (built a.series.now a.w a.d a.g).rows = many a.series.now a.w a.d a.g b a.p c.requires c.from.ensures c.build_rows-n.ensures in
    let h : Holds a.d a.g a.series.now a.w b (index_buffers c.build_rows-n.new.rows c.build_rows-n.new.left c.build_rows-n.new.right) = held a.series.now a.w a.d a.g b a.p c.requires c.from.ensures c.build_rows-n.ensures in
    rw c.answer.ensures (built-kept a.series.now a.w a.d a.g b a.p c.requires m h c.row_at-r.ensures)
