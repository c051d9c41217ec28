-- `build`: a plan that refuses leaves the index_buffers as they were; else the index is built.
use Rattle.std.specs.Prelude.{Err}
use Rattle.std.proofs.Common.{◌≡◌, rules}
use Rattle.meaning_entries.specs.Buffers.{index_buffers}
use Rattle.entry_build.proofs.AnswerLaws.{refused-kept}
use Rattle.entry_build.proofs.build.Goals as goal

pub returns-in_err-p : goal.returns-in_err-p
returns-in_err-p c =
    let a = c.args in
    let e : c.from_residual.result ≡ Err c.in_err-p.field-0.0 = search rules in
    rw e (refused-kept a.series.now a.w a.d a.g (index_buffers a.rows.now a.left.now a.right.now) c.in_err-p.ensures)
