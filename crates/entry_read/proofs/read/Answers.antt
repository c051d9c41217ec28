-- `read`. The text is judged and its runs are stored, the row records past the rows cleared, and the rows filled in.
use Rattle.std.specs.Prelude.{Err}
use Rattle.std.proofs.Common.{◌≡◌, ap, ◌∙◌, arith, rules}
use Rattle.text_rows.specs.Line.{stored}
use Rattle.entry_read.proofs.Kept.{loads-inside, load-right, rows-stored, rows-kept}
use Rattle.entry_read.proofs.read.Goals as goal

pub returns-in_err-held : goal.returns-in_err-held
returns-in_err-held c =
    let a = c.args in
    let e : c.from_residual.result ≡ Err c.in_err-held.field-0.0 = search rules in
    rw e (load-right a.text.now a.rows.now _ a.left.now a.right.now _ _ _ c.in_err-held.ensures (rows-kept a.text.now _ a.rows.now))

pub clear_rows-requires : goal.clear_rows-requires
clear_rows-requires c = loads-inside c.in_ok-held.ensures

pub fill_rows-requires : goal.fill_rows-requires
fill_rows-requires c = omega (arith, loads-inside c.in_ok-held.ensures)

pub returns : goal.returns
returns c =
    let a = c.args in
    load-right a.text.now a.rows.now _ a.left.now a.right.now _ _ _ c.in_ok-held.ensures
    (c.fill_rows.ensures ∙ ap (stored a.text.now c.in_ok-held.held.rows) c.clear_rows.ensures ∙ rows-stored a.text.now _ a.rows.now)
