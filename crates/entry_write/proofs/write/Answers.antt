-- `write`. The index is judged and its text counted; where that is not refused, the text is written.
use Rattle.std.specs.Prelude.{Err}
use Rattle.std.proofs.Common.{◌≡◌, rules}
use Rattle.meaning_rows.specs.Index.{lent}
use Rattle.entry_write.proofs.Kept.{kept-refused, kept-written}
use Rattle.entry_write.proofs.write.Goals as goal

pub returns-in_err-refuse_write : goal.returns-in_err-refuse_write
returns-in_err-refuse_write c =
    let x = lent c.args.head c.args.rows.now c.args.left.now c.args.right.now in
    let e : c.from_residual.result ≡ Err c.in_err-refuse_write.field-0.0 = search rules in
    rw e (kept-refused x c.args.text.now c.judge-judged.ensures c.count_index-n.ensures c.refuse_write.ensures c.in_err-refuse_write.was)

pub returns : goal.returns
returns c =
    let x = lent c.args.head c.args.rows.now c.args.left.now c.args.right.now in
    kept-written x c.args.text.now c.judge-judged.ensures c.count_index-n.ensures c.refuse_write.ensures c.in_ok-refuse_write.was c.write_index.ensures
