-- `write_row`. Words, numbers and runs in order, put together as they are spelled.
use Rattle.std.proofs.Common.{◌≡◌, sym, rules}
use mir.Syntax.{w32}
use mir.Val.{to_z, of_z, SFits}
use Rattle.std.proofs.lemmas.Int.{to_z-of_z}
use Rattle.meaning_text.specs.{Bytes.bytes, Form.spell}
use Rattle.text_put.proofs.Put.{put_then}
use Rattle.text_write.specs.Write.{runs_text, row_text}
use Rattle.text_write.proofs.write_row.Goals as goal

pub returns : goal.returns
unfolding row_text runs_text spell bytes
returns c =
    let fits_low : SFits w32 c.args.r.low = search rules in
    let fits_up : SFits w32 c.args.r.up = search rules in
    let low : to_z w32 (of_z w32 c.args.r.low) ≡ c.args.r.low = to_z-of_z w32 _ fits_low in
    let up : to_z w32 (of_z w32 c.args.r.up) ≡ c.args.r.up = to_z-of_z w32 _ fits_up in
    rw (sym low, sym up) (
    put_then
    (put_then (put_then c.put_word-to.ensures c.write_i32-to.ensures) (put_then (put_then c.put_word-to-2.ensures c.write_i32-to-2.ensures) c.write_runs-to.ensures))
    c.put_word.ensures)
