-- `write_found`. Words, numbers and matches in order are the text of the list (`found-parts`).
use Rattle.std.proofs.Common.{take}
use Rattle.meaning_text.specs.Bytes.{bytes}
use Rattle.meaning_entries.specs.Demand3.{pairs}
use Rattle.text_put.proofs.Put.{put_then}
use Rattle.text_list.proofs.Found.{found-parts}
use Rattle.text_list.proofs.write_found.Goals as goal

pub returns : goal.returns
unfolding bytes
returns c =
    let s = c.args in
    rw (found-parts s.matches s.candidates (take s.matches (pairs s.offsets.now s.distances.now))) at (
    put_then
    (put_then
    (put_then (put_then (put_then (put_then c.put_word-to.ensures c.write_u64-to.ensures) c.put_word-to-2.ensures) c.write_u64-to-2.ensures) c.put_word-to-3.ensures)
    c.write_matches-to.ensures)
    c.put_word.ensures)
