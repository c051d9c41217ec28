-- `write_head`. Words and numbers in order.
use Rattle.meaning_text.specs.Bytes.{bytes}
use Rattle.text_put.proofs.Put.{put_then}
use Rattle.text_write.specs.Write.{head_text}
use Rattle.text_write.proofs.write_head.Goals as goal

pub returns : goal.returns
unfolding head_text bytes
returns c =
    put_then
    (put_then
    (put_then (put_then (put_then (put_then c.put_word-window.ensures c.write_u32-width.ensures) c.put_word-width.ensures) c.write_u32-windows.ensures) c.put_word-windows.ensures)
    c.write_u32-end.ensures)
    c.put_word.ensures
