-- `write_refused`. Words and numbers in order, put together as they are spelled.
use Rattle.meaning_text.specs.{Bytes.bytes, Form.spell, Texts.refused_text}
use Rattle.text_put.proofs.Put.{put_then}
use Rattle.text_list.proofs.write_refused.Goals as goal

pub returns : goal.returns
unfolding refused_text spell bytes
returns c = put_then (put_then (put_then c.put_word-to.ensures c.write_u32-to.ensures) (put_then c.put_word-to-2.ensures c.write_u64-to.ensures)) c.put_word.ensures
