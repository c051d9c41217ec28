-- `count_head` meets its contract.
use Rattle.meaning_numbers.proofs.Prelude.{pos, arith}
use Rattle.text_write.specs.Write.{head_text}
use Rattle.text_count.proofs as own
use own.Count.{counted_is, head-length}
use Rattle.text_count.proofs.count_head.Goals as goal

pub returns : goal.returns
returns c =
    let h = c.args.h in
    counted_is (head_text (pos h.window) (pos h.width) (pos h.windows)) _ (omega (arith, head-length h.window h.width h.windows, c.digit_count-3.ensures.0, c.digit_count-2.ensures.0, c.digit_count.ensures.0)) c.advance.ensures
