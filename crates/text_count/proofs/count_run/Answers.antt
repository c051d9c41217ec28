-- `count_run` meets its contract.
use Rattle.meaning_numbers.proofs.Prelude.{pos, arith}
use Rattle.meaning_text.specs.{Form.spell, Texts.run_form}
use Rattle.text_count.proofs as own
use own.Count.{counted_is, run_length}
use Rattle.text_count.proofs.count_run.Goals as goal

pub returns : goal.returns
returns c =
    let s = c.args in
    counted_is (spell run_form (pos s.left, pos s.right)) _ (omega (arith, run_length s.left s.right, c.digit_count-2.ensures.0, c.digit_count.ensures.0)) c.advance.ensures
