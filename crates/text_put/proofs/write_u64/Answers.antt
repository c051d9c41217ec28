-- `write_u64`. Its number is not below 0.
use Rattle.meaning_numbers.proofs.Prelude.{rules}
use Rattle.meaning_text.specs.Number.{spellℤ}
use Rattle.text_put.proofs.write_u64.Goals as goal

pub returns : goal.returns
unfolding spellℤ
returns c = search rules
