-- Every definition of this crate that stays shut until it is named, and those below, under one name: a proof that computes a case says `unfolding open_text`.
use Rattle.meaning_filter.proofs.Open.{open_filter}
use Rattle.meaning_text.specs.Form.{spell_one, spell_many, spell, read_word, then_read, word_starts, starts, read_one, read_many, read}
use Rattle.meaning_text.specs.Number.{digits, spellℕ, spellℤ, read_digits, read_positive, with_sign, readℤ}
use Rattle.meaning_text.specs.{Bytes.bytes, Bytes.newlines, Read.ended, Read.read_text, Read.line_of, Texts.index_said, Texts.say_index, Texts.index_text, Texts.found_text, Texts.refused_text}

unfoldable pub open_text : Unit {0}
unfolding open_filter bytes newlines digits spellℕ spellℤ read_digits read_positive with_sign readℤ spell_one spell_many spell read_word then_read word_starts starts read_one read_many read ended read_text line_of index_said say_index index_text found_text refused_text
open_text = tt
