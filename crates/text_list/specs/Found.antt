-- The text of a list of matches, as the code writes it: one match after the other, out of two slices.
use Rattle.std.specs.Prelude.{ℕ, pos, List}
use Rattle.meaning_text.specs.{Form.spell, Form.spell_many, Texts.at_form}

-- a match: offset and distance
unfoldable pub match_text : ℕ × ℕ → List ℕ
match_text x = spell at_form (pos x.0, pos x.1)

unfoldable pub matches_text : List (ℕ × ℕ) → List ℕ
matches_text l = spell_many match_text l
