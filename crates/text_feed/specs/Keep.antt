-- What is kept of the lines: the single numbers at eight places, and of the values of the series and of the query as many as there is room for, clamped to 32 bits, with their count and with how many stand before the first outside its limits.
use Rattle.std.specs.Prelude.{ℕ, suc, ◌+◌, eqb, ℤ, pos, length, Bool, true, false, cond, List, [], ◌∷◌, map, ◌≡◌}
use Rattle.std.proofs.lemmas.List.Edits.{sets}
use Rattle.meaning_curves.specs.Limits.{value_in}
use Rattle.numbers.specs.Narrow.{clamp}
use Rattle.text_lines.specs.{declared.Word.Word, declared.Field.Field, Follow.Said}
use Rattle.text_feed.specs.declared.Values.{Values}

-- the values in a buffer, from its first place on, as far as it has room
unfoldable pub stored : List ℤ → List ℤ → List ℤ
stored base vs = sets base 0 (map clamp vs)

-- how many values stand before the first that is outside its limits
unfoldable pub leading : List ℤ → ℕ
leading [] = 0
leading (x ∷ vs) = cond (value_in x) (suc (leading vs)) 0

-- one value more
unfoldable pub values_more : Values → ℤ → Values
values_more v z = record { count = v.count + 1; inside = cond (eqb v.inside v.count) (cond (value_in z) (v.count + 1) v.inside) v.inside }

-- the places of the single numbers
abbrev pub place_of : Field → ℕ
place_of Field.Window = 0
place_of Field.Width = 1
place_of Field.Merge = 2
place_of Field.Item = 8
place_of Field.Band = 3
place_of Field.Threshold = 4
place_of Field.Scale = 5
place_of Field.Shift = 6
place_of Field.Asked = 8
place_of Field.Entry = 8

abbrev pub of_series : Field → Bool
of_series Field.Window = false
of_series Field.Width = false
of_series Field.Merge = false
of_series Field.Item = true
of_series Field.Band = false
of_series Field.Threshold = false
of_series Field.Scale = false
of_series Field.Shift = false
of_series Field.Asked = false
of_series Field.Entry = true

abbrev pub of_query : Field → Bool
of_query Field.Window = false
of_query Field.Width = false
of_query Field.Merge = false
of_query Field.Item = false
of_query Field.Band = false
of_query Field.Threshold = false
of_query Field.Scale = false
of_query Field.Shift = false
of_query Field.Asked = true
of_query Field.Entry = false

abbrev pub word_place : Word → ℕ
word_place Word.Window = 8
word_place Word.Width = 8
word_place Word.Merge = 8
word_place Word.Series = 8
word_place Word.Find = 8
word_place Word.Raw = 7
word_place Word.Normal = 7
word_place Word.Query = 8
word_place Word.End = 8
word_place Word.Line = 8
word_place Word.LineEnd = 8
word_place (Word.Space p) = 8

abbrev pub word_number : Word → ℤ
word_number Word.Window = pos 0
word_number Word.Width = pos 0
word_number Word.Merge = pos 0
word_number Word.Series = pos 0
word_number Word.Find = pos 0
word_number Word.Raw = pos 1
word_number Word.Normal = pos 0
word_number Word.Query = pos 0
word_number Word.End = pos 0
word_number Word.Line = pos 0
word_number Word.LineEnd = pos 0
word_number (Word.Space p) = pos 0

-- ---- what is kept of what has been said

-- the single numbers: window, width, merge, b, E, a, h, and 1 for a raw query
abbrev pub numbers_of : Said → List ℤ
numbers_of g = g.window ∷ g.width ∷ g.merge ∷ g.band ∷ g.threshold ∷ g.scale ∷ g.shift ∷ cond g.raw (pos 1) (pos 0) ∷ []

-- the values of which `base` was the buffer at first
pub record Kept (base vs : List ℤ) (v : Values) (buf : List ℤ) : Type 0 where
  pub count : v.count ≡ length vs
  pub inside : v.inside ≡ leading vs
  pub lies : buf ≡ stored base vs

pub record Holds (kept asked : List ℤ) (g : Said) (numbers : List ℤ) (v w : Values) (series query : List ℤ) : Type 0 where
  pub alone : numbers ≡ numbers_of g
  pub first : Kept kept g.series v series
  pub second : Kept asked g.query w query
