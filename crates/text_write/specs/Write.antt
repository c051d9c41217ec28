-- The parts of an index text: its head, its rows one after the other, its end; together they are the text of the index.
use Rattle.std.specs.Prelude.{ℕ, ℤ, take, drop, List, ◌++◌}
use Rattle.meaning_rows.specs.{Index.Entry, Index.entries, declared.Row.Row}
use Rattle.meaning_text.specs.{Bytes.bytes, Number.spellℤ, Form.spell, Form.spell_many, Texts.row_form, Texts.run_form}

-- ---- the parts

unfoldable pub head_text : ℤ → ℤ → ℤ → List ℕ
head_text window width windows =
    (((((bytes "(index (window " ++ spellℤ window) ++ bytes ") (width ") ++ spellℤ width) ++ bytes ") (windows ") ++ spellℤ windows) ++ bytes ")\n"

unfoldable pub end_text : List ℕ
end_text = bytes ")\n"

-- a row's part of the run entries of two slices
abbrev pub part_of : ℕ → ℕ → List ℕ → List ℕ → List Entry
part_of first runs left right = take runs (drop first (entries left right))

unfoldable pub runs_text : List Entry → List ℕ
runs_text l = spell_many (spell run_form) l

unfoldable pub row_text : Row → List ℕ → List ℕ → List ℕ
row_text r left right = spell row_form (r.low, (r.up, part_of r.first r.runs left right))
