-- The texts of document 01: the index text, the series line, the search program's input and its two outputs, the refusal.
use Rattle.std.specs.Prelude.{ℕ, pos, Bool, true, false, List, map}
use Rattle.meaning_rows.specs.Index.{Index, RangeRow, laid_out, range_rows}
use Rattle.meaning_filter.specs.{declared.Kind.Kind, declared.Kind.TheVariants.Raw, declared.Kind.TheVariants.Normal}
use Rattle.meaning_text.specs.Form.{Form, Value, number, one_of, lead, trail, both, many, spell}

-- a run, l then r, with the space before it: ` (0 0)`
abbrev pub run_form : Form
run_form = trail (both (lead " (" number) (lead " " number)) ")"

-- `(row 2 4 (0 0))`: low, up, runs
abbrev pub row_form : Form
row_form = trail (both (lead "(row " number) (both (lead " " number) (many run_form))) ")\n"

-- `(index (window 2) (width 2) (windows 4)`, the rows, `)`
abbrev pub index_form : Form
index_form =
    trail (both (lead "(index (window " number) (both (lead ") (width " number) (both (lead ") (windows " number) (lead ")\n" (many row_form))))) ")\n"

-- the values of a series or a query, each after a space
abbrev pub values_form : Form
values_form = many (lead " " number)

-- `(series 1 2 4 3 1)`
abbrev pub series_form : Form
series_form = lead "(series" (trail values_form ")\n")

-- `(find raw 0 5 10 0 (query 2 4))`: kind, b, E, a, h, query
abbrev pub find_form : Form
find_form =
    lead "(find " (both (one_of "raw" "normal") (both (lead " " number) (both (lead " " number) (both (lead " " number) (both (lead " " number)
    (lead " (query" (trail values_form "))\n")))))))

-- the five lines of the search program
abbrev pub program_form : Form
program_form =
    both (lead "(window " (trail number ")\n")) (both (lead "(width " (trail number ")\n")) (both (lead "(merge " (trail number ")\n")) (both series_form find_form)))

-- `(at 0 5)`: offset and distance
abbrev pub at_form : Form
at_form = trail (both (lead "(at " number) (lead " " number)) ")\n"

-- `(found 3 (candidates 4)`, the matches, `)`
abbrev pub found_form : Form
found_form = trail (both (lead "(found " number) (both (lead " (candidates " number) (lead ")\n" (many at_form)))) ")\n"

-- `(refused N P)`: number and place
abbrev pub refused_form : Form
refused_form = trail (both (lead "(refused " number) (lead " " number)) ")\n"

-- ---- what the values stand for

-- the row that a line gives
abbrev pub row_said : Value row_form → RangeRow
row_said v = record { low = v.0; up = v.1.0; runs = v.1.1 }

-- a row as a line says it
abbrev pub say_row : RangeRow → Value row_form
say_row r = (r.low, (r.up, r.runs))

-- the index that a text gives, its rows laid out in order
unfoldable pub index_said : Value index_form → Index
index_said v = laid_out v.0 v.1.0 v.1.1.0 (map row_said v.1.1.1)

-- an index as a text says it
unfoldable pub say_index : Index → Value index_form
say_index x = (x.window, (x.width, (x.windows, map say_row (range_rows x))))

-- the index text
unfoldable pub index_text : Index → List ℕ
index_text x = spell index_form (say_index x)

-- the kind that a word names
abbrev pub kind_said : Bool → Kind
kind_said true = Raw
kind_said false = Normal

-- the list's text: match count, candidates, and for each match offset and distance
unfoldable pub found_text : ℕ → ℕ → List (ℕ × ℕ) → List ℕ
found_text matches candidates l = spell found_form (pos matches, (pos candidates, map (λ x. (pos x.0, pos x.1)) l))

-- a refusal's text
unfoldable pub refused_text : ℕ → ℕ → List ℕ
refused_text n place = spell refused_form (pos n, pos place)
