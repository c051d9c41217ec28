-- The forms of document 01 are decided by the next byte, so the laws of whole texts hold of each. An index text read and written again is the same text, and a well-formed index written and read again has the same rows and runs.
use Rattle.meaning_numbers.proofs.Prelude.{◌≡◌, refl, sym, ap, List, [], ◌∷◌, map, ℕ, take}
use Rattle.meaning_rows.specs.Index.{Index, RangeRow, laid_out, range_rows}
use Rattle.meaning_rows.proofs.{Judge.WellFormed, Judge.run_total, Laid.rows_back, Laid.laid-again}
use Rattle.meaning_text.specs.Texts.{index_form, series_form, find_form, program_form, found_form, refused_form, row_form, row_said, say_row, index_said, say_index, index_text}
use Rattle.meaning_text.specs.{Form.Value, Form.Spellable, Read.fine, Read.read_text}
use Rattle.meaning_text.proofs.{Open.open_text, Form.filled, Form.clear_word, Form.clear, Form.follows, Form.firm, Form.opens, Form.decided, Text.Lawful, Text.lawful}

unfoldable open_decided : Unit {0}
unfolding open_text filled clear_word clear follows firm opens decided
open_decided = tt

pub index-laws : Lawful index_form
unfolding open_decided
index-laws = lawful index_form refl

pub series-laws : Lawful series_form
unfolding open_decided
series-laws = lawful series_form refl

pub find-laws : Lawful find_form
unfolding open_decided
find-laws = lawful find_form refl

pub program-laws : Lawful program_form
unfolding open_decided
program-laws = lawful program_form refl

pub found-laws : Lawful found_form
unfolding open_decided
found-laws = lawful found_form refl

pub refused-laws : Lawful refused_form
unfolding open_decided
refused-laws = lawful refused_form refl

-- ---- an index and its text

said-rows : (l : List (Value row_form)) → map say_row (map row_said l) ≡ l
said-rows [] = refl
said-rows (v ∷ l) = ap (◌∷◌ v) (said-rows l)

say-rows : (l : List RangeRow) → map row_said (map say_row l) ≡ l
say-rows [] = refl
say-rows (r ∷ l) = ap (◌∷◌ r) (say-rows l)

-- what is read, written again, is the same
pub say-said : (v : Value index_form) → say_index (index_said v) ≡ v
unfolding index_said say_index
say-said v = rw (rows_back, said-rows)

-- what is written, read again, is the rows with their runs, laid out
pub said-say : (x : Index) → index_said (say_index x) ≡ laid_out x.window x.width x.windows (range_rows x)
unfolding index_said say_index
said-say x = rw say-rows

-- an index that is well formed, written and read again, has the same rows, and of the run entries those that its rows have
pub said-again : (x : Index) → WellFormed x → ((index_said (say_index x)).rows ≡ x.rows) × ((index_said (say_index x)).runs ≡ take (run_total x.rows) x.runs)
said-again x h = rw (said-say x) (laid-again x h)

-- an index text that is read, written again, is the same text
pub index-again : (t : List ℕ) (v : Value index_form) → read_text index_form t ≡ fine v → index_text (index_said v) ≡ t
unfolding index_text
index-again t v e = rw say-said (sym (index-laws.reads_only t v e).1)

-- an index that is written is read again
pub index_back : (x : Index) → Spellable index_form (say_index x) → read_text index_form (index_text x) ≡ fine (say_index x)
unfolding index_text
index_back x g = index-laws.reads-back (say_index x) g
