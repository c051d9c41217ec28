-- What is known of the rows of an index text so far, audited against a series: how a number and a row's end move it, and what the rows of a whole text come to.
use Rattle.std.specs.Prelude.{ℕ, suc, ◌+◌, ◌≤◌, leb, ℤ, pos, length, set, replicate, cond, ◌&&◌, List, [], ◌∷◌, ◌≡◌, None}
use Rattle.std.specs.declared.option.Option.{Option}
use Rattle.meaning_curves.proofs.Values.{AllIn}
use Rattle.meaning_rows.specs.{declared.Row.Row, declared.Head.Head, Index.Entry}
use Rattle.meaning_text.specs.{Form.Value, Read.fine, Read.read_text, Texts.index_form, Texts.row_form}
use Rattle.numbers.specs.Narrow.{clamp, held}
use Rattle.rows_records.specs.Records.{zero_row}
use Rattle.entry_audit.specs.Auditing.{wrong_of}
use Rattle.entry_audit.proofs.Chunks.{or_else}
use Rattle.text_index.specs.declared.Field.{Field}
use Rattle.payout_walk.specs.declared.Walk.{Walk}

-- every value is in its limits, and so is the window length
pub record Sized (series : List ℤ) (h : Head) : Type 0 where
  pub values : AllIn series
  pub least : 1 ≤ h.window
  pub window : h.window ≤ 256

abbrev pub start_walk : Walk
start_walk = record { low = pos 0; up = pos 0; left = 0; rows = 0; found = None }

-- a row of one run, as a chunk of rows
unfoldable pub one_run : ℤ → ℤ → List Row
one_run low up = set (replicate 64 zero_row) 0 (record { low = low; up = up; first = 0; runs = 1 })

-- what is filed wrongly first, after the run that ends at r; a run whose windows do not lie in the series says nothing
unfoldable pub after_run : List ℤ → Head → Walk → ℕ → Option (ℕ × ℕ)
after_run series h t r =
    or_else t.found (cond (leb t.left r && leb (r + h.window) (length series)) (wrong_of series h.window (t.left ∷ []) (r ∷ []) t.rows (one_run t.low t.up)) None)

-- a number
unfoldable pub tell_walk : List ℤ → Head → Field → ℤ → Walk → Walk
tell_walk series h Field.Window z t = t
tell_walk series h Field.Width z t = t
tell_walk series h Field.Windows z t = t
tell_walk series h Field.Low z t = record { low = clamp z; up = t.up; left = t.left; rows = t.rows; found = t.found }
tell_walk series h Field.Up z t = record { low = t.low; up = clamp z; left = t.left; rows = t.rows; found = t.found }
tell_walk series h Field.Left z t = record { low = t.low; up = t.up; left = held z; rows = t.rows; found = t.found }
tell_walk series h Field.Right z t = record { low = t.low; up = t.up; left = t.left; rows = t.rows; found = after_run series h t (held z) }

-- a row's end
unfoldable pub shut_walk : Walk → Walk
shut_walk t = record { low = t.low; up = t.up; left = t.left; rows = t.rows + 1; found = t.found }

-- ---- what a text comes to

-- the runs of row k, one after the other
unfoldable pub runs_walked : List ℤ → Head → ℕ → ℤ → ℤ → Option (ℕ × ℕ) → List Entry → Option (ℕ × ℕ)
runs_walked series h k low up s [] = s
runs_walked series h k low up s (e ∷ l) = runs_walked series h k low up (after_run series h (record { low = low; up = up; left = held e.0; rows = k; found = s }) (held e.1)) l

-- rows, counted on from k
unfoldable pub rows_walked : List ℤ → Head → ℕ → Option (ℕ × ℕ) → List (Value row_form) → Option (ℕ × ℕ)
rows_walked series h k s [] = s
rows_walked series h k s (r ∷ l) = rows_walked series h (suc k) (runs_walked series h k (clamp r.0) (clamp r.1.0) s r.1.1) l

-- the rows of a text that can be read
unfoldable pub Walked : List ℤ → Head → List ℕ → Option (ℕ × ℕ) → Type 0
Walked series h t s = (v : Value index_form) → read_text index_form t ≡ fine v → s ≡ rows_walked series h 0 None v.1.1.1
