-- What is filed wrongly first among the rows of a chunk (`wrong_of`). `Ready` is what the audit of a chunk of rows asks: every value in its limits, and every run of the rows inside the run buffer and the series.
use Rattle.std.specs.Prelude.{ℕ, ◌+◌, ◌<◌, ◌≤◌, ◌^◌, ℤ, pos, length, get_or, List, [], ◌≡◌}
use Rattle.std.specs.declared.option.Option.{Option}
use Rattle.meaning_curves.specs.Curve.{window_sum}
use Rattle.meaning_curves.proofs.Values.{AllIn}
use Rattle.meaning_rows.specs.{declared.Row.Row, declared.Head.Head, Index.Index, Index.entries, Audit.wrong_from}
use Rattle.rows_records.specs.Records.{zero_row}

-- a row's runs lie in both slices, and each of its windows, of length w, among n values
pub record Reads (n w : ℕ) (left right : List ℕ) (r : Row) : Type 0 where
  pub in_left : r.first + r.runs ≤ length left
  pub in_right : r.first + r.runs ≤ length right
  pub upward : (i : ℕ) → r.first ≤ i → i < r.first + r.runs → get_or left i 0 ≤ get_or right i 0
  pub inside : (i : ℕ) → r.first ≤ i → i < r.first + r.runs → get_or right i 0 + w ≤ n

pub record Ready (series : List ℤ) (h : Head) (left right : List ℕ) (chunk : List Row) (from : ℕ) : Type 0 where
  pub values : AllIn series
  pub least : 1 ≤ h.window
  pub window : h.window ≤ 256
  pub far : from + 64 < 2 ^ 64
  pub size : length chunk ≡ 64
  pub rows : (k : ℕ) → k < 64 → Reads (length series) h.window left right (get_or chunk k zero_row)

-- an index as far as its rows need it: the run entries
abbrev pub only_runs : List ℕ → List ℕ → Index
only_runs left right = record { window = pos 0; width = pos 0; windows = pos 0; rows = []; runs = entries left right }

-- the first row and offset filed wrongly among rows that are counted on from a place, at window length w
abbrev pub wrong_of : List ℤ → ℕ → List ℕ → List ℕ → ℕ → List Row → Option (ℕ × ℕ)
wrong_of series w left right from l = wrong_from (only_runs left right) (window_sum series w) from l
