-- Rows laid out and read back are the same rows (`rows_back`): each row's part of the run buffer is its runs, and begins where the row before ends (`first-laid`).
-- There are as many records as rows and as many run entries as runs (`length-records`, `length-all_runs`), and the rows of a well-formed index are laid out as they stand (`laid-again`).
use Rattle.meaning_numbers.proofs.Prelude.{◌≡◌, refl, sym, ap, ◌∙◌, List, [], ◌∷◌, ◌++◌, map, append_assoc, ℕ, zero, suc, ◌+◌, ◌<◌, ◌≤◌, arith, ℤ, length, get_or, take, drop, length-append, take-append_seam, drop-append_seam, take-add, drop-drop}
use Rattle.meaning_curves.specs.Limits.{lowest_end}
use Rattle.meaning_rows.specs.declared.Row.{Row}
use Rattle.meaning_rows.specs.Index.{Index, Entry, RangeRow, records, all_runs, laid_out, runs_of, range_row, range_rows}
use Rattle.meaning_rows.proofs.Judge.{GoodRows, WellFormed, run_total, length-runs_of}

-- from k on the run buffer has the runs of the rows, one row's after the other's
unfoldable pub Lays : List Entry → ℕ → List RangeRow → Type 0
Lays b k [] = Unit {0}
Lays b k (r ∷ l) = (k + length r.runs ≤ length b) × (take (length r.runs) (drop k b) ≡ r.runs) × Lays b (k + length r.runs) l

lays-after : (b front : List Entry) (l : List RangeRow) → b ≡ front ++ all_runs l → Lays b (length front) l
unfolding Lays all_runs
lays-after b front [] e = tt
lays-after b front (r ∷ l) e =
    let rest = all_runs l in (
      rw e (omega (arith, length-append front (r.runs ++ rest), length-append r.runs rest)),
      rw (e, drop-append_seam front _) (take-append_seam _ rest),
      rw (length-append front r.runs) at (lays-after b (front ++ r.runs) l (e ∙ sym (append_assoc front _ rest))),
    )

pub laid : (l : List RangeRow) → Lays (all_runs l) 0 l
laid l = lays-after _ [] l refl

read_back : (x : Index) (k : ℕ) (l : List RangeRow) → Lays x.runs k l → map (range_row x) (records k l) ≡ l
unfolding Lays records
read_back x k [] h = refl
read_back x k (r ∷ l) h =
    let first : range_row x (record { low = r.low; up = r.up; first = k; runs = length r.runs }) ≡ r = λ i. record { low = r.low; up = r.up; runs = h.1 i } in
    cc (first, read_back x (k + length r.runs) l h.2)

pub length-records : (k : ℕ) (l : List RangeRow) → length (records k l) ≡ length l
unfolding records
length-records k [] = refl
length-records k (r ∷ l) = ap suc (length-records (k + length r.runs) l)

pub length-all_runs : (k : ℕ) (l : List RangeRow) → length (all_runs l) ≡ run_total (records k l)
unfolding records all_runs run_total
length-all_runs k [] = refl
length-all_runs k (r ∷ l) = omega (arith, length-append r.runs (all_runs l), length-all_runs (k + length r.runs) l)

first-from : (o : Row) (k : ℕ) (l : List RangeRow) (i : ℕ) → i < length l → (get_or (records k l) i o).first ≡ k + length (all_runs (take i l))
unfolding records all_runs
first-from o k [] i h = absurd (omega arith)
first-from o k (r ∷ l) zero h = omega arith
first-from o k (r ∷ l) (suc i) h = omega (arith, length-append r.runs (all_runs (take i l)), first-from o (k + length r.runs) l i (omega arith))

module _ (window width windows : ℤ) (l : List RangeRow) where
  pub rows_back : range_rows (laid_out window width windows l) ≡ l
  rows_back = read_back (laid_out window width windows l) 0 l (laid l)

  -- a row's runs begin where the rows before end
  pub first-laid : (o : Row) (i : ℕ) → i < length l → (get_or (laid_out window width windows l).rows i o).first ≡ length (all_runs (take i l))
  first-laid o i h = omega (arith, first-from o 0 l i h)

-- ---- the rows of a well-formed index, laid out again: the same records, and the run entries that they take

module _ (x : Index) where
  records-again : (least : ℤ) (first taken : ℕ) (l : List Row) → GoodRows x least first taken l → records first (map (range_row x) l) ≡ l
  unfolding GoodRows records
  records-again least first taken [] g = refl
  records-again least first taken (r ∷ l) g =
      let f = length-runs_of x r g.0.row.fits in
      let same : record { low = r.low; up = r.up; first = first; runs = length (runs_of x r) } ≡ r = λ i. record { low = r.low; up = r.up; first = (sym g.0.begins) i; runs = f i } in
      cc (same, f, records-again r.up _ _ l g.1)

  runs-again : (least : ℤ) (first taken : ℕ) (l : List Row) → GoodRows x least first taken l → all_runs (map (range_row x) l) ≡ take (run_total l) (drop first x.runs)
  unfolding GoodRows all_runs run_total
  runs-again least first taken [] g = refl
  runs-again least first taken (r ∷ l) g =
      rw (take-add _ _ _, drop-drop _ first _, runs-again r.up _ _ l g.1, g.0.begins)

  pub laid-again : WellFormed x → (records 0 (range_rows x) ≡ x.rows) × (all_runs (range_rows x) ≡ take (run_total x.rows) x.runs)
  laid-again g = (records-again lowest_end 0 0 _ g.rows, runs-again lowest_end 0 0 _ g.rows)
