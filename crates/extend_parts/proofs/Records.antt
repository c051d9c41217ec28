-- Rows whose ranges and run counts are those of rows with their runs, laid out by the sums of the counts, are the records of these rows (`laid-records`).
use Rattle.meaning_numbers.specs.Sum.{Σℕ}
use Rattle.meaning_numbers.proofs.Sum.{Σℕ-none, Σℕ-more, Σℕ-same}
use Rattle.meaning_numbers.proofs.Prelude.{◌≡◌, sym, ◌∙◌, List, [], ◌∷◌, ℕ, zero, suc, ◌+◌, ◌-◌, ◌<◌, ◌≤◌, arith, pos, length, get_or, take, ext_get_or, get_or-take, length-take-le}
use Rattle.meaning_rows.specs.{declared.Row.Row, Index.RangeRow, Index.records}
use Rattle.meaning_rows.proofs.{Laid.length-records, LaidAt.Σℕ-shift}
use Rattle.rows_records.specs.Records.{zero_row}
use Rattle.rows_pack.specs.Packed.{Summed, start_of}
use Rattle.rows_pack.proofs.Records.{start_is}
use Rattle.extend_parts.specs.Lay.{laid_to, EndsRoom}
use Rattle.extend_parts.proofs.Lay.{laid-at, length-laid}

-- what stands past the last row
abbrev no_row : RangeRow
no_row = record { low = pos 0; up = pos 0; runs = [] }

-- how many runs row i has
abbrev pub size_at : List RangeRow → ℕ → ℕ
size_at l i = length (get_or l i no_row).runs

record-at : (k : ℕ) (l : List RangeRow) (i : ℕ) → i < length l
    → get_or (records k l) i zero_row ≡ record { low = (get_or l i no_row).low; up = (get_or l i no_row).up; first = k + Σℕ i (size_at l); runs = size_at l i }
unfolding records
record-at k [] i h = absurd (omega arith)
record-at k (r ∷ l) zero h = let e : k ≡ k + Σℕ 0 (size_at (r ∷ l)) = omega (arith, Σℕ-none (size_at (r ∷ l))) in λ j. record { low = r.low; up = r.up; first = e j; runs = length r.runs }
record-at k (r ∷ l) (suc i) h =
    let e : k + length r.runs + Σℕ i (size_at l) ≡ k + Σℕ (suc i) (size_at (r ∷ l)) = omega (arith, Σℕ-shift i (size_at (r ∷ l))) in
    record-at (k + length r.runs) l i (omega arith) ∙ (λ j. record { low = (get_or l i no_row).low; up = (get_or l i no_row).up; first = e j; runs = size_at l i })

-- rows, and counts beside them, go with rows with their runs
pub record Matches (l : List RangeRow) (rows : List Row) (counts : List ℕ) : Type 0 where
  pub low : (i : ℕ) → i < length l → (get_or rows i zero_row).low ≡ (get_or l i no_row).low
  pub up : (i : ℕ) → i < length l → (get_or rows i zero_row).up ≡ (get_or l i no_row).up
  pub count : (i : ℕ) → i < length l → get_or counts i 0 ≡ size_at l i

module _ (l : List RangeRow) (rows : List Row) (counts ends : List ℕ) (m : Matches l rows counts) (s : Summed (length l) counts ends) where
  start-at : (i : ℕ) → i < length l → start_of ends i ≡ 0 + Σℕ i (size_at l)
  start-at i h =
      let z : Σℕ i (size_at l) ≡ 0 + Σℕ i (size_at l) = omega arith in
      start_is s i h ∙ Σℕ-same i (λ x. get_or counts x 0) (size_at l) (λ x b. m.count x (omega arith)) ∙ z

  size-at : (i : ℕ) → i < length l → get_or ends i 0 - start_of ends i ≡ size_at l i
  size-at i h = omega (arith, s.end i h, Σℕ-more i (λ k. get_or counts k 0), start_is s i h, m.count i h)

  -- what laying asks
  pub ends-room : length l ≤ length ends → (i : ℕ) → i < length l → EndsRoom ends i
  ends-room f i h = record { within = omega arith; order = omega (arith, s.end i h, Σℕ-more i (λ k. get_or counts k 0), start_is s i h) }

  pub laid-records : length l ≤ length rows → take (length l) (laid_to ends (length l) rows) ≡ records 0 l
  laid-records fits =
      let n = length l in
      let long = length-take-le n (laid_to ends n rows) (omega (arith, length-laid ends n rows)) in
      ext_get_or zero_row _ (records 0 l) (long ∙ sym (length-records 0 l)) (λ i b.
      let h : i < n = omega arith in
      let low = m.low i h in
      let up = m.up i h in
      let first = start-at i h in
      get_or-take n _ i zero_row h ∙ laid-at ends n rows fits i h ∙ (λ j. record { low = low j; up = up j; first = first j; runs = (size-at i h) j }) ∙ sym (record-at 0 l i h))
