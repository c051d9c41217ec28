-- The records of the extension's rows, laid out by the sums of their counts (`laid-front`, `laid-rows`).
use Rattle.meaning_numbers.proofs.Prelude.{◌≡◌, refl, sym, ap, ◌∙◌, List, ◌++◌, map, ℕ, zero, suc, ◌+◌, ◌-◌, ◌<◌, ◌≤◌, arith, dec_lt, length, get_or, take, replicate, length-map, length-append, length-replicate, List·get_d-append, ext_get_or, get_or-take, get_or-append-add}
use Rattle.meaning_rows.specs.{declared.Row.Row, Index.RangeRow, Index.records}
use Rattle.meaning_rows.proofs.{Laid.length-records, Columns.get_d_past}
use Rattle.meaning_entries.specs.Buffers.{filled}
use Rattle.rows_records.specs.Records.{zero_row}
use Rattle.rows_pack.specs.Packed.{Summed}
use Rattle.extend_parts.specs.Lay.{laid_to, EndsRoom}
use Rattle.extend_parts.proofs.{Lay.laid-past, Lay.length-laid, Records.Matches, Records.ends-room, Records.laid-records}

module _ (G : Row → RangeRow) (made rows₀ rows : List Row) (is : rows ≡ filled zero_row made rows₀) (row_at : (i : ℕ) → get_or rows i zero_row ≡ get_or made i zero_row) (fits : length made ≤ length rows₀) (long : length rows ≡ length rows₀)
    (counts ends : List ℕ) (m : Matches (map G made) rows counts) (s : Summed (length made) counts ends) where
  abbrev n : ℕ
  n = length made

  abbrev laid : List Row
  laid = laid_to ends n rows

  same : length (map G made) ≡ n
  same = length-map made G

  summed : Summed (length (map G made)) counts ends
  summed = rw same s

  -- what laying asks
  pub lay-asked : n ≤ length ends → (n ≤ length rows) × ((i : ℕ) → i < n → EndsRoom ends i)
  lay-asked h = (omega arith, λ i l. ends-room _ rows counts ends m summed (omega (arith, same)) i (omega (arith, same)))

  pub laid-front : take n laid ≡ records 0 (map G made)
  laid-front = rw same at (laid-records _ rows counts ends m summed (omega (arith, same)))

  pub laid-long : length laid ≡ length rows₀
  laid-long = length-laid ends n rows ∙ long

  pub laid-rows : laid ≡ filled zero_row (records 0 (map G made)) rows₀
  unfolding filled
  laid-rows =
      let a = records 0 _ in
      let many : length a ≡ n = length-records 0 _ ∙ same in
      let r = replicate (length rows₀ - length a) zero_row in
      ext_get_or zero_row laid _ (omega (arith, laid-long, length-append a r, length-replicate (length rows₀ - length a) zero_row)) (λ i l. elim (dec_lt i n) [
        | yes b ↦ sym (get_or-take n laid i zero_row b) ∙ ap (λ (k : List Row). get_or k i zero_row) laid-front ∙ sym (List·get_d-append a r zero_row i (omega arith))
        | no f ↦ let q : length a + (i - length a) ≡ i = omega arith in
            laid-past ends n rows i (omega arith) ∙ row_at i ∙ get_d_past zero_row made i (omega arith) ∙ sym (none (length rows₀ - length a) (i - length a)) ∙ sym (get_or-append-add a r (i - length a) zero_row) ∙ ap (λ (k : ℕ). get_or (a ++ r) k zero_row) q
      ])
    where
      none : (k i : ℕ) → let l : List Row = replicate k zero_row in get_or l i zero_row ≡ zero_row
      none zero i = refl
      none (suc k) zero = refl
      none (suc k) (suc i) = none k i
