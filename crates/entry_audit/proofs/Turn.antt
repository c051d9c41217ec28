-- The turns of the loops over a chunk's rows, their runs and the offsets of a run: what is filed wrongly first among what is left. A row begins (`row-begins`) and ends (`row_ends`), a run begins (`run-begins`) and ends (`run_ends`),
-- an offset is filed right (`filed-right`) or wrongly (`filed-wrong`), and where no row is left none is (`none_left`).
use Rattle.meaning_numbers.specs.Place.{numbers_from}
use Rattle.meaning_numbers.proofs.Prelude.{◌≡◌, refl, true, false, List, [], ◌∷◌, ◌++◌, Option, None, Some, ℕ, suc, ◌+◌, ◌-◌, ◌<◌, ◌≤◌, arith, ℤ, length, get_or, drop, drop_of_length-le}
use Rattle.meaning_curves.specs.Curve.{window_sum}
use Rattle.meaning_rows.specs.{declared.Row.Row, Range.inside, Audit.offsets, Audit.wrong_in, Audit.wrong_from}
use Rattle.rows_records.specs.Records.{zero_row}
use Rattle.rows_records.proofs.Rest.{drop-next}
use Rattle.rows_judge.proofs.Scan.{part, part-next, part_none}
use Rattle.entry_audit.specs.Auditing.{wrong_of}

numbers_more : (j last : ℕ) → j ≤ last → numbers_from j (last + 1 - j) ≡ j ∷ numbers_from (j + 1) (last + 1 - (j + 1))
unfolding numbers_from
numbers_more j last h =
    let e : last + 1 - j ≡ suc (last + 1 - (j + 1)) = omega arith in
    let n : j + 1 ≡ suc j = omega arith in
    rw (e, n) refl

numbers-none : (j last : ℕ) → last < j → numbers_from j (last + 1 - j) ≡ []
unfolding numbers_from
numbers-none j last h = let e : last + 1 - j ≡ 0 = omega arith in rw e refl

module _ (series : List ℤ) (w : ℕ) (left right : List ℕ) where
  -- among the offsets of run entries from i up to and not with `end`, of row n, and else what comes after
  abbrev pub in_runs : ℕ → Row → ℕ → ℕ → Option (ℕ × ℕ) → Option (ℕ × ℕ)
  in_runs n r i end after = wrong_in (window_sum series w) n r (offsets (part left right i end)) after

  -- among the offsets from j to `last`, then those of run entries from i on
  abbrev pub in_offsets : ℕ → Row → ℕ → ℕ → ℕ → ℕ → Option (ℕ × ℕ) → Option (ℕ × ℕ)
  in_offsets n r j last i end after = wrong_in (window_sum series w) n r (numbers_from j (last + 1 - j) ++ offsets (part left right i end)) after

  -- among the rows of a chunk after row k
  abbrev pub later : ℕ → List Row → ℕ → Option (ℕ × ℕ)
  later from chunk k = wrong_of series w left right (from + (k + 1)) (drop (k + 1) chunk)

  pub row-begins : (from : ℕ) (chunk : List Row) (k : ℕ) → k < length chunk → let r = get_or chunk k zero_row in
      in_runs (from + k) r r.first (r.first + r.runs) (later from chunk k) ≡ wrong_of series w left right (from + k) (drop k chunk)
  unfolding wrong_from
  row-begins from chunk k h =
      let r = get_or chunk k zero_row in
      let e : r.first + r.runs - r.first ≡ r.runs = omega arith in
      let n : k + 1 ≡ suc k = omega arith in
      let m : from + suc k ≡ suc (from + k) = omega arith in
      rw (drop-next chunk k zero_row h, e, n, m) refl

  pub row_ends : (n : ℕ) (r : Row) (i end : ℕ) (after : Option (ℕ × ℕ)) → end ≤ i → after ≡ in_runs n r i end after
  unfolding wrong_in offsets
  row_ends n r i end after h = rw (part_none left right i end h) refl

  pub run-begins : (n : ℕ) (r : Row) (i end : ℕ) (after : Option (ℕ × ℕ)) → i < end → end ≤ length left → end ≤ length right
      → in_offsets n r (get_or left i 0) (get_or right i 0) (i + 1) end after ≡ in_runs n r i end after
  unfolding offsets
  run-begins n r i end after h l m = rw (part-next left right i end h l m) refl

  pub run_ends : (n : ℕ) (r : Row) (j last i end : ℕ) (after : Option (ℕ × ℕ)) → last < j → in_runs n r i end after ≡ in_offsets n r j last i end after
  run_ends n r j last i end after h = rw (numbers-none j last h) refl

  pub filed-right : (n : ℕ) (r : Row) (j last i end : ℕ) (after : Option (ℕ × ℕ)) → j ≤ last → inside r.low r.up (window_sum series w j) ≡ true
      → in_offsets n r (j + 1) last i end after ≡ in_offsets n r j last i end after
  unfolding wrong_in
  filed-right n r j last i end after h t = rw (numbers_more j last h, t) refl

  pub filed-wrong : (n : ℕ) (r : Row) (j last i end : ℕ) (after : Option (ℕ × ℕ)) → j ≤ last → inside r.low r.up (window_sum series w j) ≡ false
      → Some (n, j) ≡ in_offsets n r j last i end after
  unfolding wrong_in
  filed-wrong n r j last i end after h t = rw (numbers_more j last h, t) refl

  pub none_left : (n : ℕ) (chunk : List Row) (k : ℕ) → length chunk ≤ k → None ≡ wrong_of series w left right n (drop k chunk)
  unfolding wrong_from
  none_left n chunk k h = rw (drop_of_length-le chunk h) refl
