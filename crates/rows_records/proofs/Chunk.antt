-- A chunk of records, entry by entry: `chunk-at` says that entry k is record `from + k` of those lent, the record of zeros past the end, and `chunk-length` that there are 64.
-- From what `copied` has at each place.
use Rattle.meaning_numbers.proofs.Prelude.{ℕ, zero, suc, ◌+◌, ◌-◌, ◌<◌, ◌≤◌, length, get_or, replicate, length-set, length-replicate, get_or-replicate, List·get_d-eq-default, get_or-set_same, get_or-set_other, get_or-append-add, get_or-drop, List·get_d-append, length-append, length-drop, drop, ◌++◌, ext_get_or, List, ◌≡◌, refl, sym, ◌∙◌, dec_le, arith}
use Rattle.std.specs.List.{between}
use Rattle.std.proofs.lemmas.List.Edits.{length-between, get_or-between}
use Rattle.meaning_rows.specs.declared.Row.{Row}
use Rattle.rows_records.specs.Records.{zero_row, copied, count_from, chunk_of}

module _ (rows : List Row) (from : ℕ) where
  pub copied_none : (out : List Row) → copied rows from 0 out ≡ out
  unfolding copied
  copied_none out = refl

  pub length-copied : (n : ℕ) (out : List Row) → length (copied rows from n out) ≡ length out
  unfolding copied
  length-copied zero out = refl
  length-copied (suc n) out = length-set (copied rows from n out) n (get_or rows (from + n) zero_row) ∙ length-copied n out

  pub copied_at : (n k : ℕ) (out : List Row) → k < n → n ≤ length out → get_or (copied rows from n out) k zero_row ≡ get_or rows (from + k) zero_row
  unfolding copied
  copied_at zero k out h l = absurd (omega arith)
  copied_at (suc n) k out h l = elim (dec_le (suc k) n) [
    | yes m ↦ get_or-set_other (copied rows from n out) n k (get_or rows (from + n) zero_row) zero_row (λ e. omega (arith, e, m)) ∙ copied_at n k out m (omega arith)
    | no f ↦ let e : k ≡ n = omega arith in rw e (get_or-set_same (copied rows from n out) n _ zero_row (omega (arith, length-copied n out)))
  ]

  pub copied-past : (n k : ℕ) (out : List Row) → n ≤ k → get_or (copied rows from n out) k zero_row ≡ get_or out k zero_row
  unfolding copied
  copied-past zero k out h = refl
  copied-past (suc n) k out h = get_or-set_other (copied rows from n out) n k (get_or rows (from + n) zero_row) zero_row (λ e. omega (arith, e, h)) ∙ copied-past n k out (omega arith)

  pub chunk-length : length (chunk_of rows from) ≡ 64
  unfolding chunk_of
  chunk-length = length-copied 64 _

  pub chunk-at : (k : ℕ) → k < 64 → get_or (chunk_of rows from) k zero_row ≡ get_or rows (from + k) zero_row
  unfolding chunk_of
  chunk-at k h = copied_at 64 k _ h (omega arith)

  -- ---- what is there, copied at once

  -- an element of a front part or of what stands behind it
  seam : (xs ys : List Row) (n k : ℕ) → length xs ≡ n → n ≤ k → get_or ys k zero_row ≡ get_or (xs ++ drop n ys) k zero_row
  seam xs ys n k e l =
      let q : k ≡ length xs + (k - n) = omega arith in
      let p : n + (k - n) ≡ k = omega arith in
      rw (q, get_or-append-add xs (drop n ys) (k - n) zero_row, get_or-drop n ys (k - n) zero_row) (rw (← q, p) refl)

  pub copied-is : (n : ℕ) (out : List Row) → 0 < n → n ≤ length rows - from → n ≤ length out → copied rows from n out ≡ between from (from + n) rows ++ drop n out
  copied-is n out some there room =
      let within : from + n ≤ length rows = omega arith in
      let long : length (between from (from + n) rows) ≡ n = omega (arith, length-between rows from (from + n) within) in
      ext_get_or zero_row _ _ (omega (arith, length-copied n out, length-append (between from (from + n) rows) (drop n out), length-drop n out))
      (λ k h. elim (dec_le (suc k) n) [
        | yes m ↦ copied_at n k out m room ∙ sym (List·get_d-append (between from (from + n) rows) (drop n out) zero_row k (omega (arith, long, m)) ∙ get_or-between rows from (from + n) k zero_row (omega (arith, m)))
        | no f ↦ copied-past n k out (omega (arith, f)) ∙ seam (between from (from + n) rows) out n k long (omega (arith, f))
      ])

  -- ---- the code copies only what is there

  -- how many records of 64 are there: all 64, or as many as are left
  pub record CountIs (n : ℕ) : Type 0 where
    pub most : n ≤ 64
    pub left : n ≤ length rows - from
    pub all : n < 64 → length rows ≤ from + n

  pub count-is : {n : ℕ} → n ≡ count_from (length rows) from 64 → CountIs n
  count-is e = record { most = rw e (omega arith); left = rw e (omega arith); all = rw e (λ f. omega arith) }

  pub chunk-copied : (n : ℕ) → CountIs n → copied rows from n (replicate 64 zero_row) ≡ chunk_of rows from
  chunk-copied n c =
      ext_get_or zero_row _ _ (length-copied n _ ∙ length-replicate 64 zero_row ∙ sym chunk-length)
      (λ k h. let b : k < 64 = omega (arith, h, length-copied n (replicate 64 zero_row), length-replicate 64 zero_row) in elim (dec_le (suc k) n) [
        | yes m ↦ copied_at n k (replicate 64 zero_row) m (omega arith) ∙ sym (chunk-at k b)
        | no f ↦ copied-past n k (replicate 64 zero_row) (omega arith) ∙ get_or-replicate 64 k zero_row zero_row b
            ∙ sym (chunk-at k b ∙ List·get_d-eq-default rows zero_row (omega (arith, c.all (omega arith))))
      ])
