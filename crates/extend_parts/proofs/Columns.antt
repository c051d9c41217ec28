-- A column after the old runs are copied: each row's part begins with the numbers that stand in its old row's part (`column-front`), and while it is not full ends with how many they are (`column-cursor`).
use Rattle.meaning_numbers.proofs.Prelude.{◌≡◌, refl, sym, ap, ◌∙◌, List, ◌++◌, ℕ, zero, suc, ◌+◌, ◌-◌, ◌<◌, ◌≤◌, arith, dec_lt, ltb, length, get_or, take, drop, length-drop, List·get_d-append, paste, length-paste, get_or-append-add, get_or-take, get_or-drop, get_or-set_same, get_or-set_other, length-take-le, ltb-true, lt-ltb, by-test}
use Rattle.meaning_rows.specs.declared.Row.{Row}
use Rattle.rows_records.specs.Records.{zero_row}
use Rattle.extend_parts.specs.Copy.{part_size, written, part_copied, CopyRoom, next_old, column_to, Copyable}
use Rattle.extend_parts.proofs.Copy.{length-column}

-- ---- a part

paste-front : (d s : List ℕ) (n y : ℕ) → y < n → n ≤ length s → get_or (paste d 0 s n) y 0 ≡ get_or s y 0
paste-front d s n y h f = List·get_d-append (take n s) _ 0 y (omega (arith, length-take-le n s f)) ∙ get_or-take n s y 0 h

paste-rest : (d s : List ℕ) (n y : ℕ) → n ≤ y → n ≤ length s → get_or (paste d 0 s n) y 0 ≡ get_or d y 0
paste-rest d s n y h f =
    let l = length-take-le n s f in
    let e : length (take n s) + (y - n) ≡ y = omega arith in
    let q : 0 + n + (y - n) ≡ y = omega arith in
    ap (λ i. get_or (take n s ++ drop (0 + n) d) i 0) (sym e) ∙ get_or-append-add (take n s) _ (y - n) 0 ∙ get_or-drop (0 + n) d (y - n) 0 ∙ rw q

module _ (n size : ℕ) (numbers part : List ℕ) (f : n ≤ length numbers) (g : n ≤ size) (room : size ≤ length part) where
  written-front : (y : ℕ) → y < n → get_or (written n size numbers part) y 0 ≡ get_or numbers y 0
  unfolding written
  written-front y h = by-test (ltb n size)
      (λ t. let l = ltb-true n size t in rw t (get_or-set_other (paste part 0 numbers n) (size - 1) y n 0 (λ e. omega arith) ∙ paste-front part numbers n y h f))
      (λ t. rw t (paste-front part numbers n y h f))

  written-cursor : n < size → get_or (written n size numbers part) (size - 1) 0 ≡ n
  unfolding written
  written-cursor h = rw (lt-ltb n size h) (get_or-set_same (paste part 0 numbers n) (size - 1) n 0 (omega (arith, length-paste part 0 numbers n (omega arith) f)))

  written-past : (y : ℕ) → size ≤ y → get_or (written n size numbers part) y 0 ≡ get_or part y 0
  unfolding written
  written-past y h = by-test (ltb n size)
      (λ t. let l = ltb-true n size t in rw t (get_or-set_other (paste part 0 numbers n) (size - 1) y n 0 (λ e. omega arith) ∙ paste-rest part numbers n y (omega arith) f))
      (λ t. rw t (paste-rest part numbers n y (omega arith) f))

-- ---- a column after one row

module _ (o r : Row) (from to : List ℕ) (c : CopyRoom o r (length from) (length to)) where
  abbrev n : ℕ
  n = part_size o r

  abbrev piece : List ℕ
  piece = written n r.runs (drop o.first from) (drop r.first to)

  in-numbers : n ≤ length (drop o.first from)
  in-numbers = omega (arith, length-drop o.first from, c.source)

  in-part : r.runs ≤ length (drop r.first to)
  in-part = omega (arith, length-drop r.first to, c.room)

  at_piece : (y : ℕ) → get_or (part_copied o r from to) (r.first + y) 0 ≡ get_or piece y 0
  unfolding part_copied
  at_piece y =
      let l : length (take r.first to) ≡ r.first = length-take-le r.first to (omega arith) in
      let e : r.first + y ≡ length (take r.first to) + y = omega arith in
      ap (λ i. get_or (take r.first to ++ piece) i 0) e ∙ get_or-append-add (take r.first to) piece y 0

  part-front : (t : ℕ) → t < n → get_or (part_copied o r from to) (r.first + t) 0 ≡ get_or from (o.first + t) 0
  part-front t h = at_piece t ∙ written-front n r.runs _ _ in-numbers c.fits in-part t h ∙ get_or-drop o.first from t 0

  part-cursor : n < r.runs → get_or (part_copied o r from to) (r.first + r.runs - 1) 0 ≡ n
  part-cursor h =
      let e : r.first + r.runs - 1 ≡ r.first + (r.runs - 1) = omega arith in
      rw e (at_piece (r.runs - 1) ∙ written-cursor n r.runs _ _ in-numbers c.fits in-part h)

  -- elsewhere the column stays
  part-away : (x : ℕ) → (r.first ≤ x → r.first + r.runs ≤ x) → get_or (part_copied o r from to) x 0 ≡ get_or to x 0
  unfolding part_copied
  part-away x h = elim (dec_lt x r.first) [
    | yes l ↦ List·get_d-append (take r.first to) piece 0 x (omega (arith, length-take-le r.first to (omega arith))) ∙ get_or-take r.first to x 0 l
    | no f ↦
        let past = h (omega arith) in
        let e : x ≡ r.first + (x - r.first) = omega arith in
        ap (λ i. get_or (take r.first to ++ piece) i 0) e ∙ at_piece (x - r.first)
        ∙ written-past n r.runs _ _ in-numbers c.fits in-part (x - r.first) (omega arith) ∙ get_or-drop r.first to (x - r.first) 0 ∙ rw (sym e)
  ]

-- ---- a column after all rows

module _ (old : List Row) (from : List ℕ) (rows : List Row) (count : ℕ) (to : List ℕ) (can : Copyable old rows count (length from) (length to))
    (apart : (i k : ℕ) → i < k → k < count → (get_or rows i zero_row).first + (get_or rows i zero_row).runs ≤ (get_or rows k zero_row).first) where
  abbrev column : ℕ → List ℕ
  column i = column_to old from rows i to

  abbrev at : ℕ → Row
  at i = get_or rows i zero_row

  abbrev next : ℕ → Row
  next i = next_old old rows i

  abbrev size : ℕ → ℕ
  size i = part_size (next i) (at i)

  room : (i : ℕ) → i < count → CopyRoom (next i) (at i) (length from) (length (column i))
  room i l = rw (length-column old from rows count to can i (omega arith)) (can.room i l)

  -- what is written of row i stays when later rows are written
  stays : (i k x : ℕ) → i < k → k ≤ count → (at i).first ≤ x → x < (at i).first + (at i).runs → get_or (column k) x 0 ≡ get_or (column (suc i)) x 0
  unfolding column_to
  stays i zero x l h a b = absurd (omega arith)
  stays i (suc k) x l h a b = elim (dec_lt i k) [
    | yes m ↦ part-away (next k) (at k) from (column k) (room k (omega arith)) x (λ p. absurd (omega (arith, apart i k m (omega arith)))) ∙ stays i k x m (omega arith) a b
    | no f ↦ let e : i ≡ k = omega arith in rw e
  ]

  pub column-front : (i t : ℕ) → i < count → t < size i → get_or (column count) ((at i).first + t) 0 ≡ get_or from ((next i).first + t) 0
  unfolding column_to
  column-front i t l h =
      let c = room i l in
      stays i count _ l (omega arith) (omega arith) (omega arith) ∙ part-front (next i) (at i) from (column i) c t h

  pub column-cursor : (i : ℕ) → i < count → size i < (at i).runs → get_or (column count) ((at i).first + (at i).runs - 1) 0 ≡ size i
  unfolding column_to
  column-cursor i l h =
      stays i count ((at i).first + (at i).runs - 1) l (omega arith) (omega arith) (omega arith) ∙ part-cursor (next i) (at i) from (column i) (room i l) h

  -- past all parts the column is as it was
  pub column-past : (x : ℕ) → ((i : ℕ) → i < count → (at i).first + (at i).runs ≤ x) → (k : ℕ) → k ≤ count → get_or (column k) x 0 ≡ get_or to x 0
  unfolding column_to
  column-past x h zero l = refl
  column-past x h (suc k) l = part-away (next k) (at k) from (column k) (room k (omega arith)) x (λ _. h k (omega arith)) ∙ column-past x h k (omega arith)
