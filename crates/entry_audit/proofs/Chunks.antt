-- The rows of an index, chunk by chunk: what is filed wrongly first from a place on is that of the chunk, or else of what comes after (`chunk-then`). Every row of a well-formed index can be read (`good-reads`), and so can what a chunk holds (`chunk-reads`).
use Rattle.meaning_numbers.proofs.Prelude.{◌≡◌, refl, sym, ap, subst, ◌∙◌, true, ◌&&◌, List, [], ◌∷◌, Option, None, Some, ℕ, zero, suc, ◌+◌, ◌-◌, ◌<◌, ◌≤◌, arith, dec_le, leb, ltb, ℤ, pos, length, get_or, drop, drop_of_length-le, List·get_d-eq-default, leb-true, ltb-true, both, by-test}
use Rattle.meaning_curves.specs.Curve.{window_sum}
use Rattle.meaning_rows.specs.{declared.Row.Row, declared.Head.Head, Range.inside, Index.Index, Index.lent, Index.runs_of, Judge.runs_good, Audit.offsets, Audit.wrong_in, Audit.wrong_from, Audit.sums, Audit.first_wrong}
use Rattle.meaning_rows.proofs.{Judge.GoodRow, Judge.WellFormed, Judge.runs-good, Judge.row_at, Grown.length-entries}
use Rattle.rows_records.specs.Records.{zero_row, chunk_of}
use Rattle.rows_records.proofs.{Rest.drop-next, Chunk.chunk-at, Chunk.chunk-length}
use Rattle.rows_judge.proofs.Scan.{part, part-next}
use Rattle.entry_audit.specs.Auditing.{Reads, only_runs, wrong_of}

-- ---- a chunk, and what comes after

unfoldable pub or_else : Option (ℕ × ℕ) → Option (ℕ × ℕ) → Option (ℕ × ℕ)
or_else None b = b
or_else (Some p) b = Some p

in_then : (sum : ℕ → ℤ) (n : ℕ) (r : Row) (l : List ℕ) (a b : Option (ℕ × ℕ)) → or_else (wrong_in sum n r l a) b ≡ wrong_in sum n r l (or_else a b)
unfolding wrong_in or_else
in_then sum n r [] a b = refl
in_then sum n r (j ∷ l) a b = by-test (inside r.low r.up (sum j)) (λ t. rw t (in_then sum n r l a b)) (λ f. rw f refl)

module _ (series : List ℤ) (w : ℕ) (left right : List ℕ) where
  from_cons : (n : ℕ) (r : Row) (l : List Row) → wrong_of series w left right n (r ∷ l) ≡ wrong_in (window_sum series w) n r (offsets (runs_of (only_runs left right) r)) (wrong_of series w left right (suc n) l)
  unfolding wrong_from
  from_cons n r l = refl

  from-none : (n : ℕ) → wrong_of series w left right n [] ≡ None
  unfolding wrong_from
  from-none n = refl

  from_zero : (n : ℕ) (l : List Row) → wrong_of series w left right n (zero_row ∷ l) ≡ wrong_of series w left right (suc n) l
  unfolding wrong_from wrong_in offsets
  from_zero n l = refl

  module _ (rows : List Row) (from : ℕ) where
    abbrev C : List Row
    C = chunk_of rows from

    abbrev next : Option (ℕ × ℕ)
    next = wrong_of series w left right (from + 64) (drop (from + 64) rows)

    then-from : (m k : ℕ) → k + m ≡ 64 → or_else (wrong_of series w left right (from + k) (drop k C)) next ≡ wrong_of series w left right (from + k) (drop (from + k) rows)
    unfolding or_else
    then-from zero k e =
        let d : k ≡ 64 = omega arith in
        let l : length C ≤ 64 = omega (arith, chunk-length rows from) in
        rw (d, drop_of_length-le C l, from-none (from + 64)) refl
    then-from (suc m) k e =
        let l : k < length C = omega (arith, chunk-length rows from) in
        let b : k < 64 = omega arith in
        let r = get_or rows (from + k) zero_row in
        let n : from + suc k ≡ suc (from + k) = omega arith in
        let ih = subst (λ (i : ℕ). or_else (wrong_of series w left right i (drop (suc k) C)) next ≡ wrong_of series w left right i (drop i rows)) n (then-from m (suc k) (omega arith)) in
        let split : drop k C ≡ r ∷ drop (suc k) C = drop-next C k zero_row l ∙ ap (λ (q : Row). q ∷ drop (suc k) C) (chunk-at rows from k b) in
        ap (λ (q : List Row). or_else (wrong_of series w left right (from + k) q) next) split
        ∙ elim (dec_le (suc (from + k)) (length rows)) [
          | yes h ↦ ap (λ (o : Option (ℕ × ℕ)). or_else o next) (from_cons (from + k) r (drop (suc k) C))
              ∙ in_then (window_sum series w) (from + k) r (offsets (runs_of (only_runs left right) r)) (wrong_of series w left right (suc (from + k)) (drop (suc k) C)) next
              ∙ ap (wrong_in (window_sum series w) (from + k) r (offsets (runs_of (only_runs left right) r))) ih
              ∙ sym (from_cons (from + k) r (drop (suc (from + k)) rows))
              ∙ sym (ap (wrong_of series w left right (from + k)) (drop-next rows (from + k) zero_row h))
          | no f ↦ let past : length rows ≤ from + k = omega arith in let past1 : length rows ≤ suc (from + k) = omega arith in
              ap (λ (q : Row). or_else (wrong_of series w left right (from + k) (q ∷ drop (suc k) C)) next) (List·get_d-eq-default rows zero_row past)
              ∙ ap (λ (o : Option (ℕ × ℕ)). or_else o next) (from_zero (from + k) (drop (suc k) C))
              ∙ ih
              ∙ ap (wrong_of series w left right (suc (from + k))) (drop_of_length-le rows past1)
              ∙ from-none (suc (from + k)) ∙ sym (from-none (from + k))
              ∙ sym (ap (wrong_of series w left right (from + k)) (drop_of_length-le rows past))
        ]

    pub chunk-then : or_else (wrong_of series w left right from (chunk_of rows from)) (wrong_of series w left right (from + 64) (drop (from + 64) rows)) ≡ wrong_of series w left right from (drop from rows)
    chunk-then =
        let e : from + 0 ≡ from = omega arith in
        subst (λ (i : ℕ). or_else (wrong_of series w left right i (chunk_of rows from)) next ≡ wrong_of series w left right i (drop i rows)) e (then-from 64 0 (omega arith))

-- ---- the head and the rows of an index do not change what is filed wrongly

module _ (series : List ℤ) (h : Head) (rows : List Row) (left right : List ℕ) where
  same_from : (n : ℕ) (l : List Row) → wrong_of series h.window left right n l ≡ wrong_from (lent h rows left right) (sums (lent h rows left right) series) n l
  unfolding wrong_from
  same_from n [] = refl
  same_from n (r ∷ l) = ap (wrong_in _ n r _) (same_from (suc n) l)

  pub same-wrong : wrong_of series h.window left right 0 rows ≡ first_wrong (lent h rows left right) series
  unfolding first_wrong
  same-wrong = same_from 0 rows

-- ---- a good row's runs can be read

-- what the test says of each run of a part
runs-say : (windows : ℕ) (left right : List ℕ) (end : ℕ) → end ≤ length left → end ≤ length right → (m i least : ℕ) → i + m ≡ end → runs_good (pos windows) (pos least) (part left right i end) ≡ true
    → (t : ℕ) → i ≤ t → t < end → (get_or left t 0 ≤ get_or right t 0) × (get_or right t 0 < windows)
unfolding runs_good
runs-say windows left right end hl hr zero i least e g t a b = absurd (omega arith)
runs-say windows left right end hl hr (suc m) i least e g t a b =
    let x = get_or left i 0 in
    let y = get_or right i 0 in
    let q = part left right (i + 1) end in
    let g' : (leb least x && (leb x y && (ltb y windows && runs_good (pos windows) (pos (y + 2)) q))) ≡ true =
    rw (part-next left right i end (omega arith) hl hr) at g in
    let c = both (leb least x) (leb x y && (ltb y windows && runs_good (pos windows) (pos (y + 2)) q)) g' in
    let d = both (leb x y) (ltb y windows && runs_good (pos windows) (pos (y + 2)) q) c.1 in
    let f = both (ltb y windows) _ d.1 in
    elim (dec_le (suc i) t) [
      | yes k ↦ runs-say windows left right end hl hr m (i + 1) (y + 2) (omega arith) f.1 t (omega arith) b
      | no k ↦ let s : i ≡ t = omega arith in subst (λ (t : ℕ). (get_or left t 0 ≤ get_or right t 0) × (get_or right t 0 < windows)) s (leb-true x y d.0, ltb-true y windows f.0)
    ]

module _ (series : List ℤ) (h : Head) (rows : List Row) (left right : List ℕ) (fits : h.windows + h.window ≡ length series + 1) where
  abbrev X : Index
  X = lent h rows left right

  pub good-reads : (r : Row) → GoodRow X r → Reads (length series) h.window left right r
  good-reads r g =
      let e = length-entries left right in
      let hl : r.first + r.runs ≤ length left = omega (arith, e) in
      let hr : r.first + r.runs ≤ length right = omega (arith, e) in
      let n : r.first + r.runs - r.first ≡ r.runs = omega arith in
      let good : runs_good (pos h.windows) (pos 0) (part left right r.first (r.first + r.runs)) ≡ true = rw n (runs-good h.windows 0 (runs_of X r) g.good) in
      record {
        in_left = hl;
        in_right = hr;
        upward = λ i a b. (runs-say h.windows left right (r.first + r.runs) hl hr r.runs r.first 0 refl good i a b).0;
        inside = λ i a b. let s = (runs-say h.windows left right (r.first + r.runs) hl hr r.runs r.first 0 refl good i a b).1 in omega (arith, s);
      }

  zero-reads : Reads (length series) h.window left right zero_row
  zero-reads = record { in_left = omega arith; in_right = omega arith; upward = λ i a b. absurd (omega arith); inside = λ i a b. absurd (omega arith) }

  pub chunk-reads : WellFormed X → (from k : ℕ) → k < 64 → Reads (length series) h.window left right (get_or (chunk_of rows from) k zero_row)
  chunk-reads f from k b = subst (Reads _ h.window left right) (sym (chunk-at rows from k b)) (elim (dec_le (suc (from + k)) (length rows)) [
    | yes l ↦ good-reads (get_or rows (from + k) zero_row) (row_at X f zero_row (from + k) l)
    | no n ↦ subst (Reads _ h.window left right) (sym (List·get_d-eq-default rows zero_row (omega arith))) zero-reads
  ])
