-- Rows that tile the sums, packed as records, are rows that the pass can fill (`packed-rowed`).
use Rattle.meaning_numbers.specs.{Place.any, Sum.Σℕ}
use Rattle.meaning_numbers.proofs.Prelude.{◌≡◌, refl, sym, ap, ◌∙◌, Bool, true, false, List, [], ◌∷◌, ℕ, zero, suc, ◌+◌, ◌<◌, ◌≤◌, arith, ℤ, pos, negsuc, length, get_or, length-map, get_or-take, ◌≤ℤ◌, ◌<ℤ◌, zarith, by-test, clash}
use Rattle.meaning_numbers.proofs.{Sum.Σℕ-same, Member.All, Member.all-mem, Member.mem-at}
use Rattle.meaning_curves.specs.Curve.{window_sum}
use Rattle.meaning_rows.specs.{declared.Row.Row, Range.inside, Range.low_of, Range.up_of, Range.row_number, Runs.runs, Runs.run_count, Build.SetRow, Build.entry, Build.with_runs}
use Rattle.meaning_rows.proofs.Build.{Fine, Chain, Tiled, Ends, holds_sum, merged_rows, tiled-fine, built-tiled, built-covers, built-ends}
use Rattle.meaning_rows.proofs.{Range.row_below, Range.row-above, Range.up_is, LaidAt.records-at}
use Rattle.rows_records.specs.Records.{zero_row}
use Rattle.sums_slide.specs.Levels.{Lent, windows_of, level-small}
use Rattle.sums_slide.proofs.Levels.{level-is}
use Rattle.rows_pack.specs.PackedAs.{PackedAs}
use Rattle.build_fill.specs.Pass.{part_start, Rowed}

-- a row with no windows
abbrev pub no_row : SetRow
no_row = record { low = pos 0; up = pos 0; has = λ j. false }

-- the test of each row
abbrev pub tests : List SetRow → ℕ → ℕ → Bool
tests l i = (get_or l i no_row).has

-- an end of a range far from what 32 bits hold
pub record Near (z : ℤ) : Type 0 where
  pub least : negsuc 999999999 ≤ℤ z
  pub most : z ≤ℤ pos 1000000000

-- ---- by place

-- where one of a list passes, it has a place
pub record Passes (p : SetRow → Bool) (l : List SetRow) : Type 0 where
  pub place : ℕ
  pub below : place < length l
  pub is : p (get_or l place no_row) ≡ true

any_at : (p : SetRow → Bool) (l : List SetRow) → any p l ≡ true → Passes p l
unfolding any
any_at p [] h = clash h refl
any_at p (x ∷ l) h = by-test (p x)
    (λ t. record { place = 0; below = omega arith; is = t })
    (λ f. let o = any_at p l (rw f at h) in record { place = suc _; below = omega arith; is = o.is })

module _ (sum : ℕ → ℤ) (n : ℕ) where
  all-fine : (l : List SetRow) → Tiled sum n l → (i : ℕ) → i < length l → Fine sum n (get_or l i no_row)
  all-fine l t i h = all-mem _ l (tiled-fine sum n l t) (mem-at no_row l i h)

  tail-tiled : (r : SetRow) (l : List SetRow) → Tiled sum n (r ∷ l) → Tiled sum n l
  unfolding Tiled Chain
  tail-tiled r [] t = tt
  tail-tiled r (s ∷ l) t = t.2

  -- a row lies below every row after it
  first-apart : (r : SetRow) (l : List SetRow) → Tiled sum n (r ∷ l) → (k : ℕ) → k < length l → r.up ≤ℤ (get_or l k no_row).low
  unfolding Tiled Chain
  first-apart r [] t k h = absurd (omega arith)
  first-apart r (s ∷ l) t zero h = t.1.order
  first-apart r (s ∷ l) t (suc k) h =
      let a : r.up ≤ℤ s.low = t.1.order in
      let b : s.low <ℤ s.up = (all-fine (s ∷ l) t.2 0 (omega arith)).wide in
      let c : s.up ≤ℤ (get_or l k no_row).low = first-apart s l t.2 k (omega arith) in
      omega zarith

  tiled-apart : (l : List SetRow) → Tiled sum n l → (i k : ℕ) → i < k → k < length l → (get_or l i no_row).up ≤ℤ (get_or l k no_row).low
  tiled-apart [] t i k a b = absurd (omega arith)
  tiled-apart (r ∷ l) t zero zero a b = absurd (omega arith)
  tiled-apart (r ∷ l) t zero (suc k) a b = first-apart r l t k (omega arith)
  tiled-apart (r ∷ l) t (suc i) zero a b = absurd (omega arith)
  tiled-apart (r ∷ l) t (suc i) (suc k) a b = tiled-apart l (tail-tiled r l t) i k (omega arith) (omega arith)

-- ---- what is packed

module _ {n count : ℕ} {l : List SetRow} {rows : List Row} (p : PackedAs n l rows count) where
  size_is : (i : ℕ) → length (with_runs n (get_or l i no_row)).runs ≡ run_count (tests l i) n
  unfolding with_runs
  size_is i = length-map (runs _ n) entry

  record-at : (i : ℕ) → i < count → get_or rows i zero_row ≡ record { low = (with_runs n (get_or l i no_row)).low; up = (with_runs n (get_or l i no_row)).up; first = 0 + Σℕ i (λ y. length (with_runs n (get_or l y no_row)).runs); runs = length (with_runs n (get_or l i no_row)).runs }
  record-at i h = sym (get_or-take count rows i zero_row h) ∙ ap (λ m. get_or m i zero_row) p.front ∙ records-at no_row _ zero_row 0 l i (omega arith)

  low-at : (i : ℕ) → i < count → (get_or rows i zero_row).low ≡ (get_or l i no_row).low
  unfolding with_runs
  low-at i h = rw (record-at i h)

  up_at : (i : ℕ) → i < count → (get_or rows i zero_row).up ≡ (get_or l i no_row).up
  unfolding with_runs
  up_at i h = rw (record-at i h)

  first-at : (i : ℕ) → i < count → (get_or rows i zero_row).first ≡ part_start count n (tests l) i
  first-at i h =
      let e : 0 + Σℕ i (λ y. length (with_runs n (get_or l y no_row)).runs) ≡ Σℕ i (λ y. length (with_runs n (get_or l y no_row)).runs) = omega arith in
      ap (λ r. r.first) (record-at i h) ∙ e ∙ Σℕ-same i (λ y. length (with_runs n _).runs) (λ y. run_count _ n) (λ y b. size_is y)

  runs-at : (i : ℕ) → i < count → (get_or rows i zero_row).runs ≡ run_count (tests l i) n
  runs-at i h = ap (λ r. r.runs) (record-at i h) ∙ size_is i

  pub packed-rowed : (sum : ℕ → ℤ) → Tiled sum n l → ((j : ℕ) → j < n → holds_sum (sum j) l ≡ true) → All (Ends Near) l → Rowed (tests l) sum 0 n rows count
  packed-rowed sum t c e = record {
    within = p.within;
    small = λ i h.
        let m : i < length l = omega arith in
        let a = all-mem _ l e (mem-at no_row l i m) in
        let w : (get_or l i no_row).low <ℤ (get_or l i no_row).up = (all-fine sum n l t i m).wide in
        record { least = rw (low-at i h) a.low_end.least; order = rw (low-at i h, up_at i h) (omega zarith); most = rw (up_at i h) a.up-end.most };
    apart = λ i k a b. rw (up_at i (omega arith), low-at k b) (tiled-apart sum n l t i k a (omega arith));
    holds = λ i j h a b. (all-fine sum n l t i (omega arith)).exact j b ∙ sym (rw (low-at i h, up_at i h));
    home = λ j a b. let o = any_at (λ r. inside _ r.up (sum j)) l (c j b) in
        record { at = o.place; below = omega arith; is = (all-fine sum n l t _ o.below).exact j b ∙ o.is };
    first = first-at;
    runs = runs-at;
  }

-- ---- the rows of a build

module _ {s : List ℤ} {w e : ℕ} (d g : ℕ) (one : 1 ≤ d) (most : d ≤ 1000000) (h : Lent s w e) where
  near-ends : (j : ℕ) → Near (low_of d (row_number d (window_sum s w j))) × Near (up_of d (row_number d (window_sum s w j)))
  near-ends j =
      let z = window_sum s w j in
      let a = row_below d z one in
      let b = row-above d z one in
      let u = up_is d (row_number d z) in
      let r = level-is j h in
      let v = level-small j h in (
        record { least = omega (zarith, a, b, u, r, v); most = omega (zarith, a, b, u, r, v) },
        record { least = omega (zarith, a, b, u, r, v); most = omega (zarith, a, b, u, r, v) },
      )

  pub built-rowed : {rows : List Row} {count : ℕ} → PackedAs (windows_of s w) (merged_rows (window_sum s w) d g (windows_of s w)) rows count
      → Rowed (tests (merged_rows (window_sum s w) d g (windows_of s w))) (window_sum s w) 0 (windows_of s w) rows count
  built-rowed p = packed-rowed p _ (built-tiled _ d _ one g) (built-covers _ d _ one g)
      (built-ends _ d _ one g Near (λ j b. near-ends j))
