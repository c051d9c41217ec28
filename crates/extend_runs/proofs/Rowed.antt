-- The rows of an extension, laid out as records, are rows that the pass can fill from the old window count on (`extended-rowed`), and rows that the old runs can be copied to (`extended-laid`).
use Rattle.meaning_numbers.specs.{Order.within, Sum.Σℕ}
use Rattle.meaning_numbers.proofs.Prelude.{◌≡◌, refl, sym, ap, ◌∙◌, subst, Bool, List, map, ℕ, ◌+◌, ◌<◌, ◌≤◌, arith, ℤ, pos, length, get_or, take, length-map, get_or-take, ◌≤ℤ◌, zarith, le_z-true, both}
use Rattle.meaning_numbers.proofs.{Sum.Σℕ-same, Member.all-mem, Member.mem-all, Member.mem-at}
use Rattle.meaning_curves.specs.{Limits.lowest_end}
use Rattle.meaning_rows.specs.{declared.Row.Row, Range.low_of, Range.up_of, Runs.runs, Runs.run_count, Index.Index, Index.records, Index.all_runs, Build.entry, Build.with_runs, Extend.grown, Extend.extended_rows, Extend.extended}
use Rattle.meaning_rows.proofs.Woven.{new_row, all-woven, woven-extended, woven-ascends, woven-covers, extending}
use Rattle.meaning_rows.proofs.{Judge.GoodEnd, Judge.WellFormed, Judge.each_row, Build.numbers-occur, Sums.ends-good, Extend.Extendable, Extend.grown-new, Extend.extended-most, LaidAt.records-at, LaidAt.runs-total}
use Rattle.rows_records.specs.Records.{zero_row}
use Rattle.build_fill.specs.Pass.{part_start, parts_total, parts-laid, Rowed}
use Rattle.extend_count.proofs.Extension.{low-from, in_order, holder}
use Rattle.extend_parts.proofs.OldRuns.{row_has, LaidRows}

-- both ends of the range are good
pub record GoodEnds (d : ℕ) (r : Row) : Type 0 where
  pub low : GoodEnd d r.low
  pub up : GoodEnd d r.up

end-limits : (d : ℕ) (z : ℤ) → GoodEnd d z → (lowest_end ≤ℤ z) × (z ≤ℤ pos 4000000)
unfolding within
end-limits d z e = let b = both _ _ e.limited in (le_z-true b.0, le_z-true b.1)

module _ (x : Index) (s : List ℤ) (g : WellFormed x) (long : Extendable x s) where
  open extending x s g long use {w, d, old, n, sum, made, size, at, G}

  abbrev P : ℕ → ℕ → Bool
  P = row_has x s g long

  one : 0 < d
  one = omega arith

  new-ends : (k : ℤ) → GoodEnd d (low_of d k) → GoodEnd d (up_of d k) → GoodEnds d (new_row d k)
  unfolding new_row
  new-ends k a b = record { low = a; up = b }

  pub good-ends : (i : ℕ) → i < size → GoodEnds d (at i)
  good-ends i l = all-mem _ made (all-woven d _ _ _
      (mem-all (GoodEnds d) _ (λ r m. let o = all-mem _ _ (each_row x g) m in record { low = o.low_end; up = o.up-end }))
      (λ k m. let o = numbers-occur (λ j. sum _) d _ k m in
      let b = ends-good s w d _ long.values g.head.window.most one g.head.width.most in
      subst (λ t. GoodEnds d (new_row d t)) o.is (new-ends _ b.0 b.1))) (mem-at zero_row made i l)

  pub ends-limits : (i : ℕ) → i < size → ((lowest_end ≤ℤ (at i).low) × ((at i).low ≤ℤ pos 4000000)) × ((lowest_end ≤ℤ (at i).up) × ((at i).up ≤ℤ pos 4000000))
  ends-limits i l = (end-limits d _ (good-ends i l).low, end-limits d _ (good-ends i l).up)

  pub rows_are : extended_rows x sum n ≡ map G made
  rows_are = woven-extended x sum n g

  pub size_is : (i : ℕ) → length (G (at i)).runs ≡ run_count (P i) n
  unfolding with_runs
  size_is i = length-map (runs (P i) n) entry

  pub start_is : (i : ℕ) → Σℕ i (λ y. length (G (at y)).runs) ≡ part_start size n P i
  start_is i = Σℕ-same i (λ y. length (G (at y)).runs) (λ y. run_count (P y) n) (λ y b. size_is y)

  pub total-is : length (all_runs (map G made)) ≡ parts_total size n P
  total-is = runs-total zero_row G made ∙ start_is size

  pub total-most : parts_total size n P ≤ n
  unfolding extended
  total-most = omega (arith, sym total-is, ap (λ l. length (all_runs l)) rows_are, (extended-most x s g long).1)

  module _ (rows : List Row) (fits : size ≤ length rows) (front : take size rows ≡ records 0 (map G made)) where
    record-at : (i : ℕ) → i < size → get_or rows i zero_row ≡ record { low = (G (at i)).low; up = (G (at i)).up; first = 0 + Σℕ i (λ y. length (G (at y)).runs); runs = length (G (at i)).runs }
    record-at i l = sym (get_or-take size rows i zero_row l) ∙ ap (λ m. get_or m i zero_row) front ∙ records-at zero_row G zero_row 0 made i l

    pub low-at : (i : ℕ) → i < size → (get_or rows i zero_row).low ≡ (at i).low
    unfolding with_runs grown
    low-at i l = rw (record-at i l)

    pub up_at : (i : ℕ) → i < size → (get_or rows i zero_row).up ≡ (at i).up
    unfolding with_runs grown
    up_at i l = rw (record-at i l)

    pub first-at : (i : ℕ) → i < size → (get_or rows i zero_row).first ≡ part_start size n P i
    first-at i l =
        let e : 0 + Σℕ i (λ y. length (G (at y)).runs) ≡ Σℕ i (λ y. length (G (at y)).runs) = omega arith in
        ap (λ r. r.first) (record-at i l) ∙ e ∙ start_is i

    pub runs-at : (i : ℕ) → i < size → (get_or rows i zero_row).runs ≡ run_count (P i) n
    runs-at i l = ap (λ r. r.runs) (record-at i l) ∙ size_is i

    pub extended-rowed : Rowed P sum old n rows size
    extended-rowed = record {
      within = fits;
      small = λ i l.
          let b = ends-limits i l in
          let hi = b.1.1 in
          let wide = (low-from lowest_end made i l (woven-ascends x s g long)).1 in
          record { least = rw (low-at i l) (omega (zarith, b.0.0, hi)); order = rw (low-at i l, up_at i l) (omega zarith); most = rw (up_at i l) (omega (zarith, hi)) };
      apart = λ i k a b. rw (up_at i (omega arith), low-at k b) (in_order lowest_end made i k a b (woven-ascends x s g long));
      holds = λ i j l a b. grown-new x sum old (at i) j a ∙ sym (rw (low-at i l, up_at i l) refl);
      home = λ j a b. let h = holder made (sum j) (woven-covers x s g long j a b) in
          record { at = h.at; below = h.below; is = grown-new x sum old _ j a ∙ h.holds };
      first = first-at;
      runs = runs-at;
    }

    -- the parts lie in columns that have room for them
    pub extended-laid : (room : ℕ) → parts_total size n P ≤ room → LaidRows x s g long rows room
    extended-laid room h =
        let laid = parts-laid size n P in
        record {
          within = fits;
          low = low-at;
          size = runs-at;
          apart = λ i k a b. omega (arith, first-at i (omega arith), runs-at i (omega arith), first-at k b, laid.apart i k a b);
          fits = λ i l. omega (arith, first-at i l, runs-at i l, laid.room i l);
        }
