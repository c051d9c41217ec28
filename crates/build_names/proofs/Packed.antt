-- Laws of specs/Packed.
use Rattle.meaning_numbers.specs.{Sum.Σℕ, Place.any}
use Rattle.meaning_numbers.proofs.Prelude.{◌≡◌, refl, sym, ap, ◌∙◌, subst, true, false, List, [], ◌∷◌, map, ℕ, zero, suc, ◌+◌, ◌*◌, ◌<◌, ◌≤◌, arith, dec_lt, ℤ, pos, negsuc, ◌+ℤ◌, length, get_or, length-map, length-append, get_or-take, ◌≤ℤ◌, ◌<ℤ◌, Rep, up, dn, zarith, rep-self, rep_pos, rep_add, rep_mul, rep-eq, le_z-true, by-test, clash}
use Rattle.meaning_numbers.proofs.{Sum.Σℕ-none, Sum.Σℕ-same, Member.All}
use Rattle.meaning_curves.specs.Curve.{window_sum}
use Rattle.meaning_rows.specs.{declared.Row.Row, Range.row_number, Range.low_of, Range.up_of, Range.inside, Runs.runs, Runs.run_count, Index.records, Index.all_runs, Build.SetRow, Build.filed, Build.entry, Build.with_runs, Build.built_rows}
use Rattle.meaning_rows.proofs.Build.{Fine, Chain, Tiled, Ends, holds_sum, merged_rows, built-tiled, built-covers, built-ends, built-length, built-runs, merged-none}
use Rattle.meaning_rows.proofs.{Range.is-inside, Range.row_below, Range.row-above, Runs.runs-cong, LaidAt.Σℕ-shift}
use Rattle.rows_records.specs.Records.{zero_row}
use Rattle.sums_slide.specs.Levels.{Lent, windows_of, level-le}
use Rattle.sums_slide.proofs.Levels.{level-is}
use Rattle.sums_count.specs.Tally.{is_row}
use Rattle.rows_pack.specs.PackedAs.{PackedAs}
use Rattle.build_merge.specs.{Names.NamedRow, Merging.Numbered, Merging.Ready, Merging.part_at}
use Rattle.build_merge.proofs.Merging.{record_of, records-first}
use Rattle.build_names.specs.{Places.Unnamed, Packed.Sound, Ranges.Limited, Ranges.ends_by, Ranges.place_in, Ranges.row_in, Ranges.Ranged, Ranges.RangeRows}
use Rattle.build_names.proofs.Ranges.{first_passes, first-fails, held-row, no-le_z}

-- ---- lists of rows by place

-- what stands past the end
abbrev none : SetRow
none = record { low = pos 0; up = pos 0; has = λ j. false }

abbrev nth : List SetRow → ℕ → SetRow
nth l i = get_or l i none

record-at : (n k : ℕ) (l : List SetRow) (i : ℕ) → i < length l → get_or (records k (map (with_runs n) l)) i zero_row ≡ record_of n (k + Σℕ i (λ x. run_count (nth l x).has n)) (nth l i)
record-at n k [] i h = absurd (omega arith)
record-at n k (s ∷ l) zero h =
    let e : k ≡ k + Σℕ 0 (λ x. run_count (nth (s ∷ l) x).has n) = omega (arith, Σℕ-none (λ x. run_count (nth (s ∷ l) x).has n)) in
    ap (λ r. get_or r 0 zero_row) (records-first n k s l) ∙ ap (λ f. record_of n f s) e
record-at n k (s ∷ l) (suc i) h =
    let e : k + run_count s.has n + Σℕ i (λ x. run_count (nth l x).has n) ≡ k + Σℕ (suc i) (λ x. run_count (nth (s ∷ l) x).has n) = omega (arith, Σℕ-shift i (λ x. run_count (nth (s ∷ l) x).has n)) in
    ap (λ r. get_or r (suc i) zero_row) (records-first n k s l) ∙ record-at n (k + run_count s.has n) l i (omega arith) ∙ rw e

runs-total : (n : ℕ) (l : List SetRow) → length (all_runs (map (with_runs n) l)) ≡ Σℕ (length l) (λ x. run_count (nth l x).has n)
unfolding all_runs with_runs Σℕ
runs-total n [] = refl
runs-total n (s ∷ l) = omega (
  arith,
  length-append (map entry (runs s.has n)) (all_runs (map (with_runs n) l)),
  length-map (runs s.has n) entry,
  runs-total n l,
  Σℕ-shift (length l) (λ x. run_count (nth (s ∷ l) x).has n),
)

numbered-by : (row : ℕ → ℕ) (n k : ℕ) (l : List SetRow) → ((i j : ℕ) → i < length l → j < n → (nth l i).has j ≡ is_row row (k + i) j) → Numbered row n k l
unfolding Numbered
numbered-by row n k [] h = tt
numbered-by row n k (s ∷ l) h = (
  λ j b. let z : k + 0 ≡ k = omega arith in h 0 j (omega arith) b ∙ rw z,
  numbered-by row n (k + 1) l (λ i j a b. let z : k + suc i ≡ k + 1 + i = omega arith in h (suc i) j (omega arith) b ∙ rw z),
)

-- the row that holds z
pub record At (z : ℤ) (l : List SetRow) : Type 0 where
  pub place : ℕ
  pub below : place < length l
  pub is : inside (nth l place).low (nth l place).up z ≡ true

held_at : (z : ℤ) (l : List SetRow) → holds_sum z l ≡ true → At z l
unfolding any
held_at z [] e = clash e refl
held_at z (s ∷ l) e = by-test _
    (λ t. record { place = 0; below = omega arith; is = t })
    (λ f. let r = held_at z l (rw f at e) in record { place = suc _; below = omega arith; is = r.is })

ends_at : (P : ℤ → Type 0) (l : List SetRow) → All (Ends P) l → (i : ℕ) → i < length l → Ends P (nth l i)
unfolding All
ends_at P [] a i h = absurd (omega arith)
ends_at P (s ∷ l) a zero h = a.0
ends_at P (s ∷ l) a (suc i) h = ends_at P l a.1 i (omega arith)

module _ (sum : ℕ → ℤ) (n : ℕ) where
  chain-fine : (r : SetRow) (l : List SetRow) → Chain sum n r l → (i : ℕ) → i < suc (length l) → Fine sum n (nth (r ∷ l) i)
  unfolding Chain
  chain-fine r [] c zero h = c
  chain-fine r [] c (suc i) h = absurd (omega arith)
  chain-fine r (s ∷ l) c zero h = c.0
  chain-fine r (s ∷ l) c (suc i) h = chain-fine s l c.2 i (omega arith)

  chain-above : (r : SetRow) (l : List SetRow) → Chain sum n r l → (k : ℕ) → k < length l → r.up ≤ℤ (nth l k).low
  unfolding Chain
  chain-above r [] c k h = absurd (omega arith)
  chain-above r (s ∷ l) c zero h = c.1.order
  chain-above r (s ∷ l) c (suc k) h =
      let a = c.1.order in let b = (chain-fine s l c.2 0 (omega arith)).wide in let d = chain-above s l c.2 k (omega arith) in omega zarith

  chain-order : (r : SetRow) (l : List SetRow) → Chain sum n r l → (i k : ℕ) → i < k → k < suc (length l) → (nth (r ∷ l) i).up ≤ℤ (nth (r ∷ l) k).low
  unfolding Chain
  chain-order r l c i zero a b = absurd (omega arith)
  chain-order r l c zero (suc k) a b = chain-above r l c k (omega arith)
  chain-order r [] c (suc i) (suc k) a b = absurd (omega arith)
  chain-order r (s ∷ l) c (suc i) (suc k) a b = chain-order s l c.2 i k (omega arith) (omega arith)

  tiled-at : (l : List SetRow) → Tiled sum n l → (i : ℕ) → i < length l → Fine sum n (nth l i)
  unfolding Tiled
  tiled-at [] t i h = absurd (omega arith)
  tiled-at (r ∷ l) t i h = chain-fine r l t i h

  tiled-order : (l : List SetRow) → Tiled sum n l → (i k : ℕ) → i < k → k < length l → (nth l i).up ≤ℤ (nth l k).low
  unfolding Tiled
  tiled-order [] t i k a b = absurd (omega arith)
  tiled-order (r ∷ l) t i k a b = chain-order r l t i k a b

  -- ---- packed

  module _ (l : List SetRow) (rows : List Row) (count : ℕ) (s : Sound sum n l) (p : PackedAs n l rows count) where
    abbrev row : ℕ → ℕ
    row = row_in rows count sum

    abbrev parts_of : ℕ → ℕ
    parts_of i = Σℕ i (λ x. run_count (nth l x).has n)

    in_list : (i : ℕ) → i < count → i < length l
    in_list i h = omega arith

    packed-at : (i : ℕ) → i < count → get_or rows i zero_row ≡ record_of n (0 + parts_of i) (nth l i)
    packed-at i h = sym (get_or-take count rows i zero_row h) ∙ ap (λ r. get_or r i zero_row) p.front ∙ record-at n 0 l i (in_list i h)

    -- the row that holds a window is its row
    found : (j : ℕ) → j < n → (row j < count) × (inside (nth l (row j)).low (nth l (row j)).up (sum j) ≡ true)
    unfolding row_in place_in ends_by
    found j b =
        let a = held_at (sum j) l (s.covers j b) in
        let k = is-inside _ (nth l a.place).up (sum j) a.is in
        let in_count : a.place < count = omega (arith, a.below, p.many) in
        let not-above : row j ≤ a.place = elim (dec_lt a.place (row j)) [
          | yes h ↦ let e : (get_or rows a.place zero_row).up ≤ℤ sum j = le_z-true (first_passes (ends_by rows (sum j)) count a.place h) in
              let f : (nth l a.place).up ≤ℤ sum j = rw (packed-at a.place in_count) at e in absurd (omega zarith)
          | no h ↦ omega arith
        ] in
        let here : row j < count = omega (arith, in_count, not-above) in
        let top : sum j <ℤ (get_or rows (row j) zero_row).up = no-le_z (first-fails (ends_by rows (sum j)) count here) in
        let top' : sum j <ℤ (nth l (row j)).up = rw (packed-at (row j) here) at top in
        let same : row j ≡ a.place = elim (dec_lt (row j) a.place) [
          | yes h ↦ let o = tiled-order l s.tiled (row j) a.place h a.below in absurd (omega zarith)
          | no h ↦ omega (arith, not-above)
        ] in
        (here, rw same a.is)

    ranged : Ranged sum n rows count
    ranged = record {
      within-rows = p.within;
      wide = λ i h. rw (packed-at i h) (tiled-at l s.tiled i (in_list i h)).wide;
      order = λ i k a h. rw (packed-at i (omega arith), packed-at k h) (tiled-order l s.tiled i k a (in_list k h));
      limited = λ i h. let e = ends_at Limited l s.ends i (in_list i h) in rw (packed-at i h) (record { low_end = e.low_end; up-end = e.up-end });
      home = λ j b. (found j b).0;
      holds = λ j b. let f = found j b in rw (packed-at (row j) f.0) (is-inside (nth l (row j)).low (nth l (row j)).up (sum j) f.1).0;
    }

    -- each row has the windows of its number
    has-row : (i j : ℕ) → i < count → j < n → (nth l i).has j ≡ is_row row i j
    has-row i j h b =
        (tiled-at l s.tiled i (in_list i h)).exact j b
        ∙ (let k = held-row sum n rows count ranged i j h b in rw (packed-at i h) at k)

    counts : (i : ℕ) → i < count → run_count (nth l i).has n ≡ run_count (is_row row i) n
    counts i h = ap length (runs-cong (nth l i).has (is_row row i) n (λ j b. has-row i j h b))

    parts_are : (i : ℕ) → i ≤ count → parts_of i ≡ part_at row n i
    parts_are i h = Σℕ-same i (λ x. run_count (nth l x).has n) (λ x. run_count (is_row row x) n) (λ x a. counts x (omega arith))

    pub packed-ranges : RangeRows sum n rows count
    packed-ranges = record {
      ranged = ranged;
      first-is = λ i h. ap (λ r. r.first) (packed-at i h) ∙ omega (arith, parts_are i (omega arith));
      runs-is = λ i h. ap (λ r. r.runs) (packed-at i h) ∙ counts i h;
    }

    pub packed-numbered : Numbered row n 0 l
    packed-numbered = numbered-by row n 0 l (λ i j a b. let z : 0 + i ≡ i = omega arith in has-row i j (omega arith) b ∙ ap (λ x. is_row row x j) (sym z))

    pub packed-total : part_at row n count ≤ n
    packed-total = omega (arith, sym (parts_are count (omega arith)), runs-total n l, s.total, ap (λ x. Σℕ x (λ y. run_count (nth l y).has n)) p.many)

limited-by : (x : ℤ) → up x ≤ 1000000000 + dn x → dn x ≤ 1000000000 + up x → Limited x
limited-by (pos n) a b = record { least = omega arith; most = omega arith }
limited-by (negsuc n) a b = record { least = omega arith; most = omega arith }

-- ---- rows of a series

module _ (s : List ℤ) (w e : ℕ) (h : Lent s w e) where
  abbrev sums : ℕ → ℤ
  sums = window_sum s w

  abbrev windows : ℕ
  windows = windows_of s w

  windows-few : windows ≤ 1048576
  windows-few = omega arith

  windows-some : 0 < windows
  windows-some = omega arith

  module _ (l : List SetRow) (rows : List Row) (count : ℕ) (g : Sound sums windows l) (p : PackedAs windows l rows count) (left right : List ℕ) (in_left : windows ≤ length left) (in_right : windows ≤ length right) where
    -- where the parts are empty, the rows can be named
    pub packed-unnamed : ((x : ℕ) → get_or right x 0 ≡ 0) → Unnamed s w e rows count left right
    packed-unnamed z = record {
      lent = h;
      ranges = packed-ranges sums windows l rows count g p;
      few = omega (arith, p.many, g.few, windows-few);
      in_left = omega (arith, packed-total sums windows l rows count g p);
      in_right = omega (arith, packed-total sums windows l rows count g p);
      zeros = z;
    }

    -- where the parts have the names, the rows can be merged
    pub packed-ready : ((i : ℕ) → i < count → NamedRow (row_in rows count sums) windows i (part_at (row_in rows count sums) windows i) left right)
        → Ready (record { windows = windows; list = l; row = row_in rows count sums }) rows count left right
    packed-ready names = record {
      some = omega (arith, p.many, (held_at (sums 0) l (g.covers 0 windows-some)).below);
      few = omega arith;
      short = windows-few;
      packed = p;
      numbered = packed-numbered sums windows l rows count g p;
      names = names;
      in_left = omega (arith, packed-total sums windows l rows count g p);
      in_right = omega (arith, packed-total sums windows l rows count g p);
    }

  module _ (d : ℕ) (one : 0 < d) (most : d ≤ 1000000) where
    up-low : (k : ℤ) → up_of d k ≡ low_of d k +ℤ pos d
    up-low k = rep-eq (rep_mul (rep_add (rep-self k) (rep_pos 1)) (rep_pos d)) (rep_add (rep_mul (rep-self k) (rep_pos d)) (rep_pos d)) (omega arith)

    -- the ends of a row that has a window are near its sum
    near : (low high z : ℤ) (m : ℕ) → Rep z m (10000 * w + e) → m ≤ 20000 * w + e → low ≤ℤ z → z <ℤ high → high ≡ low +ℤ pos d → Limited low × Limited high
    near low high z m r b a c q =
        (limited-by low (omega zarith) (omega zarith), limited-by high (omega zarith) (omega zarith))

    limited-ends : (j : ℕ) → j < windows → Limited (low_of d (row_number d (sums j))) × Limited (up_of d (row_number d (sums j)))
    limited-ends j b = near _ _ _ _ (level-is j h) (level-le j h) (row_below d _ one) (row-above d _ one) (up-low (row_number d _))

    -- the rows of a build
    pub merged-sound : (g : ℕ) → Sound sums windows (merged_rows sums d g windows)
    unfolding built_rows
    merged-sound g = record {
      tiled = built-tiled sums d windows one g;
      covers = built-covers sums d windows one g;
      ends = built-ends sums d windows one g Limited limited-ends;
      few = omega (arith, built-length sums d windows one g, length-map (merged_rows sums d g windows) (with_runs windows));
      total = built-runs sums d windows one g;
    }

    -- before they are merged
    pub filed-sound : Sound sums windows (filed sums d windows)
    filed-sound = subst (Sound sums windows) (merged-none windows _) (merged-sound 0)
