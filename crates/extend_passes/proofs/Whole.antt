-- Laws of specs/Whole.
use Rattle.meaning_numbers.proofs.Prelude.{◌≡◌, refl, sym, ap, ◌∙◌, Bool, true, List, map, ℕ, ◌+◌, ◌-◌, ◌*◌, ◌<◌, ◌≤◌, arith, dec_lt, ℤ, length, get_or, take, length-map, zarith}
use Rattle.meaning_curves.specs.Curve.{window_sum}
use Rattle.meaning_rows.specs.{declared.Row.Row, Index.Index, Index.RangeRow, Index.records, Extend.extended, Runs.run_count}
use Rattle.meaning_rows.proofs.{Laid.length-records, Woven.woven_rows, Woven.woven-most, Woven.grown_runs, Columns.get_d_past}
use Rattle.meaning_entries.specs.Buffers.{filled, index_buffers}
use Rattle.rows_records.specs.Records.{zero_row}
use Rattle.sums_slide.specs.{declared.Window.Window, Levels.windows_of, Ends.raised_end}
use Rattle.build_fill.specs.{Pass.part_start, Pass.parts_total, Pass.Passable, Pass.PassMade, Turn.Small}
use Rattle.extend_parts.specs.Copy.{column_to}
use Rattle.extend_parts.proofs.{Lay.laid-past, OldRuns.row_has, Records.Matches}
use Rattle.extend_rows.specs.{Passes.less_join, Passes.CountAsked, Passes.CountedAs, Passes.LayAsked, Passes.LaidBy, Steps.joins_of, Steps.SumAsked, Shell.WovenAs, Shell.WeaveAsked}
use Rattle.extend_rows.proofs.{Shell.row_is, Shell.rows_long, Laid.lay-asked, Laid.laid-front, Laid.laid-rows, Laid.laid-long}
use Rattle.extend_runs.specs.Joining.{JoinedRun, spot_of, JoinAsked, JoinedAt}
use Rattle.extend_runs.specs.Copied.{CopyAsked, CopiedAs}
use Rattle.extend_runs.proofs.Rowed.{rows_are, first-at, extended-rowed}
use Rattle.extend_runs.proofs.Counts.{listable, countable, row_fits, joins, sum-asked, matches, row_in, old-size}
use Rattle.extend_runs.proofs.Joined.{Joins, copies-left, copies-right, row-begins, joinable, passable, past-both, long-both}
use Rattle.extend_passes.specs.{Finished.HoldsExtended, Whole.index_of, Whole.PassesAsked}
use Rattle.extend_passes.proofs.Finished.{finished}

module _ {s : List ℤ} {w e d b old : ℕ} {from : List Row} {lefts rights : List ℕ} {rows : List Row} {left right : List ℕ} (h : PassesAsked s w e d b old from lefts rights rows left right) where
  abbrev x : Index
  x = index_of w d old from lefts rights

  abbrev n : ℕ
  n = windows_of s w

  abbrev made : List Row
  made = woven_rows x s h.formed h.longer

  abbrev size : ℕ
  size = length made

  abbrev G : Row → RangeRow
  G = grown_runs x (window_sum s w) old n

  pub weave-asked : WeaveAsked x s w e d b old from rows left
  weave-asked = record {
    can = record { formed = h.formed; longer = h.longer; lent = h.lent; bias = h.bias; window = refl; width = refl; windows = refl; rows_are = refl };
    in_rows = h.in_rows;
    in_left = h.in_left;
  }

  -- there are as many rows as the extended index has
  pub rows-counted : {rows₁ : List Row} {count : ℕ} → WovenAs x s rows rows₁ count → count ≡ length (extended x s).rows
  unfolding extended
  rows-counted v = v.0 ∙ sym (length-map made G) ∙ sym (length-records 0 _) ∙ ap (λ l. length (records 0 l)) (sym (rows_are x s h.formed h.longer))

  most : size ≤ n
  most = woven-most x s h.formed h.longer

  module _ (left₁ : List ℕ) (long₁ : length left₁ ≡ length left) (rows₁ : List Row) (count : ℕ) (v : WovenAs x s rows rows₁ count) where
    row_at : (i : ℕ) → get_or rows₁ i zero_row ≡ get_or made i zero_row
    row_at i = ap (λ l. get_or l i zero_row) v.1 ∙ row_is x s h.formed h.longer e b h.lent h.bias rows i

    long-rows : length rows₁ ≡ length rows
    long-rows = ap length v.1 ∙ rows_long x s h.formed h.longer e b h.lent h.bias rows h.in_rows

    in_rows : size ≤ length rows₁
    in_rows = omega (arith, most, long-rows, h.in_rows)

    pub count-asked : CountAsked s w e (10000 * w + e) old rows₁ count left₁ right
    count-asked = rw v.0 (record {
      lists = listable x s h.formed h.longer e h.lent lefts rights refl rows₁ row_at in_rows _ _ (omega (arith, most, h.in_right)) (omega (arith, most, h.in_left, long₁));
      counts = countable x s h.formed h.longer e h.lent lefts rights refl rows₁ row_at in_rows _ _ right left₁ refl refl
          (omega (arith, most, h.in_right)) (omega (arith, most, h.in_left, long₁));
    })

    module _ (i : ℕ) (left₂ right₂ : List ℕ) (c : CountedAs s w e (10000 * w + e) old rows₁ size left₁ right i left₂ right₂) where
      fit-r : size ≤ length right
      fit-r = omega (arith, most, h.in_right)

      fit-l : size ≤ length left₁
      fit-l = omega (arith, most, h.in_left, long₁)

      abbrev row : Row
      row = get_or rows₁ i zero_row

      abbrev J : Bool
      J = joins_of s w old row rights

      pub joined : Joins x s h.formed h.longer i J
      joined = joins x s _ _ e h.lent lefts rights refl rows₁ row_at in_rows right₂ _ right left₁ c.ends refl fit-r fit-l left₂ c.counted i c.first

      pub old-fits : row.first + row.runs ≤ length rights
      old-fits = row_fits x s h.formed h.longer e h.lent lefts rights refl rows₁ row_at in_rows right₂ _ right left₁ c.ends refl fit-r fit-l left₂ c.counted i c.first

      -- there is a record i
      pub first-in : i < length rows₁
      first-in = elim (dec_lt old n) [
        | yes l ↦ omega (arith, in_rows, row_in x s h.formed h.longer e h.lent lefts rights refl rows₁ row_at in_rows right₂ _ right left₁ c.ends refl fit-r fit-l left₂ c.counted i c.first l)
        | no f ↦ omega (arith, c.none (omega arith), long-rows, h.in_rows, h.lent.fits, h.lent.some)
      ]

      sums : SumAsked J i left₂ size
      sums = sum-asked x s h.formed h.longer e h.lent lefts rights refl rows₁ row_at in_rows right₂ _ right left₁ c.ends refl fit-r fit-l left₂ c.counted i c.first

      fits_all : size ≤ length rows
      fits_all = omega (arith, most, h.in_rows)

      same-counts : Matches (map G made) rows₁ (less_join J i left₂)
      same-counts = matches x s h.formed h.longer e h.lent lefts rights refl rows₁ row_at in_rows right₂ _ right left₁ c.ends refl fit-r fit-l left₂ c.counted i c.first

      pub lays-asked : LayAsked s w old row rights i rows₁ size left₂
      lays-asked = record {
        window = h.lent.fits;
        fits = old-fits;
        sums = sums;
        lays = λ ends q su. lay-asked G made rows rows₁ v.1 row_at fits_all long-rows _ ends same-counts su (omega (arith, sums.fits, q));
      }

      module _ (rows₂ : List Row) (y : LaidBy s w old row rights i rows₁ size left₂ rows₂) where
        pub front : take size rows₂ ≡ records 0 (map G made)
        front = ap (take size) y.is ∙ laid-front G made rows rows₁ v.1 row_at fits_all long-rows _ y.ends same-counts y.summed

        -- the records are those of the extended index
        pub laid-are : rows₂ ≡ filled zero_row (records 0 (map G made)) rows
        laid-are = y.is ∙ laid-rows G made rows rows₁ v.1 row_at fits_all long-rows _ _ same-counts y.summed

        long-laid : length rows₂ ≡ length rows
        long-laid = ap length y.is ∙ laid-long G made rows rows₁ v.1 row_at fits_all long-rows _ _ same-counts y.summed

        pub copies-asked : (left₃ right₃ : List ℕ) → length left₃ ≡ length left → length right₃ ≡ length right → CopyAsked from lefts rights rows₂ size left₃ right₃
        copies-asked left₃ right₃ a b = record {
          lefts-fit = copies-left x s h.formed h.longer lefts rights refl rows₂ (omega (arith, long-laid, fits_all)) front left₃ right₃ (omega (arith, a)) (omega (arith, b));
          rights-fit = copies-right x s h.formed h.longer lefts rights refl rows₂ (omega (arith, long-laid, fits_all)) front left₃ right₃ (omega (arith, a)) (omega (arith, b));
        }

        module _ (left₃ right₃ : List ℕ) (long-l : length left₃ ≡ length left) (long-r : length right₃ ≡ length right) (left₄ right₄ : List ℕ) (k : CopiedAs from lefts rights rows₂ size left₃ right₃ left₄ right₄) where
          in-l : n ≤ length k.l
          in-l = omega arith

          in-r : n ≤ length k.r
          in-r = omega arith

          fits₂ : size ≤ length rows₂
          fits₂ = omega (arith, long-laid, fits_all)

          abbrev new-row : Row
          new-row = get_or rows₂ i zero_row

          abbrev P : ℕ → ℕ → Bool
          P = row_has x s h.formed h.longer

          spot_is : J ≡ true → spot_of new-row row ≡ part_start size n P i + run_count (P i) old - 1
          spot_is t = omega (
            arith,
            first-at x s h.formed h.longer rows₂ fits₂ front i (joined.row t),
            old-size x s h.formed h.longer e h.lent lefts rights refl rows₁ row_at in_rows right₂ _ right left₁ c.ends refl fit-r fit-l i (joined.row t),
            ap (λ q. q.runs) (row_at i),
          )

          past_row : size ≤ i → new-row ≡ zero_row
          past_row f = ap (λ l. get_or l i zero_row) y.is ∙ laid-past _ size rows₁ i f ∙ row_at i ∙ get_d_past zero_row made i f

          small_row : Small new-row
          small_row = elim (dec_lt i size) [
            | yes l ↦ (extended-rowed x s h.formed h.longer rows₂ fits₂ front).small i l
            | no f ↦ rw (past_row (omega arith)) (record { least = omega zarith; order = omega zarith; most = omega zarith })
          ]

          part-begins : new-row.first ≤ length right₄
          part-begins = elim (dec_lt i size) [
            | yes l ↦ rw k.right_is (row-begins x s h.formed h.longer lefts rights refl rows₂ fits₂ front k.l k.r in-l in-r i l)
            | no f ↦ rw (past_row (omega arith)) (omega arith)
          ]

          pub join-asked : JoinAsked s w e old J new-row row (length right₄)
          join-asked = record {
            lent = h.lent;
            below = h.longer.longer;
            small = small_row;
            begins = part-begins;
            can = λ p a b. rw k.right_is (joinable x s _ _ lefts rights refl rows₂ fits₂ front k.l k.r in-l in-r e a b joined (λ t. refl) (λ t. refl) spot_is);
          }

          module _ (t : Window) (right₅ : List ℕ) (j : JoinedAt s w e old J new-row row right₄ t right₅) where
            run : JoinedRun s w e j.place J (raised_end (10000 * w + e) new-row.low) (raised_end (10000 * w + e) new-row.up) (spot_of new-row row) (column_to from rights rows₂ size k.r) t right₅
            run = rw k.right_is at j.run

            -- the pass can begin
            pub fill-asked : Passable P s w e t rows₂ size left₄ right₅
            fill-asked = rw k.left_is (passable x s _ _ lefts rights refl rows₂ fits₂ front k.l k.r in-l in-r e j.start j.begins joined (λ q. refl) (λ q. refl) spot_is run)

            long-columns : (length (column_to from lefts rows₂ size k.l) ≡ length k.l) × (length right₅ ≡ length k.r)
            long-columns = long-both x s _ _ lefts rights refl rows₂ fits₂ front k.l k.r in-l in-r e j.start j.begins joined (λ q. refl) (λ q. refl) spot_is run

            zeros : (z : ℕ) → parts_total size n P ≤ z → (get_or (column_to from lefts rows₂ size k.l) z 0 ≡ get_or k.l z 0) × (get_or right₅ z 0 ≡ get_or k.r z 0)
            zeros z l = past-both x s _ _ lefts rights refl rows₂ fits₂ front k.l k.r in-l in-r e j.start j.begins joined (λ q. refl) (λ q. refl) spot_is run z l

            -- and where it ends, the index_buffers hold the extended index
            pub extended-held : (left₆ right₆ : List ℕ) → PassMade P s w size left₄ right₅ left₆ right₆ → HoldsExtended x s (index_buffers rows left right) (index_buffers rows₂ left₆ right₆)
            extended-held left₆ right₆ f = finished x s h.formed h.longer rows left right h.in_left h.in_right
                (record { long = ap length k.left_is ∙ long-columns.0 ∙ k.cleared.0.long ∙ long-l; zero = λ z l. ap (λ m. get_or m z 0) k.left_is ∙ (zeros z l).0 ∙ k.cleared.0.zero z })
                (record { long = long-columns.1 ∙ k.cleared.1.long ∙ long-r; zero = λ z l. (zeros z l).1 ∙ k.cleared.1.zero z }) f laid-are
