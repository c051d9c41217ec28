-- The index that is built of a series passes against it: it is well formed, no offset is filed wrongly and no window is missing (`built-passes`), with at most as many rows and runs as windows.
-- Its rows ascend and hold each window once, by the laws of the build, and its ends are in their limits, since the window sums are.
use Rattle.meaning_numbers.proofs.Member.{All, all-mem, mem-all}
use Rattle.meaning_numbers.proofs.Prelude.{◌≡◌, refl, sym, ◌∙◌, true, List, None, ℕ, ◌<◌, ◌≤◌, arith, ℤ, pos, length, ◌≤ℤ◌}
use Rattle.meaning_curves.specs.Limits.{window_in, width_in, most_values, first_outside, lowest_end}
use Rattle.meaning_curves.specs.Curve.{window_sum, window_count}
use Rattle.meaning_rows.specs.{Judge.first_bad_row, Audit.first_wrong, Audit.missing, Build.SetRow, Build.built_rows, Build.built}
use Rattle.meaning_rows.proofs.Build.{Ends, Fine, merged_rows, built-tiled, tiled-fine, tiled-ascends, built-once, built-occupied, built-ends, built-runs}
use Rattle.meaning_rows.proofs.{Times.sizes-all, Judge.Natural, Judge.between, Judge.GoodEnd, Judge.WellFormed, Judge.none-bad, Judge.rows-at-most, Audit.Filed, Audit.filed-passes, Sets.Sound, Sets.sets-well-formed, Sets.sets-home, Sets.once-any, Sets.end-least, Sums.ends-good}

-- what a series, a window length and a row width are in their limits
pub record Buildable (s : List ℤ) (w d : ℕ) : Type 0 where
  pub window : window_in (pos w) ≡ true
  pub width : width_in (pos d) ≡ true
  pub long : w ≤ length s
  pub short : length s ≤ most_values
  pub values : first_outside s ≡ None

module _ (s : List ℤ) (w d g : ℕ) (b : Buildable s w d) where
  abbrev sum : ℕ → ℤ
  sum = window_sum s w

  abbrev count : ℕ
  count = window_count (length s) w

  abbrev rows : List SetRow
  rows = merged_rows sum d g count

  w-in : Natural 1 256 (pos w)
  w-in = between 1 256 (pos w) b.window

  d-in : Natural 1 1000000 (pos d)
  d-in = between 1 1000000 (pos d) b.width

  one : 0 < d
  one = omega (arith, d-in.least)

  good-ends : All (Ends (GoodEnd d)) rows
  good-ends = built-ends sum d count one g _ (λ j _. ends-good s w d j b.values w-in.most one d-in.most)

  sound : Sound d count rows
  sound = record {
    ascending = tiled-ascends sum count lowest_end rows
        (mem-all (λ r. lowest_end ≤ℤ r.low) rows (λ r m. end-least d _ (all-mem _ rows good-ends m).low_end)) (built-tiled sum d count one g);
    ends = good-ends;
    occupied = built-occupied sum d count one g;
    total = omega (arith, sizes-all _ count (built-once sum d count one g));
  }

  pub built-well-formed : WellFormed (built s w d g)
  unfolding built built_rows
  built-well-formed = sets-well-formed (pos w) (pos d) count rows
      (record { window = w-in; width = d-in; windows = record { is = refl; least = omega (arith, b.long); most = omega (arith, w-in.least, b.short) } }) sound

  pub built-filed : Filed (built s w d g) s
  unfolding built built_rows
  built-filed = record {
    home = λ j l. sets-home (pos w) (pos d) count rows s j built-well-formed l
        (λ q m t. sym ((all-mem (Fine sum count) rows (tiled-fine sum count rows (built-tiled sum d count one g)) m).exact j l) ∙ t)
        (once-any j rows (built-once sum d count one g j l));
  }

  pub built-passes : (first_bad_row (built s w d g) ≡ None) × (first_wrong (built s w d g) s ≡ None) × (missing (built s w d g) ≡ 0)
  built-passes = let p = filed-passes (built s w d g) s built-well-formed built-filed in (none-bad (built s w d g) built-well-formed, p.0, p.1)

  -- at most as many rows and runs as windows
  pub built-most : (length (built s w d g).rows ≤ window_count (length s) w) × (length (built s w d g).runs ≤ window_count (length s) w)
  unfolding built
  built-most = (rows-at-most (built s w d g) built-well-formed, built-runs sum d count one g)
