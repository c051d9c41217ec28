-- Laws of specs/Plan.
use Rattle.meaning_numbers.proofs.Prelude.{List, ℕ, ◌≤◌, ℤ, pos, length, zarith}
use Rattle.meaning_curves.specs.{Limits.most_values, Curve.window_count}
use Rattle.meaning_curves.proofs.Values.{AllIn}
use Rattle.meaning_entries.specs.Build.{lent_build, build_lines}
use Rattle.meaning_entries.proofs.Refused.{AllPass, open_lines, passed-line, passed-behind}
use Rattle.meaning_entries.proofs.Lines.{long-line, values-line, window-line, width-line, merge-line, room-line}

-- numbers in their limits, and room
pub record Goes (s : List ℤ) (w d g rows runs : ℕ) : Type 0 where
  pub values : AllIn s
  pub long : length s ≤ 1048576
  pub some : 1 ≤ w
  pub most : w ≤ 256
  pub fits : w ≤ length s
  pub least-width : 1 ≤ d
  pub most-width : d ≤ 1000000
  pub most-merge : g ≤ 100
  pub in_rows : window_count (length s) w ≤ rows
  pub in-runs : window_count (length s) w ≤ runs

module _ (s : List ℤ) (w d g rows runs : ℕ) where
  pub goes : AllPass (build_lines (lent_build s w d g) rows runs) → Goes s w d g rows runs
  unfolding open_lines
  goes t =
      let window = window-line (pos w) (length s) (passed-line t 3) in
      let width = width-line (pos d) (passed-line t 4) in
      record {
        values = values-line s (passed-line t 2);
        long = (long-line most_values (length s) (passed-line t 1)).most;
        some = window.0.least;
        most = window.0.most;
        fits = omega (zarith, window.1);
        least-width = width.least;
        most-width = width.most;
        most-merge = (merge-line (pos g) (passed-line t 5)).most;
        in_rows = room-line _ _ (passed-line t 23);
        in-runs = room-line _ _ (passed-line (passed-behind t 23) 23);
      }
