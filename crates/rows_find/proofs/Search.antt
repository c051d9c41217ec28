-- A binary search over plain variables: the invariant, its start, a turn and its end.
use Rattle.meaning_numbers.proofs.Prelude.{le_z, zmach, true, false, ◌≡◌, ℕ, ◌+◌, ◌<◌, ◌≤◌, arith, dec_lt, List, get_or, ℤ, ◌≤ℤ◌, ◌<ℤ◌, zarith}
use Rattle.meaning_rows.specs.declared.Row.{Row}
use Rattle.rows_records.specs.Records.{zero_row}
use Rattle.rows_find.specs.Search.{Climbs, Found, Reached}

-- the first row whose upper end is above the sum stands from lo to hi
pub record Between (rows : List Row) (n : ℕ) (sum : ℤ) (lo hi : ℕ) : Type 0 where
  pub order : lo ≤ hi
  pub within : hi ≤ n
  pub before : (k : ℕ) → k < lo → (get_or rows k zero_row).up ≤ℤ sum
  pub after : (k : ℕ) → hi ≤ k → k < n → sum <ℤ (get_or rows k zero_row).up

pub between-starts : (rows : List Row) (n : ℕ) (sum : ℤ) → Between rows n sum 0 n
between-starts rows n sum = record { order = omega arith; within = omega arith; before = λ k l. absurd (omega arith); after = λ k l m. absurd (omega arith) }

module _ {rows : List Row} {n : ℕ} {sum : ℤ} {lo hi : ℕ} (asc : Climbs rows n) (b : Between rows n sum lo hi) (mid : ℕ) (above : lo ≤ mid) (below : mid < hi) {r : Row} (is : r ≡ get_or rows mid zero_row) where
  in_rows : mid < n
  in_rows = omega (arith, below, b.within)

  pub up : le_z r.up sum ≡ true → Between rows n sum (mid + 1) hi
  up t = record {
    order = omega (arith, below);
    within = b.within;
    before = λ k m. let a : (get_or rows k zero_row).up ≤ℤ r.up = rw is (asc.up k mid (omega arith) in_rows) in omega zmach;
    after = b.after;
  }

  pub down : le_z r.up sum ≡ false → Between rows n sum lo mid
  down t = record {
    order = above;
    within = omega (arith, in_rows);
    before = b.before;
    after = λ k m o. let a : r.up ≤ℤ (get_or rows k zero_row).up = rw is (asc.up mid k m o) in omega zmach;
  }

pub between_ends : (rows : List Row) (n : ℕ) (sum : ℤ) (lo hi : ℕ) → Between rows n sum lo hi → hi ≤ lo → Found rows n sum lo
between_ends rows n sum lo hi b h = record { within = omega (arith, b.order, b.within); before = b.before; at = λ l. b.after lo h l }

-- where one row reaches above the sum, the search finds one
pub found_below : (rows : List Row) (n : ℕ) (z : ℤ) (k : ℕ) → Reached rows n z → Found rows n z k → k < n
found_below rows n z k h f = elim (dec_lt k n) [
  | yes l ↦ l
  | no x ↦ let a : (get_or rows h.at zero_row).up ≤ℤ z = f.before h.at (omega (arith, h.below)) in let b : z <ℤ (get_or rows h.at zero_row).up = h.above in absurd (omega zarith)
]
