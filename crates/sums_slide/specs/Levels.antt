-- Raised sums: each value of a window raised by 10,000, and e more for the window. They are the windows' sums, and move by one window.
use Rattle.std.specs.Prelude.{ℕ, ◌+◌, ◌*◌, ◌/◌, ◌<◌, ◌≤◌, leb, ltb, ℤ, pos, ◌-ℤ◌, length, Bool, ◌&&◌, List}
use Rattle.std.proofs.Common.{arith}
use Rattle.meaning_numbers.specs.Sum.{Σℕ}
use Rattle.meaning_numbers.proofs.Sum.{Σℕ-le}
use Rattle.meaning_curves.specs.Curve.{at, stretch, window_count}
use Rattle.meaning_curves.proofs.Values.{AllIn}
use Rattle.numbers.specs.Raised.{raised, raised-le}
use Rattle.sums_slide.specs.declared.Window.{Window}

-- the raised sum of window j
unfoldable pub level : List ℤ → ℕ → ℕ → ℕ → ℕ
level s w e j = Σℕ w (λ k. raised (stretch s j k)) + e

-- the raised row number of window j, of rows of width d
unfoldable pub row_of : (ℕ → ℕ) → ℕ → ℕ → ℕ
row_of lv d j = lv j / d

-- the number is in the range
unfoldable pub within : ℕ → ℕ → ℕ → Bool
within lo hi n = leb lo n && ltb n hi

-- a series, a window length and what is added, in their limits
pub record Lent (s : List ℤ) (w e : ℕ) : Type 0 where
  pub all : AllIn s
  pub some : 1 ≤ w
  pub most : w ≤ 256
  pub fits : w ≤ length s
  pub long : length s ≤ 1048576
  pub small : e ≤ 1000000

abbrev pub windows_of : List ℤ → ℕ → ℕ
windows_of s w = window_count (length s) w

-- window j, with its raised sum
abbrev pub place_from : List ℤ → ℕ → ℕ → ℕ → Window
place_from s w e j = record { offset = j; level = level s w e j }

-- the sum of a window that is placed
abbrev pub sum_at : ℕ → ℕ → Window → ℤ
sum_at w e at = pos at.level -ℤ pos (10000 * w + e)

-- every number below n has its value between the two
pub record Bounds (lv : ℕ → ℕ) (n least greatest : ℕ) : Type 0 where
  pub bound : (j : ℕ) → j < n → (least ≤ lv j) × (lv j ≤ greatest)

pub level-le : {s : List ℤ} {w e : ℕ} (j : ℕ) → Lent s w e → level s w e j ≤ 20000 * w + e
unfolding level
level-le {s} {w} {e} j h = omega (arith, Σℕ-le w 20000 (λ k. raised (stretch s j k)) (λ k l. raised-le (h.all.at (j + k))))

pub level-small : {s : List ℤ} {w e : ℕ} (j : ℕ) → Lent s w e → level s w e j ≤ 6120000
level-small j h = omega (arith, level-le j h, h.most, h.small)
