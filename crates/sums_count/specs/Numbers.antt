-- The table of a series, lowered, is the list of its row numbers, and a row's runs are those of the windows that have its number.
use Rattle.std.specs.Prelude.{ℕ, ℤ, pos, ◌-ℤ◌}

-- a raised row number lowered
unfoldable pub lowered : ℕ → ℕ → ℤ
lowered b k = pos k -ℤ pos b
