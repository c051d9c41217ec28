-- The table of the row numbers that windows have, ascending, over raised row numbers. A pass makes it from the least number to the greatest.
use Rattle.std.specs.Prelude.{ℕ, ℤ, List}
use Rattle.sums_slide.specs.{Levels.level, Levels.row_of, Levels.windows_of, Picked.picked, Marks.met}

-- above every raised row number
unfoldable pub top : ℕ
top = 6120001

-- the raised row numbers of the windows, ascending, each once
unfoldable pub table : List ℤ → ℕ → ℕ → ℕ → List ℕ
table s w e d = picked (met (row_of (level s w e) d) (windows_of s w)) 0 top
