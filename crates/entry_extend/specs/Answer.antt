-- What an extension answers, and that it keeps its promise.
use Rattle.std.specs.Prelude.{ℕ, ◌+◌, ◌*◌, ◌≤◌, ◌≡◌}
use Rattle.meaning_rows.specs.{declared.Row.Row, declared.Head.Head}
use Rattle.meaning_entries.specs.{declared.Held.Held, Answers.held}
use Rattle.entry_extend.specs.declared.Lift.{Lift}

-- the answer with the old head and so many windows, n rows, and as many runs as the parts up to that of the last row r have
abbrev pub index_as : ℕ → Head → ℕ → Row → Held
index_as windows h n r = held (record { window = h.window; width = h.width; windows = windows }) n (r.first + r.runs)

-- the numbers of a head, and sums of windows raised by a multiple of the row width
pub record Lifts (w d old : ℕ) (l : Lift) : Type 0 where
  pub window : l.window ≡ w
  pub old-is : l.old ≡ old
  pub width : l.width ≡ d
  pub multiple : l.bias ≡ l.base * d
  pub is : l.bias ≡ 10000 * w + l.extra
  pub small : l.extra ≤ 1000000
