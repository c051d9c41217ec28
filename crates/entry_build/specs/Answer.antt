-- What a build answers, and that it keeps its promise.
use Rattle.std.specs.Prelude.{ℕ, ◌+◌, ℤ, length, List, Ok}
use Rattle.meaning_rows.specs.{declared.Row.Row}
use Rattle.meaning_entries.specs.{declared.Held.Held, Answers.held, Buffers.IndexBuffers}
use Rattle.build_plan.specs.{declared.BuildPlan.BuildPlan, Plan.Planned}

-- the answer with the head of w, d and so many windows, n rows, and as many runs as the parts up to that of the last row r have
abbrev pub index_as : ℕ → ℕ → ℕ → ℕ → Row → Held
index_as windows w d n r = held (record { window = w; width = d; windows = windows }) n (r.first + r.runs)

-- the plan of a call with these buffers, which nothing refuses
abbrev pub PlannedFor : List ℤ → ℕ → ℕ → ℕ → IndexBuffers → BuildPlan → Type 0
PlannedFor s w d g b p = Planned s w d g (length b.rows) (length b.left) (length b.right) (Ok p)
