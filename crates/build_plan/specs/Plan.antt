-- The plan of a build: what refuses it, or by how much it raises sums. Where nothing refuses it, its numbers are in their limits and its buffers have room.
use Rattle.std.specs.Prelude.{ℕ, ◌+◌, ◌*◌, ◌≤◌, min, ℤ, List, ◌≡◌, Ok, Err}
use Rattle.std.specs.declared.result.Result.{Result}
use Rattle.meaning_entries.specs.{declared.Refusal.Refusal, Refusal.Condition, Build.lent_build, Build.build_lines}
use Rattle.refusals.specs.Refusal.{verdict}
use Rattle.build_plan.specs.declared.BuildPlan.{BuildPlan}

-- window length and row width, and sums of windows raised by a multiple of the width
pub record Lifts (w d : ℕ) (p : BuildPlan) : Type 0 where
  pub window : p.window ≡ w
  pub width : p.width ≡ d
  pub rows : ℕ
  pub multiple : p.bias ≡ rows * d
  pub is : p.bias ≡ 10000 * w + p.extra
  pub small : p.extra ≤ 1000000

-- the refusals, where there is room for so many rows, and for runs in columns of so many entries
abbrev pub planned_lines : List ℤ → ℕ → ℕ → ℕ → ℕ → ℕ → ℕ → List Condition
planned_lines s w d g rows left right = build_lines (lent_build s w d g) rows (min left right)

abbrev pub Planned : List ℤ → ℕ → ℕ → ℕ → ℕ → ℕ → ℕ → Result BuildPlan Refusal → Type 0
Planned s w d g rows left right (Ok p) = (verdict (planned_lines s w d g rows left right) ≡ Ok tt) × Lifts w d p
Planned s w d g rows left right (Err r) = verdict (planned_lines s w d g rows left right) ≡ Err r
