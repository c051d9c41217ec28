-- What was built by the numbers of a plan is what w, d and g say.
use Rattle.meaning_numbers.proofs.Prelude.{◌≡◌, ◌∙◌, List, ℕ, ℤ, length}
use Rattle.meaning_rows.specs.Build.{built}
use Rattle.meaning_entries.specs.Buffers.{IndexBuffers, index_in}
use Rattle.build_passes.specs.Filled.{Holds}
use Rattle.build_plan.specs.declared.BuildPlan.{BuildPlan}
use Rattle.entry_build.specs.Answer.{PlannedFor}
use Rattle.entry_build.proofs.AnswerLaws.{plan-window, plan-width}

module _ (s : List ℤ) (w d g : ℕ) (b : IndexBuffers) (p : BuildPlan) (h : PlannedFor s w d g b p) where
  module _ {m : ℕ} (wide : m ≡ g) {n : ℕ} {new : IndexBuffers} (made : (n ≡ length (built s p.window p.width m).rows) × Holds p.width m s p.window b new) where
    pub many : n ≡ length (built s w d g).rows
    many = made.0 ∙ (λ i. length (built s (plan-window s w d g b p h i) (plan-width s w d g b p h i) (wide i)).rows)

    pub held : Holds d g s w b new
    held = made.1 ∙ (λ i. index_in (built s (plan-window s w d g b p h i) (plan-width s w d g b p h i) (wide i)) b)
