-- The plan of an extension by what the code knows, what a refused one leaves, and what was made by the head's numbers as what the head says.
use Prim.Native.Nat.{ℕ, min}
use lib.IntN.{ℤ}
use lib.ListN.{length}
use mathlib.Core.List.{List}
use mathlib.Core.Path.{◌≡◌, sym, ◌∙◌, subst}
use Rattle.std.specs.Prelude.{Err}
use Rattle.std.specs.declared.result.Result.{Result}
use Rattle.meaning_rows.specs.{declared.Row.Row, declared.Head.Head, Index.Index, Index.lent, Extend.extended}
use Rattle.meaning_entries.specs.{declared.Refusal.Refusal, Answers.Built, Buffers.IndexBuffers, Extend.lent_extend, Demand2.ExtendKept}
use Rattle.rows_judge.specs.Judged.{Judged, judged_of}
use Rattle.extend_plan.specs.Plan.{plan_of}
use Rattle.extend_plan.proofs.Planned.{the_plan}
use Rattle.extend_passes.specs.{Whole.index_of, Finished.HoldsExtended}
use Rattle.entry_extend.specs.{declared.Lift.Lift, Answer.Lifts}
use Rattle.entry_extend.proofs.AnswerLaws.{refused-kept}

-- the plan, by what judging said and by the room for runs
pub plan-here : (s : List ℤ) (h : Head) (from : List Row) (lefts rights : List ℕ) (b : IndexBuffers) {j : Judged} {m : ℕ} {p : Result (Unit {0}) Refusal} → j ≡ judged_of (lent h from lefts rights) → m ≡ min (length b.left) (length b.right) → p ≡ plan_of s h j (length b.rows) m → p ≡ the_plan s h from lefts rights b
plan-here s h from lefts rights b judged least planned = planned ∙ (λ i. plan_of s h (judged i) (length b.rows) (least i))

-- a refused plan is the answer and alters nothing
pub stops : (s : List ℤ) (h : Head) (from : List Row) (lefts rights : List ℕ) (b : IndexBuffers) {j : Judged} {m : ℕ} {p : Result (Unit {0}) Refusal} → j ≡ judged_of (lent h from lefts rights) → m ≡ min (length b.left) (length b.right) → p ≡ plan_of s h j (length b.rows) m → {r : Refusal} → p ≡ Err r → {t : Built} → t ≡ Err r → ExtendKept (lent_extend s h from lefts rights) b t b
stops s h from lefts rights b judged least planned f e = rw e (refused-kept s h from lefts rights b (sym (plan-here s h from lefts rights b judged least planned) ∙ f))

-- what the passes made by lifted numbers, as of the lent index
pub made_so : (s : List ℤ) (h : Head) (from : List Row) (lefts rights : List ℕ) (old : IndexBuffers) {new : IndexBuffers} {n : ℕ} {u : Lift} → Lifts h.window h.width h.windows u
    → (n ≡ length (extended (index_of u.window u.width u.old from lefts rights) s).rows) × HoldsExtended (index_of u.window u.width u.old from lefts rights) s old new
    → (n ≡ length (extended (lent h from lefts rights) s).rows) × HoldsExtended (lent h from lefts rights) s old new
made_so s h from lefts rights old {new} {n} {u} l made = subst (λ (x : Index). (n ≡ length (extended x s).rows) × HoldsExtended x s old new) (λ i. index_of (l.window i) (l.width i) (l.old-is i) from lefts rights) made
