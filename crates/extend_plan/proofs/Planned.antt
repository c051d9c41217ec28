-- The plan of an extension is its refusal (`plan-is`); where it refuses nothing, the index is well formed and the series long enough, and the buffers have room (`sound`).
use Prim.Native.Nat.{ℕ, ◌≤◌}
use lib.IntN.{ℤ}
use lib.ListN.{length}
use mathlib.Core.List.{List}
use Rattle.std.specs.Prelude.{None, Some, Ok, Err}
use Rattle.std.specs.declared.result.Result.{Result}
use mathlib.Core.Path.{◌≡◌, refl}
use Rattle.meaning_rows.specs.{declared.Row.Row, declared.Head.Head, Index.Index, Index.lent}
use Rattle.meaning_rows.proofs.{Judge.WellFormed, Extend.Extendable}
use Rattle.meaning_entries.specs.{declared.Refusal.Refusal, Refusal.more_windows, Buffers.IndexBuffers, Buffers.run_room, Extend.ExtendCall, Extend.lent_extend, Extend.extend_windows, Extend.extend_table, Extend.extend_refusal}
use Rattle.meaning_entries.proofs.Refused.{AllPass, passed_is, open_lines, passed-line, passed-behind}
use Rattle.meaning_entries.proofs.{Lines.room-line, Made.extend-formed, Made.extendable}
use Rattle.rows_judge.specs.Judged.{judged_of, bad-row}
use Rattle.refusals.specs.{Refusal.verdict, Refusal.judged-line, Refusal.passes, Refusal.refuses}
use Rattle.extend_plan.specs.Plan.{plan_of}

module _ (series : List ℤ) (h : Head) (rows : List Row) (left right : List ℕ) (b : IndexBuffers) where
  abbrev X : Index
  X = lent h rows left right

  abbrev call : ExtendCall
  call = lent_extend series h rows left right

  abbrev pub the_plan : Result (Unit {0}) Refusal
  the_plan = plan_of series h (judged_of X) (length b.rows) (run_room b)

  plan-is : the_plan ≡ verdict (extend_table call b)
  unfolding plan_of extend_table more_windows
  plan-is = rw (judged-line X (judged_of X) (bad-row X)) refl

  pub stopped : {r : Refusal} → the_plan ≡ Err r → extend_refusal call b ≡ Some (r.number, r.place)
  stopped f = refuses (extend_table call b) plan-is f

  -- what is known where nothing refuses
  pub record Sound : Type 0 where
    pub formed : WellFormed X
    pub longer : Extendable X series
    pub row_room : extend_windows call ≤ length b.rows
    pub runs_fit : extend_windows call ≤ run_room b

  module _ (z : the_plan ≡ Ok tt) where
    t : AllPass (extend_table call b)
    t = passes (extend_table call b) plan-is z

    pub goes_on : extend_refusal call b ≡ None
    goes_on = passed_is t

    pub sound : Sound
    unfolding open_lines extend_table
    sound = record {
      formed = extend-formed call b goes_on;
      longer = extendable call b goes_on;
      row_room = room-line _ _ (passed-line t 23);
      runs_fit = room-line _ _ (passed-line (passed-behind t 23) 23);
    }
