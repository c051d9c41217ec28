-- Checking the candidates that were found: what it asks for (`FinishReady`) and what is promised of it (`Finished`).
use Rattle.std.specs.Prelude.{ℕ, ◌≤◌, ℤ, List, ◌≡◌, Ok, Err}
use Rattle.std.specs.declared.result.Result.{Result}
use Rattle.std.specs.Result.{MatchResult}
use Rattle.meaning_filter.specs.{declared.Ask.Ask, Matches.offset_count, Closest.fewest}
use Rattle.meaning_entries.specs.{declared.Found.Found, declared.Refusal.Refusal, Buffers.pair_room}
use Rattle.check_list.specs.{Members.members, Found.RunsLent, Found.lent_runs, Found.found}
use Rattle.check_answer.specs.Answer.{wanted, Limited, Answers}
use Rattle.candidate_find.specs.declared.Sought.{Sought}

-- what checking them asks for
pub record FinishReady (ask : Ask) (s q : List ℤ) (t : Sought) (first last offsets distances : List ℕ) : Type 0 where
  pub limited : Limited ask.kind s q ask.limits
  pub lent : RunsLent (offset_count (wanted ask s q)) first last t.runs
  pub fits : fewest ask.pick ≤ pair_room offsets distances

-- what is handed out of the matches among them is listed, and that is answered; a refusal is answered and alters nothing
abbrev pub Finished : Ask → List ℤ → List ℤ → Result Sought Refusal → List ℕ → List ℕ → List ℕ → List ℕ → Result Found Refusal → List ℕ → List ℕ → Type 0
Finished ask s q t first last offsets distances answer offsets' distances' =
    MatchResult t
    (λ m. (f : Found) × (answer ≡ Ok f) × Answers ask.pick (found (wanted ask s q) (members (lent_runs first last m.runs))) m.candidates f offsets distances offsets' distances')
    (λ r. (answer ≡ Err r) × (offsets' ≡ offsets) × (distances' ≡ distances))
