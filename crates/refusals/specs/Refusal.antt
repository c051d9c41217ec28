-- What refuses a call, as code has it, by a table of conditions (`verdict`), and what it says (`passes`, `refuses`).
use Rattle.std.specs.Prelude.{ℕ, List, ◌≡◌, refl, None, Some, Ok, Err}
use Rattle.std.specs.declared.{option.Option.Option, result.Result.Result}
use Rattle.std.proofs.Common.{sym, ap, ◌∙◌}
use Rattle.meaning_rows.specs.{Index.Index, Judge.first_bad_row}
use Rattle.meaning_entries.specs.{declared.Refusal.Refusal, Answers.refusal, Answers.refusal_in, Refusal.Condition, Refusal.first_refusal, Refusal.at_place, Refusal.ill_formed}
use Rattle.meaning_entries.proofs.Refused.{AllPass, is-passed}
use Rattle.rows_judge.specs.Judged.{Judged, bad_row}

-- nothing refuses, or a number and its place
unfoldable pub verdict_of : Option (ℕ × ℕ) → Result (Unit {0}) Refusal
verdict_of None = Ok tt
verdict_of (Some r) = Err (refusal r)

-- by the first line of a table that applies
abbrev pub verdict : List Condition → Result (Unit {0}) Refusal
verdict l = verdict_of (first_refusal l)

-- 20, by what judging said
abbrev pub judged_line : Judged → Condition
judged_line j = at_place 20 (bad_row j)

pub judged-line : (x : Index) (j : Judged) → bad_row j ≡ first_bad_row x → judged_line j ≡ ill_formed x
unfolding ill_formed
judged-line x j e = ap (at_place 20) e

-- a verdict says no more and no less than the first line that applies
pub told : (o : Option (ℕ × ℕ)) → refusal_in (verdict_of o) ≡ o
unfolding verdict_of
told None = refl
told (Some r) = refl

-- no line applies
pub passes : {r : Result (Unit {0}) Refusal} (l : List Condition) → r ≡ verdict l → r ≡ Ok tt → AllPass l
passes l e z = is-passed l (sym (told (first_refusal l)) ∙ ap refusal_in (sym e ∙ z))

-- a refusal is that of the first line that applies
pub refuses : {r : Result (Unit {0}) Refusal} {p : Refusal} (l : List Condition) → r ≡ verdict l → r ≡ Err p → first_refusal l ≡ Some (p.number, p.place)
refuses l e z = sym (told (first_refusal l)) ∙ ap refusal_in (sym e ∙ z)
