-- `all_in` meets its contract.
use Rattle.std.specs.Prelude.{is_some}
use Rattle.meaning_numbers.proofs.Prelude.{◌≡◌, refl, sym, ap, ◌∙◌, clash, not, Bool, true, false, Option, None, Some, none-some, List, ℕ, ℤ}
use Rattle.meaning_curves.specs.Limits.{first_outside}
use Rattle.meaning_curves.proofs.Values.{AllIn, none-outside, outside-none}
use Rattle.distance_match.specs.Alike.{Says}
use Rattle.distance_match.proofs.AlikeLaws.{says-yes, says-no}
use Rattle.try_c_distance.proofs.all_in.Goals as goal

told : (s : List ℤ) (o : Option ℕ) (b : Bool) → first_outside s ≡ o → is_some o ≡ not b → Says b (AllIn s)
told s None true e n = says-yes (none-outside s e)
told s None false e n = clash n refl
told s (Some p) true e n = clash refl n
told s (Some p) false e n = says-no (λ h. none-some p (sym (outside-none h) ∙ e))

pub returns : goal.returns
returns c = told c.args.s.now _ _ (sym c.first_outside.ensures) c.is_none.ensures
