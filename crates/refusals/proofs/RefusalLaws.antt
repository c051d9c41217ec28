-- Laws of specs/Refusal: a table line by line, and part by part.
use Rattle.std.specs.Prelude.{Ok, Err, cond}
use Rattle.std.specs.declared.result.Result.{Result}
use Rattle.meaning_numbers.proofs.Prelude.{◌≡◌, refl, ap, ◌∙◌, Bool, true, false, List, [], ◌∷◌, ◌++◌, None, Some, ℕ}
use Rattle.meaning_entries.specs.{declared.Refusal.Refusal, Answers.refusal, Refusal.Condition, Refusal.first_refusal, Refusal.at_zero}
use Rattle.meaning_entries.proofs.Refused.{is-first, first-is, first-left, first-right}
use Rattle.refusals.specs.Refusal.{verdict_of, verdict, passes, refuses}

-- no line
pub none_is : Ok tt ≡ verdict []
unfolding verdict_of first_refusal
none_is = refl

-- a line that applies, and one that does not
pub place_is : (c : Condition) (l : List Condition) {p : ℕ} → c.place ≡ Some p → verdict (c ∷ l) ≡ Err (refusal (c.number, p))
unfolding verdict_of first_refusal
place_is c l e = rw (e, first_refusal)

pub place_none : (c : Condition) (l : List Condition) → c.place ≡ None → verdict (c ∷ l) ≡ verdict l
unfolding first_refusal
place_none c l e = rw (e, first_refusal)

-- a test
pub test-is : (n : ℕ) (t : Bool) → t ≡ true → Err (refusal (n, 0)) ≡ verdict (at_zero n t ∷ [])
unfolding verdict_of first_refusal
test-is n t e = rw e refl

pub test-none : (n : ℕ) (t : Bool) → t ≡ false → Ok tt ≡ verdict (at_zero n t ∷ [])
unfolding verdict_of first_refusal
test-none n t e = rw e refl

-- the line of a test, by a verdict on what the code tested
pub line : (n : ℕ) {r : Result (Unit {0}) Refusal} {b t : Bool} → b ≡ t → r ≡ verdict (at_zero n b ∷ []) → r ≡ verdict (at_zero n t ∷ [])
line n e f = f ∙ ap (λ b. verdict (at_zero n b ∷ [])) e

-- a test before what a table says
pub line_before : (n : ℕ) {r r' : Result (Unit {0}) Refusal} {b : Bool} (t : Bool) (l : List Condition) → r ≡ verdict l → b ≡ t → r' ≡ cond b (Err (refusal (n, 0))) r → r' ≡ verdict (at_zero n t ∷ l)
unfolding verdict_of first_refusal
line_before n {r} true l e f g = g ∙ ap (λ b. cond b (Err (refusal (n, 0))) r) f
line_before n {r} false l e f g = g ∙ ap (λ b. cond b (Err (refusal (n, 0))) r) f ∙ e

-- ---- a table in two parts, of a verdict that is still by all of it

-- the first part passes: what is left decides
pub goes-on : {v r : Result (Unit {0}) Refusal} (a l : List Condition) → v ≡ verdict (a ++ l) → r ≡ verdict a → r ≡ Ok tt → v ≡ verdict l
goes-on a l e f z = e ∙ ap verdict_of (first-right l (passes a f z))

-- it refuses
pub stops : {v r : Result (Unit {0}) Refusal} {p : Refusal} (a l : List Condition) → v ≡ verdict (a ++ l) → r ≡ verdict a → r ≡ Err p → v ≡ Err p
unfolding verdict_of
stops a l e f z = e ∙ ap verdict_of (first-is (first-left l (is-first a _ _ (refuses a f z))))
