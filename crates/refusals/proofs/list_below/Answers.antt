-- `list_below`, case by case.
use Rattle.meaning_numbers.proofs.Prelude.{sym, ap, ◌∙◌, arith, ltb, le-ltb}
use Rattle.meaning_filter.specs.{declared.Pick.Pick, Closest.fewest}
use Rattle.refusals.proofs.list_below.Goals as goal

pub returns-in-All : goal.returns-in-All
unfolding fewest
returns-in-All c = let room = c.args.room in sym (ap (λ (p : Pick). ltb room (fewest p)) c.in-All.is ∙ le-ltb room 0 (omega arith))

pub returns-in-Closest : goal.returns-in-Closest
unfolding fewest
returns-in-Closest c = sym (ap (λ (p : Pick). ltb c.args.room (fewest p)) c.in-Closest.is)
