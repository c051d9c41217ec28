-- `pick_outside`, case by case.
use Rattle.meaning_numbers.specs.Order.{within}
use Rattle.meaning_numbers.proofs.Prelude.{sym, ap}
use Rattle.meaning_entries.specs.Refusal.{pick_outside}
use Rattle.refusals.proofs.pick_outside.Goals as goal

pub returns-in-All : goal.returns-in-All
unfolding pick_outside
returns-in-All c = sym (ap pick_outside c.in-All.is)

pub returns-in-Closest : goal.returns-in-Closest
unfolding pick_outside within
returns-in-Closest c = sym (ap pick_outside c.in-Closest.is)
