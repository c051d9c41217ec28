-- `count_new`. The invariant: the runs of the windows passed are counted, and the next window begins a run (`counted-turn`, `fresh-next`).
use Rattle.meaning_numbers.proofs.Prelude.{◌≡◌, ◌-◌, ◌≤◌, ◌<◌}
use Rattle.sums_slide.specs.{Levels.level}
use Rattle.sums_count.proofs.Tally.{Fresh}
use Rattle.extend_count.specs.{Count.row_from, Count.Counted}
use Rattle.extend_count.proofs.count_new.Given as goal

abbrev pub invariant-loop-at : goal.invariant-loop-at
invariant-loop-at l = (l.old ≤ l.at.offset) × (l.at.offset ≤ l.windows) × (l.at.offset < l.windows → l.at.level ≡ level l.s l.w l.e l.at.offset) × Fresh (row_from l.s l.w l.e l.old l.ups l.count) l.windows l.at.offset × Counted l.s l.w l.e l.old l.ups l.count l.initial.counts l.at.offset l.counts

abbrev pub decreases-loop-at : goal.decreases-loop-at
decreases-loop-at l = l.windows - l.at.offset
