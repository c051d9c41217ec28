-- `name_neighbours`. The invariant: the runs of the windows passed have the names of their neighbours (`Underway`).
use Rattle.meaning_numbers.proofs.Prelude.{◌-◌}
use Rattle.sums_slide.specs.Levels.{windows_of}
use Rattle.build_names.specs.Places.{entry_of}
use Rattle.build_names.proofs.Places.{Underway}
use Rattle.build_names.proofs.name_neighbours.Given as goal

abbrev pub invariant-loop-name : goal.invariant-loop-name
invariant-loop-name l = Underway l.s l.w l.e l.rows l.count l.initial.left l.initial.right l.at (entry_of l.before) (entry_of l.name) l.left l.right

abbrev pub decreases-loop-name : goal.decreases-loop-name
decreases-loop-name l = windows_of l.s l.w - l.at.offset
