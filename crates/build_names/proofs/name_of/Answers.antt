-- `name_of`: there is a window where as many values follow.
use Rattle.meaning_numbers.proofs.Prelude.{lt-ltb, le-ltb, arith}
use Rattle.meaning_curves.specs.Curve.{window_count}
use Rattle.build_names.specs.Places.{name_for}
use Rattle.build_names.proofs.name_of.Goals as goal

pub returns-then-j-w : goal.returns-then-j-w
unfolding name_for
returns-then-j-w c = let a = c.args in rw (lt-ltb a.at.offset (window_count a.len a.w) (omega (arith, c.if-j-w.true)))

pub returns-else-j-w : goal.returns-else-j-w
unfolding name_for
returns-else-j-w c = let a = c.args in rw (le-ltb a.at.offset (window_count a.len a.w) (omega (arith, c.if-j-w.false)))
