-- `list_new`: the new windows are those of the rest of the series, which is lent as a part.
use Rattle.meaning_numbers.proofs.Prelude.{lt-ltb, le-ltb}
use Rattle.sums_slide.specs.Levels.{windows_of}
use Rattle.sums_slide.proofs.Picked.{append-none}
use Rattle.extend_new.specs.New.{new_table}
use Rattle.extend_new.proofs as own
use own.New.{rest-lent, rest-whole}
use Rattle.extend_new.proofs.list_new.Goals as goal

pub list_rows-requires : goal.list_rows-requires
unfolding new_table
list_rows-requires c =
    let a = c.args in
    let room = rw (lt-ltb a.old (windows_of a.s.now a.w) c.if-old-s.true) at c.requires.d_in_bounds in
    rw (rest-whole a.s.now a.old) (record { lent = rest-lent a.old c.if-old-s.true c.requires.lent; le_d = c.requires.le_d; in_bounds = c.requires.in_bounds; d_in_bounds = room })

pub returns-then-old-s : goal.returns-then-old-s
unfolding new_table
returns-then-old-s c =
    let a = c.args in
    rw (lt-ltb a.old (windows_of a.s.now a.w) c.if-old-s.true) (rw (rest-whole a.s.now a.old) at c.list_rows.ensures)

pub returns-else-old-s : goal.returns-else-old-s
unfolding new_table
returns-else-old-s c =
    let a = c.args in
    rw (le-ltb a.old (windows_of a.s.now a.w) c.if-old-s.false) (append-none 0 a.out.now)
