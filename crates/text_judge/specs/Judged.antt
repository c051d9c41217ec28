-- What judging an index text said, by the head and the rows that it came to.
use Rattle.std.specs.Prelude.{cond, [], Ok, Err}
use Rattle.meaning_rows.specs.{declared.Head.Head, Index.lent, Judge.head_good}
use Rattle.rows_judge.specs.Judged.{Judged}
use Rattle.text_judge.specs.declared.Rows.{Rows}

-- the first bad row, 0 for the head; else the run lengths added up
unfoldable pub judged_rows : Head → Rows → Judged
judged_rows h c = cond (head_good (lent h [] [] [])) (cond c.good (Ok c.taken) (Err c.rows)) (Err 0)
