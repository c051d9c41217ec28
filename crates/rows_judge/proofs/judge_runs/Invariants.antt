-- `judge_runs`. The loop's invariant: judging the runs that are left, from where the last run ended, gives what is to be returned, unless the last run ends outside the windows; and the lengths so far total at most what is passed, so that no sum wraps.
use Rattle.meaning_numbers.proofs.Prelude.{◌≡◌, ◌≤◌, pos}
use Rattle.rows_judge.specs.Judging.{scan}
use Rattle.rows_judge.proofs.Scan.{part, inside}
use Rattle.rows_judge.proofs.judge_runs.Given as goal

abbrev pub invariant-loop-i : goal.invariant-loop-i
invariant-loop-i l = (l.total ≤ l.least) × (l.least ≤ 4294967297) × (inside l.windows l.least (scan (pos l.windows) (pos l.least) l.total (part l.left l.right l.i l.to)) ≡ scan (pos l.windows) (pos 0) 0 (part l.left l.right l.from l.to))
