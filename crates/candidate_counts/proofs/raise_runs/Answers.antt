use Rattle.meaning_numbers.proofs.Prelude.{◌+◌, get_or}
use Rattle.rows_judge.proofs.Scan.{part as part_of, part-next, part_none}
use Rattle.candidate_counts.specs.Raise.{between, Raised}
use Rattle.candidate_counts.proofs.Raise.{going_next, going-ends}
use Rattle.candidate_counts.proofs.raise_runs.Goals as goal

pub loop-i-preserved : goal.loop-i-preserved
loop-i-preserved c =
    let a = c.args in
    let i = c.loop-i.i in
    let h : Raised a.part (between c.clip-first.result c.clip-end.result) c.loop-i.scratch c.raise_run.new.scratch = c.raise_run.ensures in
    going_next a.part a.offsets a.shift (get_or a.left.now i 0) (get_or a.right.now i 0) (part_of a.left.now a.right.now a.from a.to) (part_of a.left.now a.right.now (i + 1) a.to)
    a.scratch.now c.loop-i.scratch c.raise_run.new.scratch
    (rw (part-next a.left.now a.right.now i a.to c.loop-i-test.true c.requires.0 c.requires.1) at c.loop-i.invariant) (rw (c.clip-first.ensures, c.clip-end.ensures) at h)

pub returns : goal.returns
returns c =
    going-ends _ _ _ _ _ _
    (rw (part_none _ _ _ c.args.to c.loop-i-test.false) at c.loop-i.invariant)
