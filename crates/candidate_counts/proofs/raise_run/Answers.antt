use Rattle.meaning_numbers.proofs.Prelude.{◌<◌, arith, length}
use Rattle.candidate_counts.proofs.Raise.{raise-starts, raise-more, raise-ends}
use Rattle.candidate_counts.proofs.raise_run.Goals as goal

pub loop-j-init : goal.loop-j-init
loop-j-init c = (omega arith, raise-starts c.args.part c.args.from _)

pub loop-j-preserved : goal.loop-j-preserved
loop-j-preserved c =
    let inside : c.loop-j.j < length c.loop-j.scratch = omega arith in
    (omega arith, raise-more _ _ _ c.bumped.result _ c.loop-j.scratch (omega arith) inside c.loop-j.invariant.1 c.bumped.ensures)

pub returns : goal.returns
returns c = raise-ends _ _ _ _ _ _ (omega arith) c.loop-j.invariant.0 c.loop-j.invariant.1
