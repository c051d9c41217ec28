-- `tell_run`: the left end, then the right, as they are.
use Rattle.meaning_numbers.proofs.Prelude.{refl, ◌∙◌, arith, SFits, w32, to_z-of_z, rules}
use Rattle.text_judge.specs.Tally.{tell_tally}
use Rattle.text_judge.proofs.Bad.{held-pos}
use Rattle.text_judge.proofs.tell_run.Goals as goal

pub returns : goal.returns
unfolding tell_tally
returns c =
    let fits_low : SFits w32 c.args.t.row.low = search rules in
    let fits_up : SFits w32 c.args.t.row.up = search rules in
    c.with_row.ensures ∙ rw (to_z-of_z w32 _ fits_up, to_z-of_z w32 _ fits_low, c.more_run-runs.ensures, held-pos c.args.l (omega arith), held-pos c.args.r (omega arith)) refl
