-- `compare`: the straight distance is the distance at band 0, and the warped one at any band.
use Rattle.meaning_numbers.proofs.Prelude.{◌∙◌, ap, sym, arith, length}
use Rattle.meaning_curves.specs.Curve.{at, stretch}
use Rattle.meaning_curves.proofs.Straight.{distance_is}
use Rattle.distance_within.specs.Answer.{nearness}
use Rattle.distance_within.proofs as own
use own.Answer.{within-answer, straight-distance}
use Rattle.distance_within.proofs.compare.Goals as goal

pub returns-then-b-eq0 : goal.returns-then-b-eq0
returns-then-b-eq0 c =
    let a = c.args in
    c.near_enough.ensures ∙ within-answer c.straight-d.ensures
    ∙ ap (λ d. nearness d a.threshold) (straight-distance (stretch a.s.now a.from) (at a.curve.now) (length a.curve.now) (omega arith))

pub returns : goal.returns
returns c =
    let a = c.args in
    c.near_enough-2.ensures ∙ within-answer c.warped_in-d.ensures
    ∙ ap (λ d. nearness d a.threshold) (sym (distance_is (stretch a.s.now a.from) (at a.curve.now) _ (length a.curve.now) c.requires.curve_fits.0))
