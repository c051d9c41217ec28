use Rattle.meaning_numbers.proofs.Prelude.{rules, ◌≡◌, ap, ◌∙◌, ◌+◌, ◌-◌, ◌≤◌, ◌<◌, arith, length}
use Rattle.meaning_curves.proofs.Values.{AllIn}
use Rattle.values.specs.Sums.{AreSums}
use Rattle.distance_query.specs.Ready.{Ready}
use Rattle.try_c_distance.specs.{Fits.Fits, Outcome.Written}
use Rattle.try_c_distance.proofs.Laws.{written-more, written_all}
use Rattle.try_c_match.specs.Told.{MatchAt, wrapped}
use Rattle.try_c_match.proofs as own
use own.Matches.{told-wrapped}
use Rattle.try_c_match.proofs.each_match.Goals as goal

pub loop-at-preserved : goal.loop-at-preserved
loop-at-preserved c =
    let i = c.loop-at.invariant in
    let f = c.match_at-found in
    let t = c.told in (
      i.0,
      (search rules, search rules),
      (search rules, search rules),
      written-more _ i.3 (omega arith) (t.ensures ∙ ap wrapped f.ensures ∙ told-wrapped _ _ i.0.inside i.0.some i.0.short _ i.6.curve-is),
      λ l. c.sums_after-t.ensures (omega arith),
      i.5,
      i.6,
    )
