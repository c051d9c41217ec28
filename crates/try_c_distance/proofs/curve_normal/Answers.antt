use Rattle.meaning_numbers.proofs.Prelude.{rules, not-true, not-false, ◌≡◌, refl, ◌∙◌, ◌+◌, ◌-◌, ◌≤◌, arith, length}
use Rattle.values.specs.Sums.{AreSums}
use Rattle.try_c_distance.specs.{Fits.Fits, Outcome.Written, Told.LastNormal, Told.SpreadAt}
use Rattle.try_c_distance.proofs as own
use own.Laws.{written_none, written-more, written_all, outcome-yes, outcome-no, normal-none, normal-next, normal-all}
use Rattle.try_c_distance.proofs.curve_normal.Goals as goal

pub loop-at-preserved : goal.loop-at-preserved
loop-at-preserved c =
    let i = c.loop-at.invariant in
    let v = c.normal_values in (
      i.0,
      omega arith,
      λ l. c.sums_after-t.ensures (omega arith),
      normal-next i.3 (rw i.1 at v.ensures),
      written-more _ i.4 (omega arith) c.spread_of-a.ensures,
    )
