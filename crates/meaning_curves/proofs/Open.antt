-- Every definition of this crate that stays shut until it is named, and those below, under one name: a proof that computes a case says `unfolding open_curves`.
use Rattle.meaning_numbers.proofs.Open.{open_numbers}
use Rattle.meaning_curves.specs.Table.{when, plus, least, step, first_row, next_row, table, value_of, warped}
use Rattle.meaning_curves.specs.{Limits.first_outside, Curve.window_sum, Curve.spread, Straight.straight, Normal.cut, Normal.normalised, Match.distance, Match.raw_match, Match.normal_match}

unfoldable pub open_curves : Unit {0}
unfolding open_numbers first_outside window_sum spread straight when plus least step first_row next_row table value_of warped cut normalised distance raw_match normal_match
open_curves = tt
