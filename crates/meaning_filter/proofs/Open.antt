-- Every definition of this crate that stays shut until it is named, and those below, under one name: a proof that computes a case says `unfolding open_filter`.
use Rattle.meaning_rows.proofs.Open.{open_rows}
use Rattle.meaning_filter.specs.Matches.{matches, distance_to, all_matches, candidate_at, candidate_runs, candidate_count, match_list}
use Rattle.meaning_filter.specs.Range.{lower_sum, upper_sum, raw_low, raw_high, normal_low, normal_high, range_of, ranges}
use Rattle.meaning_filter.specs.{Envelope.least_of, Envelope.greatest_of, Envelope.lower, Envelope.upper, Candidates.candidate, Ordered.place, Ordered.placed, Closest.handed, Closest.fewest}

unfoldable pub open_filter : Unit {0}
unfolding open_rows least_of greatest_of lower upper lower_sum upper_sum raw_low raw_high normal_low normal_high range_of ranges candidate matches distance_to all_matches candidate_at candidate_runs candidate_count match_list place placed handed fewest
open_filter = tt
