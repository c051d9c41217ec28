-- Every definition of this crate that stays shut until it is named, and those below, under one name: a proof that computes a case says `unfolding open_rows`.
use Rattle.meaning_curves.proofs.Open.{open_curves}
use Rattle.meaning_rows.specs.Build.{insert, row_numbers, row_at, filed, join, takes, upward, merged, with_runs, built_rows, built}
use Rattle.meaning_rows.specs.Extend.{grown, new_numbers, added, insert_row, insert_rows, extended_rows, extended}
use Rattle.meaning_rows.specs.Judge.{head_good, runs_good, run_lengths, length_total, range_good, part_good, row_good, bad_row_from, first_bad_row}
use Rattle.meaning_rows.specs.{Range.inside, Runs.before, Runs.reach, Runs.take_in, Runs.runs, Index.entries, Index.records, Index.all_runs, Audit.offsets, Audit.wrong_in, Audit.wrong_from, Audit.first_wrong, Audit.missing}

unfoldable pub open_rows : Unit {0}
unfolding open_curves inside before reach take_in runs entries records all_runs head_good runs_good run_lengths length_total range_good part_good row_good bad_row_from first_bad_row offsets wrong_in wrong_from first_wrong missing insert row_numbers row_at filed join takes upward merged with_runs built_rows built grown new_numbers added insert_row insert_rows extended_rows extended
open_rows = tt
