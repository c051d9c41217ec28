-- `collect`: the runs written, cleared behind (`handed`).
use Rattle.meaning_numbers.proofs.Prelude.{rules}
use Rattle.meaning_entries.specs.Buffers.{filled}
use Rattle.clear.specs.Clear.{cleared_to}
use Rattle.candidate_counts.proofs as own
use own.Handed.{handed}
use Rattle.candidate_counts.proofs.collect.Goals as goal

pub returns : goal.returns
unfolding filled cleared_to
returns c =
    (handed c.write_runs-found.ensures c.requires.1 c.requires.2 c.clear.ensures c.clear-2.ensures, search rules)
