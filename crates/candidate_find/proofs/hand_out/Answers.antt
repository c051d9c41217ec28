-- `hand_out`: the counts are raised, and the candidates collected.
use mathlib.Core.Path.{◌∙◌}
use native.Mathlib.Omega.{arith}
use Rattle.meaning_entries.specs.Buffers.{filled}
use Rattle.clear.specs.Clear.{cleared_to}
use Rattle.candidate_met.proofs.Meaning.{cleared-same}
use Rattle.candidate_find.proofs.hand_out.Goals as goal

pub raise_stretches-requires : goal.raise_stretches-requires
unfolding filled cleared_to
raise_stretches-requires c = rw c.clear.ensures c.requires.stretches

pub returns : goal.returns
returns c = record {
  counts = c.raise_stretches.new.scratch;
  counted = c.raise_stretches.ensures;
  handed = c.collect-found.ensures.0;
  cleared = c.collect-found.ensures.1 ∙ cleared-same c.raise_stretches.new.scratch c.args.scratch.now (omega (arith, c.raise_stretches.auto.scratch, c.clear.auto.buffer));
}
