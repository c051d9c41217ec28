-- `raise_stretches`. The invariant is `CountedBy` over the parts passed (`tail-raised`, `by_next`).
use Rattle.meaning_numbers.proofs.Prelude.{◌≡◌, length}
use Rattle.candidate_spans.specs.Raised.{CountedBy, stretch_hit}
use Rattle.candidate_spans.proofs.raise_stretches.Given as goal

abbrev pub invariant-loop-i : goal.invariant-loop-i
invariant-loop-i l = CountedBy (stretch_hit l.left l.right l.first l.last l.windows l.w) l.offsets l.i l.scratch × (length l.scratch ≡ length l.initial.scratch)
