-- `put_ends`. The invariant: the entries of the parts passed are held (`held_next`).
use Rattle.meaning_numbers.proofs.Prelude.{◌≡◌, length}
use Rattle.candidate_met.specs.{Parts.part_range}
use Rattle.candidate_spans.specs.Held.{PartsHeld, low_ends, high_ends}
use Rattle.candidate_spans.proofs.put_ends.Given as goal

abbrev pub invariant-loop-i : goal.invariant-loop-i
invariant-loop-i l = PartsHeld (low_ends (part_range l.f l.low l.high l.w)) (high_ends (part_range l.f l.low l.high l.w)) 0 l.i l.first l.last × (length l.first ≡ length l.initial.first) × (length l.last ≡ length l.initial.last)
