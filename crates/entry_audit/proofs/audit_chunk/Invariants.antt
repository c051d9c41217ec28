-- `audit_chunk`. The invariant of each loop: what is filed wrongly first among what is left to audit is what is filed wrongly first in the chunk; of the innermost loop, besides, that the part is the sum of the offset's window but for its last value.
use Rattle.meaning_numbers.proofs.Prelude.{◌≡◌, ◌+◌, drop, get_or}
use Rattle.meaning_curves.specs.Curve.{window_sum}
use Rattle.entry_audit.specs.Auditing.{wrong_of}
use Rattle.entry_audit.proofs.Turn.{in_runs, in_offsets, later}
use Rattle.entry_audit.proofs.audit_chunk.Given as goal

abbrev pub invariant-loop-j : goal.invariant-loop-j
invariant-loop-j l = let w = l.fn.head.window in record {
  part : l.part ≡ window_sum l.series l.rest l.j;
  left : in_offsets l.series w l.left l.right (l.from + l.k) l.r l.j (get_or l.right l.i 0) (l.i + 1) (l.r.first + l.r.runs) (later l.series w l.left l.right l.from l.chunk l.k) ≡ wrong_of l.series w l.left l.right l.from l.chunk;
}

abbrev pub invariant-loop-i : goal.invariant-loop-i
invariant-loop-i l = let w = l.fn.head.window in in_runs l.series w l.left l.right (l.from + l.k) l.r l.i (l.r.first + l.r.runs) (later l.series w l.left l.right l.from l.chunk l.k) ≡ wrong_of l.series w l.left l.right l.from l.chunk

abbrev pub invariant-loop-k : goal.invariant-loop-k
invariant-loop-k l = let w = l.fn.head.window in wrong_of l.series w l.left l.right (l.from + l.k) (drop l.k l.chunk) ≡ wrong_of l.series w l.left l.right l.from l.chunk
