-- `line_at`. The invariant: n is the line of the place that the loop has come to, and at most one more than it.
use Prim.Native.Nat.{suc, ◌≤◌}
use mathlib.Core.Path.{◌≡◌}
use Rattle.meaning_text.specs.{Read.line_of}
use Rattle.text_reader.proofs.line_at.Given as goal

abbrev pub invariant-loop-b : goal.invariant-loop-b
invariant-loop-b l = (l.n ≡ line_of l.text l.b-index) × (l.n ≤ suc l.b-index)
