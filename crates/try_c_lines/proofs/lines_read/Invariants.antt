-- `lines_read`. The invariant: the text has been read up to a place inside it, and what is kept is what it comes to.
use Rattle.std.specs.Prelude.{Ok, Err}
use Rattle.meaning_numbers.proofs.Prelude.{◌-◌, rules, length, take, ◌≡◌, refl, ◌∙◌, arith}
use Rattle.try_c_lines.specs.Piece.{Stands}
use Rattle.try_c_lines.proofs as own
use own.PieceLaws.{Comes}
use own.Laws.{begins, goes_on, fails, ends, told}
use Rattle.try_c_lines.proofs.lines_read.Given as goal

abbrev pub invariant-loop-k : goal.invariant-loop-k
invariant-loop-k l = Stands (length l.text) l.p × Comes l.program (take l.p.at l.text) l.initial.numbers l.initial.series l.initial.query (Ok l.p) l.numbers l.series l.query × (length l.numbers ≡ length l.initial.numbers) × (length l.series ≡ length l.initial.series) × (length l.query ≡ length l.initial.query)
