-- `read_all`. The invariant: some text has been read, and as many bytes more can be as the pieces that are left bring.
use Rattle.meaning_numbers.proofs.Prelude.{◌*◌, ◌-◌}
use Rattle.find.specs.Reading.{ReadTo}
use Rattle.find.proofs.read_all.Given as goal

abbrev pub invariant-loop : goal.invariant-loop
invariant-loop l = ReadTo (65536 * (70368744177663 - l.counter)) l.x l.numbers l.series l.query
