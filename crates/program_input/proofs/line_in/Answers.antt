-- `line_in` meets its contract.
use Rattle.meaning_numbers.proofs.Prelude.{arith}
use Rattle.program_input.proofs as own
use own.InputLaws.{line-most}
use Rattle.program_input.proofs.line_in.Goals as goal

pub overflow_add-result : goal.overflow_add-result
overflow_add-result c = omega (arith, line-most c.args.piece.now c.args.k)
