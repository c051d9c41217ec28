-- `finish`, by what refuses.
use borrow.Author.Rules.{rules}
use lib.ListN.{length-take}
use native.Mathlib.Omega.{arith}
use mathlib.Core.Path.{ap}
use Rattle.program_input.specs.{declared.Asked.Asked, Tables.asked_of}
use Rattle.program_print.proofs as own
use own.End.{sound-here, refused_end, not-failed, given-here, call-free, printed-end}
use Rattle.program_print.proofs.finish.Goals as goal

pub refuse-requires : goal.refuse-requires
refuse-requires c = sound-here _ _ _ _ c.requires.0.reached

pub returns-in-Err : goal.returns-in-Err
returns-in-Err c =
    refused_end _ _ _ _ c.in-Err.w _ _ _ c.in-Err.ensures (omega arith) (omega arith) c.requires.1 c.write_refused.ensures

pub slice_bounds-print_answer-end : goal.slice_bounds-print_answer-end
slice_bounds-print_answer-end c =
    simp length-take (omega (arith, (given-here _ _ _ _ c.in-Ok.ensures c.in-Going.is c.requires.0.reached).few, c.requires.0.series-long))

pub slice_bounds-print_answer-end-in-Going : goal.slice_bounds-print_answer-end-in-Going
slice_bounds-print_answer-end-in-Going c =
    simp length-take (omega (arith, (given-here _ _ _ _ c.in-Ok.ensures c.in-Going.is c.requires.0.reached).short, c.requires.0.query-long))

pub asked_of-requires : goal.asked_of-requires
asked_of-requires c =
    rw c.numbers_of.ensures (given-here _ _ _ _ c.in-Ok.ensures c.in-Going.is c.requires.0.reached).limited

pub print_answer-requires : goal.print_answer-requires
unfolding asked_of
print_answer-requires c =
    (rw (c.asked_of.ensures, c.numbers_of.ensures) (call-free _ _ _ _ c.in-Ok.ensures c.in-Going.is c.requires.0.reached), search rules, ap (λ (a : Asked). a.ask.pick) c.asked_of.ensures)

pub returns-in-Failed : goal.returns-in-Failed
returns-in-Failed c = not-failed _ _ c.args.series.now _ c.in-Ok.ensures c.in-Failed.is

pub returns-in-Going : goal.returns-in-Going
returns-in-Going c =
    printed-end _ _ _ _ c.in-Ok.ensures c.in-Going.is _ _
    (rw (c.asked_of.ensures, c.numbers_of.ensures) at c.print_answer.ensures)
