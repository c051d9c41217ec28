-- `list_chunk`: the flags of all windows tell the numbers that are met (`lit-picked`).
use Rattle.meaning_numbers.proofs.Prelude.{◌≡◌, arith, length}
use Rattle.clear.proofs.Cleared.{cleared-zero}
use Rattle.sums_slide.proofs as own
use own.Marks.{lit-picked}
use Rattle.sums_slide.proofs.list_chunk.Goals as goal

pub mark-requires-clause-by_index : goal.mark-requires-clause-by_index
mark-requires-clause-by_index c = λ x b. cleared-zero _ c.clear.ensures x

pub collect-requires-clause-flags_in_bounds : goal.collect-requires-clause-flags_in_bounds
collect-requires-clause-flags_in_bounds c =
    let long : length c.mark.new.flags ≡ length c.args.flags.now = omega arith in
    rw (lit-picked _ _ c.args.base _ c.mark.new.flags c.mark.ensures.flags long) c.requires.flags_in_bounds

pub returns-clause-appended : goal.returns-clause-appended
returns-clause-appended c =
    let long : length c.mark.new.flags ≡ length c.args.flags.now = omega arith in
    rw (lit-picked _ _ c.args.base _ c.mark.new.flags c.mark.ensures.flags long) at c.collect.ensures
