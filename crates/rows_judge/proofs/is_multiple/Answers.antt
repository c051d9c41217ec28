-- `is_multiple`. By 0 a number leaves itself.
use Rattle.meaning_numbers.specs.Quotient.{multiple}
use Rattle.meaning_numbers.proofs.Prelude.{sym, ◌∙◌, ap, ◌%◌, mod-zero, nat_abs, w32, to_z-of_z}
use Rattle.rows_judge.proofs.is_multiple.Goals as goal

pub returns-then-d-eq0 : goal.returns-then-d-eq0
unfolding multiple
returns-then-d-eq0 c =
    let d = c.if-d-eq0.true in
    rw (c.unsigned_abs-m.ensures.value ∙ ap nat_abs (to_z-of_z w32 _ c.ranges.z) ∙ sym (ap (λ d. nat_abs c.args.z % d) d ∙ mod-zero _))

pub returns-else-d-eq0 : goal.returns-else-d-eq0
unfolding multiple
returns-else-d-eq0 c = rw (c.unsigned_abs-m.ensures.value ∙ ap nat_abs (to_z-of_z w32 _ c.ranges.z))
