-- `copy_column`: a turn reads a row and the next old row, and copies the old row's runs to the row's part.
use Rattle.meaning_numbers.proofs.Prelude.{◌≡◌, sym, ap, ◌∙◌, ℕ, arith}
use Rattle.extend_parts.specs.Copy.{column_to}
use Rattle.extend_parts.proofs.Copy.{column-none, column-more, passed_none, passed-more}
use Rattle.extend_parts.proofs.copy_column.Goals as goal

pub loop-i-init : goal.loop-i-init
loop-i-init c = (sym (passed_none _ _), sym (column-none _ _ _ _))

pub copy_part-requires : goal.copy_part-requires
copy_part-requires c =
    let a = c.args in
    rw (c.row_or-o.ensures, c.row_at-r.ensures, c.end_row-end.ensures, c.loop-i.invariant.0, c.loop-i.auto.to) (c.requires.room c.loop-i.i c.loop-i-test.true)

pub old_passed-a-requires : goal.old_passed-a-requires
old_passed-a-requires c =
    let h = c.requires.in-old c.loop-i.i (omega arith) in
    omega (arith, c.loop-i.invariant.0, h)

pub loop-i-preserved : goal.loop-i-preserved
loop-i-preserved c =
    let a = c.args in (
      rw (c.old_passed-a.ensures, c.row_or-o.ensures, c.row_at-r.ensures, c.end_row-end.ensures, c.loop-i.invariant.0) (sym (passed-more a.old.now a.rows.now c.loop-i.i)),
      rw (c.copy_part.ensures, c.row_or-o.ensures, c.row_at-r.ensures, c.end_row-end.ensures, c.loop-i.invariant.0, c.loop-i.invariant.1) (sym (column-more a.old.now a.from.now a.rows.now c.loop-i.i a.to.now)),
    )

pub returns : goal.returns
returns c =
    let a = c.args in
    let e : c.loop-i.i ≡ a.count = omega arith in
    c.loop-i.invariant.1 ∙ ap (λ (j : ℕ). column_to a.old.now a.from.now a.rows.now j a.to.now) e
