use Rattle.meaning_numbers.proofs.Prelude.{refl, ◌∙◌, arith}
use Rattle.sums_slide.proofs as own
use own.Picked.{append-none}
use own.Table.{chunk_next, chunk-room, table-start, table-end}
use Rattle.sums_slide.proofs.list_rows.Goals as goal

pub loop-base-init : goal.loop-base-init
loop-base-init c =
    (rw (c.row_of_level-base.ensures, table-start c.args.d c.requires.lent c.requires.le_d.0 c.level_ends-ends.ensures.bounds) (append-none 0 _), refl)

pub list_chunk-k-requires-clause-flags_in_bounds : goal.list_chunk-k-requires-clause-flags_in_bounds
list_chunk-k-requires-clause-flags_in_bounds c = chunk-room c.args.d c.requires.lent _ _ c.loop-base.invariant.0 c.requires.d_in_bounds

pub loop-base-preserved : goal.loop-base-preserved
loop-base-preserved c =
    let a = c.list_chunk-k.ensures in
    (rw c.loop-base.invariant.1 at (chunk_next _ _ _ c.loop-base.invariant.0 a.appended), a.flags_len_unchanged ∙ c.loop-base.invariant.1)

pub returns : goal.returns
returns c =
    rw (table-end c.args.d c.requires.lent c.requires.le_d.0 c.level_ends-ends.ensures.bounds c.loop-base.base (omega arith)) at c.loop-base.invariant.0
