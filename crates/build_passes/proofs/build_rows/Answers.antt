-- `build_rows`: the rows are laid out, merged where g is not 0, and filled.
use Rattle.meaning_numbers.proofs.Prelude.{refl, arith}
use Rattle.build_passes.proofs.Stages.{fillable, laid-unmerged}
use Rattle.build_passes.proofs.Filled.{holds_same}
use Rattle.build_passes.proofs.build_rows.Goals as goal

pub merge_and_fill-requires : goal.merge_and_fill-requires
merge_and_fill-requires c = ((refl, refl), (fillable 0 c.requires.0 (laid-unmerged c.args.s.now c.args.w c.args.d c.lay_rows-n.ensures) (omega arith) (omega arith), c.requires.3))

pub returns : goal.returns
returns c =
    let a = c.args in
    let m = c.lay_rows-n.new in
    (c.merge_and_fill.ensures.merged, holds_same a.d a.g a.s.now a.w m.rows a.rows.now m.left a.left.now m.right a.right.now (omega arith) (omega arith) (omega arith) c.merge_and_fill.ensures.held)
