-- `merge_and_fill`: the rows are merged where g is not 0, and filled.
use Rattle.meaning_numbers.proofs.Prelude.{arith}
use Rattle.build_passes.specs.Filled.{MergedAs}
use Rattle.build_passes.proofs.Filled.{holds_same, rows-counted}
use Rattle.build_passes.proofs.merge_and_fill.Goals as goal

pub returns-clause-merged : goal.returns-clause-merged
returns-clause-merged g c =
    let a = c.args in
    let packed : MergedAs a.d a.g a.s.now a.w c.merge_some-k.new.rows c.merge_some-k.result = rw c.requires.0.0 at c.merge_some-k.ensures in
    rows-counted a.d a.g a.s.now a.w packed.many

pub returns-clause-held : goal.returns-clause-held
returns-clause-held g c =
    let a = c.args in
    let m = c.merge_some-k.new in
    holds_same a.d a.g a.s.now a.w m.rows a.rows.now m.left a.left.now m.right a.right.now (omega arith) (omega arith) (omega arith) (rw (c.requires.0.0, c.requires.0.1) at c.fill_rows.ensures)
