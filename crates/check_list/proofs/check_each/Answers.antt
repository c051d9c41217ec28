use Rattle.meaning_numbers.proofs.Prelude.{refl, ◌∙◌, arith}
use Rattle.check_list.proofs.Turn.{run_inside, runs-start, runs-next, runs-end}
use Rattle.check_list.proofs.check_each.Goals as goal

pub loop-i-init : goal.loop-i-init
loop-i-init c = (refl, refl, runs-start _ _ _ _ _ _ _)

-- the run at which the loop stands is lent
pub check_run-n-requires : goal.check_run-n-requires
check_run-n-requires c =
    let h = run_inside c.requires.runs_lent _ c.loop-i-test.true in
    let v = c.loop-i.invariant in
    record {
      prepared = c.requires.prepared;
      room_len = (v.0 ∙ c.requires.room_len.0, omega (arith, v.1, c.requires.room_len.1));
      k_le_from = (v.2.few c.loop-i-test.true, h.0, omega (arith, h.1, c.requires.prepared.some));
      pick_bound = omega (arith, v.2.so_far.as-many-offsets, v.2.so_far.as-many-distances, c.requires.pick_bound);
    }

pub loop-i-preserved : goal.loop-i-preserved
loop-i-preserved c =
    let v = c.loop-i.invariant in
    (omega (arith, c.check_run-n.auto.room, v.0), omega (arith, c.check_run-n.auto.row, v.1), runs-next c.requires.runs_lent c.loop-i-test.true v.2 c.check_run-n.ensures)

pub returns : goal.returns
returns c = runs-end c.loop-i-test.false c.loop-i.invariant.2
