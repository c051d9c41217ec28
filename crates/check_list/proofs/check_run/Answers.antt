use Rattle.meaning_numbers.proofs.Prelude.{refl, ◌∙◌, ◌+◌, ◌≤◌, arith, length}
use Rattle.check_list.proofs.Turn.{run-starts, run-next, run_ends}
use Rattle.check_list.proofs.check_run.Goals as goal

pub loop-j-init : goal.loop-j-init
loop-j-init c = (refl, refl, run-starts c.requires.k_le_from.0 c.requires.k_le_from.1 c.first_sums-t.ensures)

pub match_at-tested-requires : goal.match_at-tested-requires
match_at-tested-requires c =
    let v = c.loop-j.invariant in
    let p = c.requires.prepared in
    let h : c.loop-j.j + length c.args.q.now ≤ length c.args.s.now = omega (arith, c.loop-j-test.true, c.requires.k_le_from.2) in
    record {
      q_in_bounds = h;
      q_nonzero = (p.some, p.few);
      room_fits = (v.0 ∙ c.requires.room_len.0, omega (arith, v.1, c.requires.room_len.1));
      all_in = (p.values, p.query, p.scale);
      are_sums = λ e. v.2.sums e h;
      ready = p.ready;
    }

pub note_match-n-requires : goal.note_match-n-requires
note_match-n-requires c =
    let v = c.loop-j.invariant.2 in
    let h : c.loop-j.j + length c.args.q.now ≤ length c.args.s.now = omega (arith, c.loop-j-test.true, c.requires.k_le_from.2) in
    (omega (arith, h, c.requires.prepared.long), omega (arith, h, v.few, c.requires.prepared.long), omega (arith, v.so_far.as-many-offsets, v.so_far.as-many-distances, c.requires.pick_bound))

pub slide_sums-t-requires : goal.slide_sums-t-requires
slide_sums-t-requires c =
    let h : c.loop-j.j + length c.args.q.now ≤ length c.args.s.now = omega (arith, c.loop-j-test.true, c.requires.k_le_from.2) in
    let p = c.requires.prepared in
    record { m_in_bounds = (h, p.few, p.values); sums_for = c.loop-j.invariant.2.sums }

pub loop-j-preserved : goal.loop-j-preserved
loop-j-preserved c =
    let v = c.loop-j.invariant in
    (omega (arith, c.match_at-tested.auto.room, v.0), omega (arith, c.match_at-tested.auto.row, v.1), run-next c.loop-j-test.true v.2 c.match_at-tested.ensures c.note_match-n.ensures c.slide_sums-t.ensures)

pub returns : goal.returns
returns c = run_ends c.loop-j-test.false c.loop-j.invariant.2

-- at the last offset
pub returns-2 : goal.returns-2
returns-2 c = run_ends (omega arith) (run-next c.loop-j-test.true c.loop-j.invariant.2 c.match_at-tested.ensures c.note_match-n.ensures c.slide_sums-t.ensures)
