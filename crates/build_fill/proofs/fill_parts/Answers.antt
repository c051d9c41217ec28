-- A turn files one run of windows: the sum of the run's first window, its row, and the run in the row's part.
use Rattle.meaning_numbers.proofs.Prelude.{rules, ◌≡◌, ◌∙◌, ◌<◌, sym, subst, arith, List, ℕ, ℤ, w32, to_z, of_z, to_z-of_z, SFits}
use Rattle.meaning_curves.specs.Curve.{window_sum}
use Rattle.meaning_rows.specs.declared.Row.{Row}
use Rattle.sums_slide.specs.{declared.Window.Window, Levels.sum_at}
use Rattle.sums_slide.proofs.Levels.{sum_is}
use Rattle.rows_find.specs.Search.{Reached, FoundRow}
use Rattle.build_fill.specs.Turn.{At}
use Rattle.build_fill.proofs.Turn.{sum-asked}
use Rattle.build_fill.proofs.Pass.{rowed-climbs, rowed-reached, going-asks, going-nears, going_next}
use Rattle.build_fill.proofs.fill_parts.Goals as goal

-- the sum of a placed window, as the machine reads it
sum-read : {s : List ℤ} {w e : ℕ} (at : Window) {z : ℤ} → SFits w32 z → At s w e at → z ≡ sum_at w e at → to_z w32 (of_z w32 z) ≡ window_sum s w at.offset
sum-read at {z} f h q = to_z-of_z w32 z f ∙ q ∙ sum_is at h.lent h.sum

-- the row found of the sum as the machine reads it is that of the window's sum
row-found : {s : List ℤ} {w e n : ℕ} {rows : List Row} {r : Row} (at : Window) {z : ℤ} → SFits w32 z → At s w e at → z ≡ sum_at w e at → FoundRow rows n (to_z w32 (of_z w32 z)) r → FoundRow rows n (window_sum s w at.offset) r
row-found {n = n} {rows = rows} {r = r} at f h q = subst (λ (y : ℤ). FoundRow rows n y r) (sum-read at f h q)

pub sum_of-sum-requires : goal.sum_of-sum-requires
sum_of-sum-requires g c = sum-asked c.loop-at.invariant.place

pub find_record-r-requires : goal.find_record-r-requires
find_record-r-requires g c =
    let k = c.loop-at.invariant in
    let fits : SFits w32 c.sum_of-sum.result = search rules in
    let sum = sum-read c.loop-at.at fits k.place c.sum_of-sum.ensures in
    (rowed-climbs c.requires.rowed, subst (Reached c.args.rows.now c.args.count) (sym sum) (rowed-reached c.requires.rowed c.loop-at.at.offset k.after c.loop-at-test.true))

pub file_turn-at-requires : goal.file_turn-at-requires
file_turn-at-requires g c =
    let k = c.loop-at.invariant in
    going-asks c.requires c.loop-at.at _ _ k c.loop-at-test.true (row-found c.loop-at.at (search rules) k.place c.sum_of-sum.ensures c.find_record-r.ensures)

pub loop-at-smaller : goal.loop-at-smaller
loop-at-smaller g c =
    let k = c.loop-at.invariant in
    let near : c.loop-at.at.offset < c.file_turn-at.result.offset = going-nears c.requires c.loop-at.at _ _ k c.loop-at-test.true (row-found c.loop-at.at (search rules) k.place c.sum_of-sum.ensures c.find_record-r.ensures) c.file_turn-at.ensures in
    omega arith

pub loop-at-preserved : goal.loop-at-preserved
loop-at-preserved g c =
    let k = c.loop-at.invariant in
    going_next c.requires c.loop-at.at _ _ k c.loop-at-test.true (row-found c.loop-at.at (search rules) k.place c.sum_of-sum.ensures c.find_record-r.ensures) c.file_turn-at.ensures
