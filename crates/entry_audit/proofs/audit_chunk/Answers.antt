-- `audit_chunk`: each loop begins, goes on and ends with what is filed wrongly first among what is left to audit.
use Rattle.meaning_numbers.proofs.Prelude.{◌≡◌, sym, ap, ◌∙◌, Bool, true, false, List, ℕ, ◌+◌, ◌-◌, ◌≤◌, ℤ, arith, get_or, rules, w32, SFits, to_z, of_z, to_z-of_z}
use Rattle.meaning_curves.specs.Curve.{window_sum}
use Rattle.meaning_rows.specs.{Range.inside}
use Rattle.rows_records.specs.Records.{zero_row}
use Rattle.entry_audit.specs.Auditing.{wrong_of}
use Rattle.entry_audit.proofs.Turn.{later, row-begins, row_ends, run-begins, run_ends, filed-right, filed-wrong, none_left}
use Rattle.entry_audit.proofs.audit_chunk.Goals as goal

-- what the test of an offset says, on numbers that the machine reads back as they are
told : (s : List ℤ) (w j : ℕ) {low up sum : ℤ} {b : Bool} → 1 ≤ w → SFits w32 low → SFits w32 up → SFits w32 sum → sum ≡ window_sum s (w - 1 + 1) j
    → b ≡ inside (to_z w32 (of_z w32 low)) (to_z w32 (of_z w32 up)) (to_z w32 (of_z w32 sum)) → b ≡ inside low up (window_sum s w j)
told s w j {low} {up} {sum} least f g h e t =
    let n : w - 1 + 1 ≡ w = omega arith in
    let l = to_z-of_z w32 low f in
    let u = to_z-of_z w32 up g in
    let m = to_z-of_z w32 sum h ∙ e ∙ ap (λ n. window_sum s n j) n in
    t ∙ (λ i. inside (l i) (u i) (m i))

pub loop-k-init : goal.loop-k-init
loop-k-init c =
    let a = c.args in
    let e : a.from + 0 ≡ a.from = omega arith in
    ap (λ i. wrong_of a.series.now a.head.window a.left.now a.right.now i a.chunk) e

pub loop-i-init : goal.loop-i-init
loop-i-init c =
    let a = c.args in
    row-begins a.series.now a.head.window a.left.now a.right.now a.from a.chunk c.loop-k.k (omega (arith, c.requires.size, c.loop-k-test.true)) ∙ c.loop-k.invariant

pub loop-j-init : goal.loop-j-init
loop-j-init c =
    let a = c.args in
    let i = c.loop-i.i in
    let r = get_or a.chunk c.loop-k.k zero_row in
    let reads = c.requires.rows c.loop-k.k c.loop-k-test.true in
    record {
      part = to_z-of_z w32 _ (record { sfits = c.part_sum-part.type_inv }) ∙ c.part_sum-part.ensures;
      left = run-begins a.series.now a.head.window a.left.now a.right.now (a.from + c.loop-k.k) r i (r.first + r.runs) (later a.series.now a.head.window a.left.now a.right.now a.from a.chunk c.loop-k.k) c.loop-i-test.true reads.in_left reads.in_right
          ∙ c.loop-i.invariant;
    }

pub value_in-sum-requires-clause-part_value : goal.value_in-sum-requires-clause-part_value
value_in-sum-requires-clause-part_value c = c.loop-j.invariant.part

pub returns-then-not-holds : goal.returns-then-not-holds
returns-then-not-holds c =
    let a = c.args in
    let r = get_or a.chunk c.loop-k.k zero_row in
    let wrong : inside r.low r.up (window_sum a.series.now a.head.window c.loop-j.j) ≡ false =
    sym (told a.series.now a.head.window c.loop-j.j {low = r.low} {up = r.up} {sum = c.value_in-sum.result} c.requires.least (record { sfits = (search rules) }) (record { sfits = (search rules) }) (record { sfits = c.value_in-sum.type_inv }) c.value_in-sum.ensures c.holds.ensures) ∙ c.if-not-holds.true in
    filed-wrong a.series.now a.head.window a.left.now a.right.now _ r c.loop-j.j _ _ (r.first + r.runs) _ (omega (arith, c.loop-j-test.true)) wrong ∙ c.loop-j.invariant.left

pub loop-j-preserved : goal.loop-j-preserved
loop-j-preserved c =
    let a = c.args in
    let r = get_or a.chunk c.loop-k.k zero_row in
    let right : inside r.low r.up (window_sum a.series.now a.head.window c.loop-j.j) ≡ true =
    sym (told a.series.now a.head.window c.loop-j.j {low = r.low} {up = r.up} {sum = c.value_in-sum.result} c.requires.least (record { sfits = (search rules) }) (record { sfits = (search rules) }) (record { sfits = c.value_in-sum.type_inv }) c.value_in-sum.ensures c.holds.ensures) ∙ c.if-not-holds.false in
    record {
      part = to_z-of_z w32 _ (record { sfits = c.value_out-part.type_inv }) ∙ c.value_out-part.ensures;
      left = filed-right a.series.now a.head.window a.left.now a.right.now _ r _ _ _ (r.first + r.runs) _ (omega (arith, c.loop-j-test.true)) right ∙ c.loop-j.invariant.left;
    }

pub loop-i-preserved : goal.loop-i-preserved
loop-i-preserved c =
    let a = c.args in
    let r = get_or a.chunk c.loop-k.k zero_row in
    run_ends a.series.now a.head.window a.left.now a.right.now (a.from + c.loop-k.k) r _ _ _ (r.first + r.runs) (later a.series.now a.head.window a.left.now a.right.now a.from a.chunk c.loop-k.k) (omega (arith, c.loop-j-test.false))
    ∙ c.loop-j.invariant.left

pub loop-k-preserved : goal.loop-k-preserved
loop-k-preserved c =
    let a = c.args in
    let r = get_or a.chunk c.loop-k.k zero_row in
    row_ends a.series.now a.head.window a.left.now a.right.now (a.from + c.loop-k.k) r c.loop-i.i (r.first + r.runs) (later a.series.now a.head.window a.left.now a.right.now a.from a.chunk c.loop-k.k) c.loop-i-test.false
    ∙ c.loop-i.invariant

pub returns-after-loop-k : goal.returns-after-loop-k
returns-after-loop-k c =
    let a = c.args in
    none_left a.series.now a.head.window a.left.now a.right.now _ a.chunk c.loop-k.k (omega (arith, c.requires.size, c.loop-k-test.false)) ∙ c.loop-k.invariant
