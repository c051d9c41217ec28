-- `lay_out`: there is room for the flags and the rows, and the counts of their runs can be summed up.
use Rattle.meaning_numbers.proofs.Prelude.{ℕ, ◌≤◌, replicate, length-replicate, length, ◌≡◌, ap, arith}
use Rattle.sums_slide.specs.Table.{table}
use Rattle.rows_pack.specs.Packed.{total}
use Rattle.rows_pack.proofs.Records.{counts-fit}
use Rattle.build_lay.proofs as own
use own.Laid.{rows_fit}
use Rattle.build_lay.proofs.lay_out.Goals as goal

-- of n flags there are n
flags : (n x : ℕ) → 1 ≤ n → n ≤ 1000000 → (1 ≤ length (replicate n x)) × (length (replicate n x) ≤ 1000000)
flags n x some most = rw (length-replicate n x) (some, most)

pub plan-n-requires-clause-in_bounds : goal.plan-n-requires-clause-in_bounds
plan-n-requires-clause-in_bounds c = flags 262144 0 (omega arith) (omega arith)

pub plan-n-requires-clause-d_in_bounds : goal.plan-n-requires-clause-d_in_bounds
plan-n-requires-clause-d_in_bounds c = (omega (arith, rows_fit c.requires, c.requires.in_left), omega (arith, rows_fit c.requires, c.requires.in_right))

pub sum_up-requires : goal.sum_up-requires
sum_up-requires c =
    let a = c.requires in
    let n : c.plan-n.result ≡ length (table c.args.s.now c.args.w c.args.e c.args.d) = omega (arith, c.plan-n.ensures.appended.count) in (
      omega (arith, n, rows_fit a, a.in_right),
      omega (arith, ap (total c.plan-n.new.counts) n, counts-fit c.args.d a.rows a.least a.bias a.lent c.plan-n.ensures.counted, a.lent.long, a.lent.some),
    )

pub returns : goal.returns
returns c =
    let a = c.requires in
    let q = c.plan-n.ensures in
    let n : c.plan-n.result ≡ length (table c.args.s.now c.args.w c.args.e c.args.d) = omega (arith, q.appended.count) in
    record {
      count = n;
      front = q.appended.front;
      counts = c.plan-n.new.counts;
      counted = q.counted;
      summed = c.sum_up.ensures;
      in_left = omega (arith, n, rows_fit a, a.in_left, q.appended.long);
      in_right = omega (arith, n, rows_fit a, a.in_right, c.sum_up.ensures.long);
    }
