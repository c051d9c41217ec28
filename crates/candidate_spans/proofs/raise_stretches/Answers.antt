use Rattle.meaning_numbers.proofs.Prelude.{◌≡◌, refl, ◌∙◌, ◌*◌, ◌≤◌, arith, mul-le-mul}
use Rattle.candidate_spans.proofs.Raised.{by-starts, tail-raised, by_next}
use Rattle.candidate_spans.proofs.raise_stretches.Goals as goal

pub loop-i-init : goal.loop-i-init
loop-i-init c = (by-starts _ _ _ c.requires.zeros, refl)

pub overflow_mul-shift : goal.overflow_mul-shift
overflow_mul-shift c =
    let h : c.loop-i.i ≤ 1024 = omega (arith, c.loop-i-test.true, c.requires.most) in
    omega (arith, mul-le-mul h c.requires.window)

pub raise_run-requires : goal.raise_run-requires
raise_run-requires c = record {
  to_in_bounds = omega (arith, c.loop-i.invariant.1, c.requires.room);
  part_bound = omega (arith, c.loop-i-test.true, c.requires.most);
}

pub raise_runs-requires : goal.raise_runs-requires
raise_runs-requires c = (
  c.requires.inside-left _ c.loop-i-test.true,
  c.requires.inside-right _ c.loop-i-test.true,
  omega (arith, c.loop-i.invariant.1, c.requires.room, c.raise_run.ensures.long),
  omega (arith, c.loop-i-test.true, c.requires.most),
)

pub loop-i-preserved : goal.loop-i-preserved
loop-i-preserved c =
    let i = c.loop-i.i in
    let a = c.args in
    let r = tail-raised i a.windows (i * a.w) a.offsets _ _ _ _ (rw c.clip.ensures at c.raise_run.ensures) c.raise_runs.ensures in
    (by_next _ _ i _ _ c.loop-i.invariant.0 r, r.long ∙ c.loop-i.invariant.1)

pub returns : goal.returns
returns c =
    let e : c.loop-i.i ≡ c.args.parts = omega arith in
    rw e at c.loop-i.invariant.0
