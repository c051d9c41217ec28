use Rattle.meaning_numbers.specs.Sum.{Σℕ}
use Rattle.meaning_numbers.proofs.Prelude.{◌≡◌, refl, List, ℕ, ◌+◌, ◌-◌, ◌<◌, ◌≤◌, arith, ℤ, length, take}
use Rattle.meaning_curves.specs.{Curve.at, Curve.stretch, Curve.spread, Normal.normalised}
use Rattle.meaning_curves.proofs.Values.{AllIn}
use Rattle.meaning_filter.proofs.Bound.{apart}
use Rattle.numbers.proofs.Blocks.{Made, made_none, made-left, made-whole}
use Rattle.distance_normal.specs.Stretch.{NormalReady, NormalPart}
use Rattle.distance_within.proofs as own
use own.Within.{NormalTo, normal-next, normal-all, made_in, part-more}
use Rattle.distance_within.proofs.normalise_within.Goals as goal

-- after a part of n values from place i on, up to place e
module _ {s low high out out' : List ℤ} {from m values squares a i n e : ℕ} (ready : NormalReady s from m values squares a) (in_low : AllIn low) (in_high : AllIn high)
    (t : NormalTo (stretch s from) m i out) (p : NormalPart (stretch s from) (length out) i n out out') (is : e ≡ i + n) (fits : e ≤ m) where
  some : 0 < spread (stretch s from) m
  some = omega (arith, ready.spread-is, ready.some)

  to : NormalTo (stretch s from) m e out'
  to = rw is (normal-next t (rw t.long at p))

  reads : AllIn (take e out')
  reads = made_in some ready.short fits to

  more : {total r : ℕ} → Made (apart (normalised (stretch s from) m) (at low) (at high)) 400000000 i total
      → r ≡ Σℕ n (λ k. apart (stretch (take e out') 0) (at low) (at high) (i + k))
      → Made (apart (normalised (stretch s from) m) (at low) (at high)) 400000000 e (total + r)
  more d told = part-more some ready.short fits to i n is in_low in_high told d

pub loop-i-init : goal.loop-i-init
loop-i-init c = (omega arith, record { long = refl; at = λ k h. absurd (omega arith) }, made_none _ _)

pub envelope_part-total-requires-clause-all_in : goal.envelope_part-total-requires-clause-all_in
envelope_part-total-requires-clause-all_in c =
    let r = c.requires in
    (reads r.ready r.all_in.0 r.all_in.1 c.loop-i.invariant.1 c.normalise_part.ensures refl (omega arith), r.all_in.0, r.all_in.1)

pub overflow_add-total : goal.overflow_add-total
overflow_add-total c =
    let r = c.requires in
    let d = more r.ready r.all_in.0 r.all_in.1 c.loop-i.invariant.1 c.normalise_part.ensures refl (omega arith) c.loop-i.invariant.2 c.envelope_part-total.ensures in
    omega (arith, d.small, r.ready.short)

pub returns-then-limit-total : goal.returns-then-limit-total
returns-then-limit-total c =
    let r = c.requires in
    let d = more r.ready r.all_in.0 r.all_in.1 c.loop-i.invariant.1 c.normalise_part.ensures refl (omega arith) c.loop-i.invariant.2 c.envelope_part-total.ensures in
    record { bound = made-left d (omega arith) c.if-limit-total.true; made = λ h. absurd (omega arith) }

pub loop-i-preserved : goal.loop-i-preserved
loop-i-preserved c =
    let r = c.requires in
    let t = c.loop-i.invariant.1 in
    let p = c.normalise_part.ensures in (
      omega arith,
      to r.ready r.all_in.0 r.all_in.1 t p refl (omega arith),
      more r.ready r.all_in.0 r.all_in.1 t p refl (omega arith) c.loop-i.invariant.2 c.envelope_part-total.ensures,
    )

pub envelope_part-requires-clause-all_in : goal.envelope_part-requires-clause-all_in
envelope_part-requires-clause-all_in c =
    let r = c.requires in
    let is : length c.args.out.now ≡ c.loop-i.i + (length c.args.out.now - c.loop-i.i) = omega arith in
    (reads r.ready r.all_in.0 r.all_in.1 c.loop-i.invariant.1 c.normalise_part-2.ensures is (omega arith), r.all_in.0, r.all_in.1)

pub overflow_add-result : goal.overflow_add-result
overflow_add-result c =
    let r = c.requires in
    let is : length c.args.out.now ≡ c.loop-i.i + (length c.args.out.now - c.loop-i.i) = omega arith in
    let d = more r.ready r.all_in.0 r.all_in.1 c.loop-i.invariant.1 c.normalise_part-2.ensures is (omega arith) c.loop-i.invariant.2 c.envelope_part.ensures in
    omega (arith, d.small, r.ready.short)

pub returns : goal.returns
returns c =
    let r = c.requires in
    let t = c.loop-i.invariant.1 in
    let p = c.normalise_part-2.ensures in
    let is : length c.args.out.now ≡ c.loop-i.i + (length c.args.out.now - c.loop-i.i) = omega arith in
    record {
      bound = made-whole (more r.ready r.all_in.0 r.all_in.1 t p is (omega arith) c.loop-i.invariant.2 c.envelope_part.ensures) refl;
      made = λ h. normal-all refl (to r.ready r.all_in.0 r.all_in.1 t p is (omega arith));
    }
