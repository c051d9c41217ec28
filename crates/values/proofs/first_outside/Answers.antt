use Rattle.meaning_numbers.specs.Sum.{count}
use Rattle.meaning_numbers.proofs.Count.{never-count}
use Rattle.meaning_numbers.proofs.Prelude.{not-false, ◌≡◌, sym, subst, not, List, ℕ, ◌+◌, ◌-◌, ◌*◌, arith, dec_lt, T, ℤ}
use Rattle.meaning_curves.specs.{Curve.stretch, Limits.value_in}
use Rattle.values.specs.Place.{InTo}
use Rattle.values.proofs.first_outside.Goals as goal

block_in : (s : List ℤ) (i n : ℕ) → InTo s i → count (λ k. not (value_in (stretch s i k))) n ≡ 0 → InTo s (i + n)
block_in s i n h none = record {
  inside = λ k l. elim (dec_lt k i) [
    | yes b ↦ h.inside k b
    | no f ↦
        let e : i + (k - i) ≡ k = omega arith in
        let v = never-count (λ j. not (value_in _)) n none (k - i) (omega arith) in
        rw e at (subst T (sym (not-false (value_in _) v)) tt)
  ];
}

pub loop-b-preserved : goal.loop-b-preserved
loop-b-preserved c =
    let e : c.loop-b.b * 256 + 256 ≡ (c.loop-b.b + 1) * 256 = omega arith in
    rw e at (block_in _ _ 256 c.loop-b.invariant (omega arith))
