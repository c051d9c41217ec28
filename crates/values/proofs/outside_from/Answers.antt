use Rattle.meaning_numbers.proofs.Prelude.{rules, ◌≡◌, sym, ap, ◌∙◌, arith, w32, to_z-of_z}
use Rattle.meaning_curves.specs.{Curve.at, Limits.value_in}
use Rattle.meaning_curves.proofs.{Limits.outside-is, Limits.in-values, Values.no_value}
use Rattle.values.proofs.outside_from.Goals as goal

-- the answer speaks of the value at i
told : (c : goal.Then-not-in_limits) → c.in_limits.result ≡ value_in (at c.args.s.now c.loop-i.i)
told c =
    c.in_limits.ensures ∙ ap value_in (to_z-of_z w32 _ (search rules))

pub returns-then-not-in_limits : goal.returns-then-not-in_limits
returns-then-not-in_limits c =
    sym (outside-is (record { there = omega arith; outside = no_value _ (sym (told c) ∙ c.if-not-in_limits.true); before = c.loop-i.invariant.inside }))

pub returns : goal.returns
returns c = sym (in-values _ (λ k l. c.loop-i.invariant.inside k (omega arith)))
