use mir.Val.{bool_byte}
use Rattle.meaning_numbers.specs.Sum.{count}
use Rattle.meaning_numbers.proofs.Count.{flag-bit, count_none, count-more, count-le}
use Rattle.meaning_numbers.proofs.Prelude.{◌≡◌, ◌∙◌, ap, sym, Bool, not, ℕ, ◌+◌, arith, rules, w32, to_z-of_z}
use Rattle.meaning_curves.specs.{Curve.stretch, Limits.value_in}
use Rattle.values.proofs.count_outside.Goals as goal

pub loop-k-init : goal.loop-k-init
loop-k-init c = sym (count_none _)

-- a turn looks at the value at k
module _ (c : goal.After-in_limits) where
  abbrev outside : ℕ → Bool
  outside j = not (value_in (stretch c.args.s.now c.args.from j))

  told : not c.in_limits.result ≡ outside c.loop-k.k
  told = ap not (c.in_limits.ensures ∙ ap value_in (to_z-of_z w32 _ (search rules)))

  more : c.loop-k.found + bool_byte (not c.in_limits.result) ≡ count outside (c.loop-k.k + 1)
  more = omega (arith, c.loop-k.invariant, ap bool_byte told, flag-bit (outside c.loop-k.k), count-more outside c.loop-k.k)

pub overflow_add-found : goal.overflow_add-found
overflow_add-found c = omega (arith, more c, count-le (outside c) (c.loop-k.k + 1))

pub loop-k-preserved : goal.loop-k-preserved
loop-k-preserved c = more c
