use mir.Val.{bool_byte}
use Rattle.meaning_numbers.specs.Sum.{count}
use Rattle.meaning_numbers.proofs.Count.{flag-bit, count_none, count-more, count-le}
use Rattle.meaning_numbers.proofs.Prelude.{◌≡◌, sym, List, ℕ, ◌+◌, ◌-◌, ◌<◌, eqb, arith, length, get_or, take, drop, length-take}
use Rattle.std.proofs.lemmas.List.{get_or-take, get_or-drop}
use Rattle.candidate_counts.specs.Handed.{stood}
use Rattle.candidate_counts.proofs.count_at.Goals as goal

module _ (s : List ℕ) (p from n k : ℕ) (h : k < length (take (from + n - from) (drop from s))) where
  inside : k < n
  inside = omega (arith, length-take (from + n - from) (drop from s))

  -- the offset at k
  here : eqb (get_or (take (from + n - from) (drop from s)) k 0) p ≡ stood s p (from + k)
  here = let i : k < from + n - from = omega (arith, inside) in rw (get_or-take (from + n - from) (drop from s) k 0, get_or-drop from s k 0)

  -- a turn looks at it
  more : {found : ℕ} → found ≡ count (λ j. stood s p (from + j)) k → found + bool_byte (eqb (get_or (take (from + n - from) (drop from s)) k 0) p) ≡ count (λ j. stood s p (from + j)) (k + 1)
  more e = let at = λ (j : ℕ). stood s p (from + j) in rw here (omega (arith, e, flag-bit (at k), count-more at k))

pub loop-x-init : goal.loop-x-init
loop-x-init c = sym (count_none _)

pub overflow_add-found : goal.overflow_add-found
overflow_add-found c =
    let a = c.args in
    omega (arith, more a.scratch.now a.p a.from a.n _ c.loop-x-test.true c.loop-x.invariant, inside a.scratch.now a.p a.from a.n _ c.loop-x-test.true, count-le (λ (j : ℕ). stood a.scratch.now a.p (a.from + j)) (c.loop-x.x-index + 1))

pub loop-x-preserved : goal.loop-x-preserved
loop-x-preserved c = more c.args.scratch.now c.args.p c.args.from c.args.n _ c.loop-x-test.true c.loop-x.invariant
