-- `digits`. A turn takes one digit more; as many as seven behind the first one are a small number.
use Rattle.meaning_numbers.proofs.Prelude.{ℕ, ◌+◌, ◌<◌, ◌≤◌, arith, length}
use Rattle.text_event.proofs as own
use own.Steps.{still-here, more-here, next-digit, next-less, top, top-more, top-most, digits-told}
use Rattle.text_event.proofs.digits.Goals as goal

-- a number of so many digits is small
small : (m k : ℕ) → k ≤ 7 → m < top k → m < 100000000000000000
small m k h l = omega (arith, top-most k h, l)

pub loop-k-init : goal.loop-k-init
loop-k-init c = (c.requires.0, λ p. still-here, λ p. still-here)

pub overflow_mul-result : goal.overflow_mul-result
overflow_mul-result c = omega (arith, small c.loop-k.m c.loop-k.k (omega arith) c.loop-k.invariant.0)

pub overflow_add-result : goal.overflow_add-result
overflow_add-result c = omega (arith, small c.loop-k.m c.loop-k.k (omega arith) c.loop-k.invariant.0)

pub returns-then-not-is_ascii_digit : goal.returns-then-not-is_ascii_digit
returns-then-not-is_ascii_digit c = digits-told _ _ _ _ _ c.loop-k.invariant.0 (omega arith) c.loop-k.invariant.1 c.loop-k.invariant.2

pub overflow_mul-m : goal.overflow_mul-m
overflow_mul-m c = omega (arith, small c.loop-k.m c.loop-k.k (omega arith) c.loop-k.invariant.0)

pub overflow_add-m : goal.overflow_add-m
overflow_add-m c = omega (arith, small c.loop-k.m c.loop-k.k (omega arith) c.loop-k.invariant.0)

pub loop-k-preserved : goal.loop-k-preserved
loop-k-preserved c =
    let l = c.loop-k in
    let d = rw c.if-not-is_ascii_digit.false at c.is_ascii_digit.ensures.cases in
    let h : c.args.at + l.k < length c.args.text.now = omega (arith, c.requires.1) in
    let s = small l.m l.k (omega arith) l.invariant.0 in (
      omega (arith, top-more l.k, l.invariant.0),
      λ p. more-here l.k (l.invariant.1 p) h (next-digit p l.m _ (omega arith) (omega arith) s),
      λ p. more-here l.k (l.invariant.2 p) h (next-less p l.m _ (omega arith) (omega arith) s),
    )
