-- The part of a series that an index covers, as code takes it: as many values as there are, at most.
use Rattle.meaning_numbers.proofs.Prelude.{◌≡◌, subst, List, ℕ, ◌+◌, ◌-◌, ◌≤◌, min, arith, dec_le, ℤ, length, take, take_all}
use Rattle.meaning_rows.specs.{declared.Row.Row, declared.Head.Head}
use Rattle.meaning_entries.specs.{Audit.lent_audit, Audit.covered_audit, Answers.AuditAnswer, Demand2.AuditKept}

pub covered-fits : (h : Head) (s : List ℤ) {n : ℕ} → n ≡ min (h.windows + h.window - 1) (length s) → n ≤ length s
covered-fits h s e = omega (arith, e)

take-most : (k : ℕ) (s : List ℤ) → take (min k (length s)) s ≡ take k s
take-most k s = elim (dec_le k (length s)) [
  | yes l ↦ let e : min k (length s) ≡ k = omega arith in rw e
  | no m ↦ let e : min k (length s) ≡ length s = omega arith in rw (e, take_all k s (omega arith)) (take_all (length s) s (omega arith))
]

pub covered-kept : (s : List ℤ) (h : Head) (rows : List Row) (left right : List ℕ) {n : ℕ} {a : AuditAnswer} → n ≡ min (h.windows + h.window - 1) (length s)
    → AuditKept (lent_audit (take n s) h rows left right) a → AuditKept (covered_audit s h rows left right) a
covered-kept s h rows left right {n} {a} e = subst (λ (l : List ℤ). AuditKept (lent_audit l h rows left right) a) (rw e (take-most (h.windows + h.window - 1) s))
