-- The entry audit, and what it is for an index to pass against a series.
use Rattle.std.specs.Prelude.{ℕ, zero, suc, ℤ, length, List, ◌∷◌, ◌++◌, ◌≡◌}
use Rattle.std.specs.declared.option.Option.{Option}
use Rattle.std.specs.Prelude.{None, Some, Ok, Err}
use Rattle.meaning_curves.specs.Limits.{most_values}
use Rattle.meaning_rows.specs.{declared.Row.Row, declared.Head.Head, Index.Index, Index.lent, Index.covered, Audit.first_wrong, Audit.missing}
use Rattle.meaning_entries.specs.{declared.Audited.Audited, Answers.AuditAnswer, Answers.refusal, Refusal.Condition, Refusal.first_refusal, Refusal.ill_formed, Refusal.series_lines, Refusal.count_lines}

-- the series, and the index that is to have its windows
pub record AuditCall : Type 0 where
  pub series : List ℤ
  pub index : Index

-- the call over a lent index
abbrev pub lent_audit : List ℤ → Head → List Row → List ℕ → List ℕ → AuditCall
lent_audit series head rows left right = record { series = series; index = lent head rows left right }

-- 02, item 1: the same against the part of the series that the index covers
abbrev pub covered_audit : List ℤ → Head → List Row → List ℕ → List ℕ → AuditCall
covered_audit series head rows left right = lent_audit (covered (lent head rows left right) series) head rows left right

-- the refusals, in order; `most` is the most values that the call takes
unfoldable pub audit_table : ℕ → AuditCall → List Condition
audit_table most c =
    series_lines most c.series
    ++ (ill_formed c.index
    ∷ count_lines (length c.series) c.index)

-- where none is filed wrongly: yes, or how many windows stand nowhere
unfoldable pub complete : ℕ → Audited
complete zero = Audited.Yes
complete (suc n) = Audited.Missing (suc n)

-- what an audit that is not refused says
unfoldable pub audited : AuditCall → Audited
audited c = elim (first_wrong c.index c.series) [ Some x ↦ Audited.Wrong x.0 x.1 | None ↦ complete (missing c.index) ]

unfoldable pub audit_answer : AuditCall → AuditAnswer
audit_answer c = elim (first_refusal (audit_table most_values c)) [ Some r ↦ Err (refusal r) | None ↦ Ok (audited c) ]

-- the first row and offset filed wrongly, of an audit that nothing refuses
unfoldable pub wrong_in : Option (ℕ × ℕ) → AuditCall → Option (ℕ × ℕ)
wrong_in (Some r) c = None
wrong_in None c = first_wrong c.index c.series

-- how many windows stand nowhere, of an audit that nothing refuses and that finds none filed wrongly; else 0
unfoldable pub missing_in : Option (ℕ × ℕ) → AuditCall → ℕ
missing_in (Some r) c = 0
missing_in None c = elim (first_wrong c.index c.series) [ Some x ↦ 0 | None ↦ missing c.index ]

-- the same of the entry `audit`, by its own table; the audit of two texts has another
abbrev pub audit_wrong : AuditCall → Option (ℕ × ℕ)
audit_wrong c = wrong_in (first_refusal (audit_table most_values c)) c

abbrev pub audit_missing : AuditCall → ℕ
audit_missing c = missing_in (first_refusal (audit_table most_values c)) c

-- 01, Rows: an index passes against a series exactly if the audit of the two, over lent rows, is not refused and says yes; here of any index, lent ones among them (law: `passed`)
abbrev pub Passes : Index → List ℤ → Type 0
Passes x s = audit_answer (record { series = s; index = x }) ≡ Ok Audited.Yes

-- 02, item 1: it passes against the part of the series that it covers
abbrev pub PassesCovered : Index → List ℤ → Type 0
PassesCovered x s = Passes x (covered x s)
