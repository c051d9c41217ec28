-- What it says that an index passes against a series (`passed`): it is well formed, it has n - w + 1 windows, and each stands in the row that holds its sum and in no other; and back (`passes`). So every window of an index that passes against the part of a series that it covers can be reached by the filter (`passes-reached`), and on a yes the run lengths total the windows (`passes-total`).
use Rattle.std.specs.Prelude.{Ok, Err}
use Rattle.meaning_numbers.proofs.Prelude.{◌≡◌, refl, List, Option, None, Some, ℕ, zero, suc, ◌+◌, ◌-◌, arith, T, ℤ, pos, nat_abs, ◌-ℤ◌, length, take_all, ◌≤ℤ◌, zarith, z-add, z-sub}
use Rattle.meaning_curves.specs.Limits.{most_values, length_in, first_outside}
use Rattle.meaning_rows.specs.{Index.Index, Index.covered, Audit.first_wrong, Audit.missing, Judge.length_total}
use Rattle.meaning_rows.proofs.{Judge.WellFormed, Judge.none-bad, Audit.Filed, Audit.audit-yes, Audit.filed-passes, Audit.yes-total}
use Rattle.meaning_filter.proofs.Candidates.{Reached, filed-reached}
use Rattle.meaning_entries.specs.{declared.Audited.Audited, Answers.AuditAnswer, Refusal.first_refusal, Refusal.ill_formed, Refusal.windows_of, Audit.AuditCall, Audit.audit_table, Audit.complete, Audit.audited, Audit.audit_answer, Audit.Passes, Audit.PassesCovered}
use Rattle.meaning_entries.proofs.Refused.{more, passed_is, passed-join, is-passed, open_lines, passed-line}
use Rattle.meaning_entries.proofs.Lines.{formed-line, fewer-line, more-line, series-passes, count-passes}

-- yes is said where nothing refuses, nothing is filed wrongly and nothing is missing
record Yes (c : AuditCall) : Type 0 where
  free : first_refusal (audit_table most_values c) ≡ None
  right : first_wrong c.index c.series ≡ None
  full : missing c.index ≡ 0

complete-yes : (n : ℕ) → complete n ≡ Audited.Yes → n ≡ 0
unfolding complete
complete-yes zero e = refl
complete-yes (suc n) e = let z : ◌≡◌ {A = ℕ} 0 1 = cc in absurd (omega arith)

yes-right : (c : AuditCall) → first_refusal (audit_table most_values c) ≡ None → (o : Option (ℕ × ℕ)) → first_wrong c.index c.series ≡ o → audited c ≡ Audited.Yes → Yes c
unfolding audited
yes-right c free None e h = record { free = free; right = e; full = complete-yes _ (rw (e, audited) at h) }
yes-right c free (Some x) e h = let z : ◌≡◌ {A = ℕ} 0 1 = cc in absurd (omega arith)

yes-free : (c : AuditCall) (o : Option (ℕ × ℕ)) → first_refusal (audit_table most_values c) ≡ o → audit_answer c ≡ Ok Audited.Yes → Yes c
unfolding audit_answer
yes-free c None e h = let k : ◌≡◌ {A = AuditAnswer} (Ok (audited c)) (Ok Audited.Yes) = rw (e, audit_answer) at h in yes-right c e _ refl cc
yes-free c (Some r) e h = let z : ◌≡◌ {A = ℕ} 0 1 = cc in absurd (omega arith)

-- an index that passes
pub record Passed (x : Index) (s : List ℤ) : Type 0 where
  pub formed : WellFormed x
  pub windows : nat_abs x.windows + nat_abs x.window ≡ length s + 1
  pub filed : Filed x s

-- as many windows as the series has
pub same-windows : (x : Index) (s : List ℤ) → WellFormed x → windows_of x (length s) ≤ℤ x.windows → x.windows ≤ℤ windows_of x (length s) → nat_abs x.windows + nat_abs x.window ≡ length s + 1
same-windows x s g h k =
    let w : x.window ≡ pos (nat_abs x.window) = g.head.window.is in
    let n : x.windows ≡ pos (nat_abs x.windows) = g.head.windows.is in
    omega (zarith, z-add (pos (length s) -ℤ x.window) (pos 1), z-sub (pos (length s)) x.window)

pub passed : (x : Index) (s : List ℤ) → Passes x s → Passed x s
unfolding open_lines audit_table
passed x s p =
    let c : AuditCall = record { series = s; index = x } in
    let y = yes-free c _ refl p in
    let t = is-passed _ y.free in
    let g = formed-line x (passed-line t 20) in
    record {
      formed = g;
      windows = same-windows x s g (fewer-line x _ (passed-line t 21)) (more-line x _ (passed-line t 22));
      filed = audit-yes x s g y.right y.full;
    }

pub passes-reached : (x : Index) (s : List ℤ) → PassesCovered x s → Reached x s
passes-reached x s p = filed-reached x s (passed x (covered x s) p).filed

-- an index covers all of the series that it passes against
pub covers-all : (x : Index) (s : List ℤ) → nat_abs x.windows + nat_abs x.window ≡ length s + 1 → covered x s ≡ s
covers-all x s e = take_all (nat_abs x.windows + nat_abs x.window - 1) s (omega arith)

-- so what passes against a series passes against the part of it that it covers
pub passes-covered : (x : Index) (s : List ℤ) → Passes x s → PassesCovered x s
passes-covered x s p = rw (covers-all x s (passed x s p).windows) p

pub whole-reached : (x : Index) (s : List ℤ) → Passed x s → Reached x s
whole-reached x s p = filed-reached x s (rw (covers-all x s p.windows) p.filed)

pub passes-total : (x : Index) (s : List ℤ) → Passes x s → length_total x x.rows ≡ nat_abs x.windows
passes-total x s p = let y = passed x s p in yes-total x s y.formed y.filed

-- ---- and back

yes-said : (c : AuditCall) → first_refusal (audit_table most_values c) ≡ None → first_wrong c.index c.series ≡ None → missing c.index ≡ 0 → audit_answer c ≡ Ok Audited.Yes
unfolding audit_answer audited complete
yes-said c free right full = rw (free, audit_answer) (rw (right, audited) (rw full refl))

pub passes : (x : Index) (s : List ℤ) → T (length_in most_values (length s)) → first_outside s ≡ None → Passed x s → Passes x s
unfolding audit_table ill_formed
passes x s long values p =
    let c : AuditCall = record { series = s; index = x } in
    let f = filed-passes x s p.formed p.filed in
    let a = z-add (pos (length s) -ℤ x.window) (pos 1) in
    let b = z-sub (pos (length s)) x.window in
    yes-said c
    (passed_is (passed-join (series-passes most_values s long values) (more (none-bad x p.formed) (count-passes _ x (omega (zarith, a, b)) (omega (zarith, a, b))))))
    f.0 f.1
