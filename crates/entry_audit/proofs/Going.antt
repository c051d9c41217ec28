-- The loop over the chunks of an audit: what is filed wrongly first from here on is what is filed wrongly first (`Going`). How it starts, moves, stops and ends.
use Rattle.std.specs.Prelude.{Ok, Err, is_some}
use Rattle.meaning_numbers.proofs.Prelude.{◌≡◌, refl, sym, ap, subst, clash, ◌∙◌, true, false, List, Option, None, Some, ℕ, ◌+◌, ◌-◌, ◌<◌, ◌≤◌, ◌*◌, ◌^◌, arith, ℤ, length, drop, drop_of_length-le}
use Rattle.meaning_curves.specs.Limits.{most_values}
use Rattle.meaning_rows.specs.{declared.Row.Row, declared.Head.Head, Index.Index, Index.lent, Judge.length_total, Audit.first_wrong, Audit.wrong_from}
use Rattle.meaning_rows.proofs.{Judge.WellFormed, Judge.none-bad, Audit.missing-are}
use Rattle.meaning_entries.specs.{declared.Refusal.Refusal, Answers.AuditAnswer, Refusal.fewer_windows, Refusal.more_windows, Audit.AuditCall, Audit.lent_audit, Audit.audit_table, Demand2.AuditKept}
use Rattle.meaning_entries.proofs.Demand2.{audit-kept}
use Rattle.rows_records.specs.Records.{chunk_of}
use Rattle.rows_records.proofs.Chunk.{chunk-length}
use Rattle.rows_judge.specs.Judged.{outcome, judged_of, bad-row}
use Rattle.rows_judge.proofs.Outcome.{judged-by}
use Rattle.refusals.specs.Refusal.{verdict, judged-line}
use Rattle.entry_audit.specs.{Auditing.Ready, Auditing.wrong_of, Plan.table_of, Plan.left_over, Plan.plan_of, Plan.answer_of}
use Rattle.entry_audit.proofs.Cases.{plan-ok, plan-err, refused, values-in, formed, fits, said}
use Rattle.entry_audit.proofs.Chunks.{or_else, chunk-then, same-wrong, chunk-reads}

module _ (series : List ℤ) (h : Head) (rows : List Row) (left right : List ℕ) where
  abbrev X : Index
  X = lent h rows left right

  abbrev call : AuditCall
  call = lent_audit series h rows left right

  table_is : table_of series h (judged_of X) ≡ audit_table most_values call
  unfolding table_of audit_table fewer_windows more_windows
  table_is = rw (judged-line X (judged_of X) (bad-row X)) refl

  -- refused
  pub stopped : {r : Refusal} → plan_of series h (judged_of X) ≡ Err r → AuditKept call (Err r)
  stopped e = audit-kept call _ (refused call table_is (plan-err series h (judged_of X) e))

  -- what is filed wrongly first from row `from` on
  abbrev left-wrong : ℕ → Option (ℕ × ℕ)
  left-wrong from = wrong_of series h.window left right from (drop from rows)

  -- before chunk n
  pub record Going (n : ℕ) : Type 0 where
    pub wrong_after : left-wrong (n * 64) ≡ first_wrong X series

  pub going-starts : Going 0
  going-starts = record { wrong_after = same-wrong series h rows left right }

  -- nothing refuses
  module _ {lacking : ℕ} (p : plan_of series h (judged_of X) ≡ Ok lacking) where
    z : verdict (table_of series h (judged_of X)) ≡ Ok tt
    z = (plan-ok series h (judged_of X) p).0

    f : WellFormed X
    f = formed call table_is z

    ready : (from : ℕ) → from + 64 < 2 ^ 64 → Ready series h left right (chunk_of rows from) from
    ready from far = record {
      values = values-in call table_is z;
      least = f.head.window.least;
      window = f.head.window.most;
      far = far;
      size = chunk-length rows from;
      rows = λ k b. chunk-reads series h rows left right (fits call table_is z) f from k b;
    }

    lacking-is : left_over h (judged_of X) ≡ h.windows - length_total X rows
    unfolding outcome
    lacking-is = ap (left_over h) (judged-by X None (none-bad X f))

    pub ended : (o : Option (ℕ × ℕ)) {a : AuditAnswer} → first_wrong X series ≡ o → a ≡ Ok (answer_of lacking o) → AuditKept call a
    ended o e is-a =
        let q = (plan-ok series h (judged_of X) p).1 in
        audit-kept call _ (is-a ∙ said call table_is z lacking o e (λ n. let r = e ∙ n in sym q ∙ lacking-is ∙ omega (arith, missing-are X series f r)))

    pub going-ready : {from : ℕ} {c : List Row} → c ≡ chunk_of rows from → from + 64 < 2 ^ 64 → Ready series h left right c from
    going-ready {from} is-c far = rw is-c (ready from far)

  none-of : (o : Option (ℕ × ℕ)) → is_some o ≡ false → o ≡ None
  none-of None e = refl
  none-of (Some p) e = clash refl e

  some-of : (o : Option (ℕ × ℕ)) → is_some o ≡ true → (p : ℕ × ℕ) × (o ≡ Some p)
  some-of None e = clash e refl
  some-of (Some p) e = (p, refl)

  abbrev here-wrong : ℕ → Option (ℕ × ℕ)
  here-wrong from = wrong_of series h.window left right from (chunk_of rows from)

  none_then : (a b c : Option (ℕ × ℕ)) → or_else a b ≡ c → a ≡ None → b ≡ c
  unfolding or_else
  none_then a b c e g = let k : or_else None b ≡ c = subst (λ (u : Option (ℕ × ℕ)). or_else u b ≡ c) g e in k

  some_then : (a b c : Option (ℕ × ℕ)) (p : ℕ × ℕ) → or_else a b ≡ c → a ≡ Some p → c ≡ Some p
  unfolding or_else
  some_then a b c p e g = let k : or_else (Some p) b ≡ c = subst (λ (u : Option (ℕ × ℕ)). or_else u b ≡ c) g e in sym k

  module _ {n : ℕ} (g : Going n) {c : List Row} {o : Option (ℕ × ℕ)} (is-c : c ≡ chunk_of rows (n * 64)) (is-o : o ≡ wrong_of series h.window left right (n * 64) c) where
    here : here-wrong (n * 64) ≡ o
    here = sym (is-o ∙ ap (wrong_of series h.window left right (n * 64)) is-c)

    both : or_else (here-wrong (n * 64)) (left-wrong (n * 64 + 64)) ≡ first_wrong X series
    both = chunk-then series h.window left right rows (n * 64) ∙ g.wrong_after

    pub going-next : is_some o ≡ false → Going (n + 1)
    going-next e =
        let m : (n + 1) * 64 ≡ n * 64 + 64 = omega arith in
        record { wrong_after = rw m (none_then _ _ _ both (here ∙ none-of o e)) }

    pub going-stops : is_some o ≡ true → first_wrong X series ≡ o
    going-stops e = let p = some-of o e in some_then _ _ _ p.0 both (here ∙ p.1) ∙ sym p.1

  pub going-ends : {n : ℕ} → Going n → length rows ≤ n * 64 → first_wrong X series ≡ None
  unfolding wrong_from
  going-ends {n} g l = sym g.wrong_after ∙ rw (drop_of_length-le rows l) refl
