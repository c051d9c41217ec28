-- The audit of two texts by what they come to: the index text cannot be read (`index-unread`); the series line cannot (`line-unread`); both can (`both_read`).
use Rattle.std.specs.Prelude.{Ok, Err}
use Rattle.meaning_numbers.proofs.Prelude.{◌≡◌, refl, sym, ap, ◌∙◌, Bool, true, false, List, ◌++◌, map, Option, None, Some, ℕ, ◌+◌, ◌≤◌, arith, ℤ, pos, length, take, drop, replicate, length-replicate, length-map, sets-eq, take-append_seam}
use Rattle.meaning_curves.specs.Limits.{most_values, most_program_values, length_in}
use Rattle.meaning_rows.proofs.Judge.{between, is_within}
use Rattle.meaning_text.specs.{Form.Value, Bytes.newlines, Read.fine, Read.unfit, Read.read_text, Read.line_of, Texts.index_form, Texts.series_form}
use Rattle.meaning_entries.specs.{Answers.refusal, Refusal.first_refusal, Refusal.bad_line, Refusal.unreadable, Refusal.length_outside, Audit.AuditCall, Audit.audit_table, Audit.audited, Audit.audit_answer, Load.text_index, AuditText.text_series, AuditText.audit_text_table, AuditText.audit_text_answer}
use Rattle.numbers.specs.Narrow.{clamp}
use Rattle.text_feed.specs.Keep.{stored}
use Rattle.payout.specs.Counted.{counted_answer}
use Rattle.payout.proofs.Clamped.{clamped-answer}

module _ (x s : List ℕ) where
  pub refused-by : (p : ℕ × ℕ) → first_refusal (audit_text_table x s) ≡ Some p → audit_text_answer x s ≡ Err (refusal p)
  unfolding audit_text_answer
  refused-by p e = rw (e, audit_text_answer) refl

  index-first : (q : ℕ) → read_text index_form x ≡ unfit q → first_refusal (audit_text_table x s) ≡ Some (12, line_of x q)
  unfolding audit_text_table first_refusal unreadable bad_line
  index-first q e = let z : 0 + line_of x q ≡ line_of x q = omega arith in rw (e, bad_line, z) refl

  pub index-unread : (q : ℕ) → read_text index_form x ≡ unfit q → audit_text_answer x s ≡ Err (refusal (12, line_of x q))
  index-unread q e = refused-by (12, line_of x q) (index-first q e)

  module _ (v : Value index_form) (readable : read_text index_form x ≡ fine v) where
    line_first : (q : ℕ) → read_text series_form s ≡ unfit q → first_refusal (audit_text_table x s) ≡ Some (12, newlines x + line_of s q)
    unfolding audit_text_table first_refusal unreadable bad_line
    line_first q e = rw (readable, bad_line, e) refl

    pub line-unread : (q : ℕ) → read_text series_form s ≡ unfit q → audit_text_answer x s ≡ Err (refusal (12, newlines x + line_of s q))
    line-unread q e = refused-by (12, newlines x + line_of s q) (line_first q e)

    module _ (w : List ℤ) (read : read_text series_form s ≡ fine w) where
      abbrev call : AuditCall
      call = record { series = w; index = text_index x }

      series-is : text_series s ≡ w
      unfolding text_series
      series-is = rw (read, text_series) refl

      pub table_is : first_refusal (audit_text_table x s) ≡ first_refusal (audit_table most_program_values call)
      unfolding audit_text_table first_refusal unreadable bad_line
      table_is = rw (readable, bad_line, read, series-is) refl

      pub outside : length_in most_program_values (length w) ≡ false → first_refusal (audit_table most_program_values call) ≡ Some (1, 0)
      unfolding first_refusal audit_table length_outside
      outside e = rw e refl

      pub none-refuses : first_refusal (audit_text_table x s) ≡ None → audit_text_answer x s ≡ Ok (audited call)
      unfolding audit_text_answer
      none-refuses e = rw (e, audit_text_answer, series-is) refl

      library : length_in most_program_values (length w) ≡ true → length_in most_values (length w) ≡ true
      library e = let b = between 1 most_program_values _ e in is_within 1 most_values _ (record { is = refl; least = b.least; most = omega arith })

      inside : length_in most_program_values (length w) ≡ true → first_refusal (audit_table most_program_values call) ≡ first_refusal (audit_table most_values call)
      unfolding audit_table length_outside
      inside e = rw (e, library e) refl

      by-refusal : (o : Option (ℕ × ℕ)) → first_refusal (audit_table most_values call) ≡ o → first_refusal (audit_text_table x s) ≡ o → audit_answer call ≡ audit_text_answer x s
      unfolding audit_answer audit_text_answer
      by-refusal None e f = rw (e, audit_answer, f, audit_text_answer, series-is) refl
      by-refusal (Some p) e f = rw (e, audit_answer, f, audit_text_answer) refl

      -- the first values of a buffer that the line was read into
      values-are : (n : ℕ) → length w ≤ n → take (length w) (stored (replicate n (pos 0)) w) ≡ map clamp w
      unfolding stored
      values-are n h =
          let m = length-map w clamp in
          let z = replicate n (pos 0) in
          let k : 0 + length (map clamp w) ≤ length z = omega (arith, m, h, length-replicate n (pos 0)) in
          rw (sets-eq _ z 0 k) (ap (λ j. take j (map clamp w ++ drop (0 + length (map clamp w)) z)) (sym m) ∙ take-append_seam _ _)

      pub both_read : (buffer : List ℤ) → buffer ≡ stored (replicate 4096 (pos 0)) w → counted_answer (text_index x) buffer (length w) ≡ audit_text_answer x s
      unfolding counted_answer
      both_read buffer e = by _ refl
        where
          by : (t : Bool) → length_in most_program_values (length w) ≡ t → counted_answer (text_index x) buffer (length w) ≡ audit_text_answer x s
          by true f =
              let b = between 1 most_program_values (pos (length w)) f in
              let q : take (length w) buffer ≡ map clamp w = ap (take (length w)) e ∙ values-are 4096 b.most in
              rw (f, q) (clamped-answer (text_index x) w ∙ by-refusal (first_refusal (audit_table most_values call)) refl (table_is ∙ inside f))
          by false f = rw f (sym (refused-by (1, 0) (table_is ∙ outside f)))
