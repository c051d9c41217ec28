-- The answer by what the code came to: the index text's first bad byte (`index-stopped`), the series line's (`line-stopped`), or how many values the line has and what stands in the buffer (`line-counted`).
use Rattle.std.specs.Prelude.{Ok, Err}
use Rattle.meaning_numbers.proofs.Prelude.{◌≡◌, refl, sym, ap, ◌∙◌, true, false, List, ℕ, suc, ◌+◌, ◌-◌, ◌≤◌, arith, ℤ, pos, length, take, replicate, length-take, take_all}
use Rattle.meaning_curves.specs.Limits.{most_program_values, length_in}
use Rattle.meaning_rows.specs.{declared.Head.Head, Index.Index}
use Rattle.meaning_text.specs.{Bytes.newlines, Form.Value, Read.Verdict, Read.fine, Read.unfit, Read.read_text, Read.line_of, Texts.index_form, Texts.series_form}
use Rattle.meaning_text.proofs.Lines.{newlines-length}
use Rattle.meaning_entries.specs.{Answers.refusal, Audit.audit_answer, Load.text_index, AuditText.audit_text_answer}
use Rattle.text_judge.specs.{declared.Rows.Rows, Tally.scanned}
use Rattle.payout_line.specs.{Line.line_read, Line.Stored}
use Rattle.payout.specs.Counted.{counted_answer}
use Rattle.payout.proofs.Texts.{index-unread, line-unread, both_read}

-- ---- lines

pub line-most : (t : List ℕ) (n : ℕ) → line_of t n ≤ suc (length t)
unfolding line_of
line-most t n = omega (arith, newlines-length (take n t), length-take n t)

pub last_line : (t : List ℕ) → line_of t (length t) - 1 ≡ newlines t
unfolding line_of
last_line t = rw (take_all (length t) t (omega arith)) (omega arith)

-- ---- the series of n values

pub counted-outside : (x : Index) (values : List ℤ) (n : ℕ) → length_in most_program_values n ≡ false → Err (refusal (1, 0)) ≡ counted_answer x values n
unfolding counted_answer
counted-outside x values n e = rw e refl

pub counted-inside : (x : Index) (values : List ℤ) (n : ℕ) → length_in most_program_values n ≡ true → audit_answer (record { series = take n values; index = x }) ≡ counted_answer x values n
unfolding counted_answer
counted-inside x values n e = rw e refl

-- ---- the texts

module _ (x s : List ℕ) where
  pub index-stopped : (q : ℕ) → Err q ≡ scanned (read_text index_form x) → Err (refusal (12, line_of x q)) ≡ audit_text_answer x s
  index-stopped q came = by _ refl
    where
      by : (v : Verdict (Value index_form)) → read_text index_form x ≡ v → Err (refusal (12, line_of x q)) ≡ audit_text_answer x s
      by (fine v) e = let f = came ∙ ap scanned e in let z : ◌≡◌ {A = ℕ} 0 1 = cc in absurd (omega arith)
      by (unfit p) e = let z : q ≡ p = cc in ap (λ k. Err (refusal (12, line_of x k))) z ∙ sym (index-unread x s p e)

  module _ (h : Head) (c : Rows) (came : Ok (h, c) ≡ scanned (read_text index_form x)) where
    record Readable : Type 0 where
      value : Value index_form
      read : read_text index_form x ≡ fine value

    readable : Readable
    readable = by _ refl
      where
        by : (v : Verdict (Value index_form)) → read_text index_form x ≡ v → Readable
        by (fine v) e = record { value = v; read = e }
        by (unfit p) e = let f = came ∙ ap scanned e in let z : ◌≡◌ {A = ℕ} 0 1 = cc in absurd (omega arith)

    pub line-stopped : (q : ℕ) → Err q ≡ line_read (read_text series_form s) → Err (refusal (12, newlines x + line_of s q)) ≡ audit_text_answer x s
    line-stopped q l = by _ refl
      where
        by : (w : Verdict (List ℤ)) → read_text series_form s ≡ w → Err (refusal (12, newlines x + line_of s q)) ≡ audit_text_answer x s
        by (fine w) e = let f = l ∙ ap line_read e in let z : ◌≡◌ {A = ℕ} 0 1 = cc in absurd (omega arith)
        by (unfit p) e =
            let f : Err q ≡ Err p = l ∙ ap line_read e in
            let z : q ≡ p = cc in
            ap (λ (k : ℕ). Err (refusal (12, newlines x + line_of s k))) z ∙ sym (line-unread x s readable.value readable.read p e)

    pub line-counted : (n : ℕ) (buffer : List ℤ) → Ok n ≡ line_read (read_text series_form s) → Stored s (replicate 4096 (pos 0)) buffer → counted_answer (text_index x) buffer n ≡ audit_text_answer x s
    unfolding Stored
    line-counted n buffer l k = by (read_text series_form s) refl
      where
        by : (w : Verdict (List ℤ)) → read_text series_form s ≡ w → counted_answer (text_index x) buffer n ≡ audit_text_answer x s
        by (fine w) e =
            let f : Ok n ≡ Ok (length w) = l ∙ ap line_read e in
            let z : n ≡ length w = cc in
            ap (counted_answer (text_index x) buffer) z ∙ both_read x s readable.value readable.read w e buffer (k w e)
        by (unfit p) e = let f = l ∙ ap line_read e in let z : ◌≡◌ {A = ℕ} 0 1 = cc in absurd (omega arith)
