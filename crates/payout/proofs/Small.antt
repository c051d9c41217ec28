-- The number of an answer fits 64 bits (`number_small`): a line of an index text has at least 8 bytes but the last, a series line is one line, and rows and offsets are no more than windows.
use Rattle.std.specs.Prelude.{Ok, Err}
use Rattle.meaning_numbers.proofs.Member.{All}
use Rattle.meaning_numbers.proofs.Prelude.{◌≡◌, refl, sym, ap, ◌∙◌, Bool, true, false, not, cond, List, [], ◌∷◌, ◌++◌, append-nil, ⊎_elim, Option, None, Some, ℕ, zero, suc, ◌+◌, ◌*◌, ◌<◌, ◌≤◌, ◌^◌, arith, eqb, ltb, ℤ, pos, negsuc, nat_abs, length, get_or, take, length-take-le, lt_z, ne_eqb, ltb-true}
use Rattle.meaning_curves.specs.Limits.{most_values, most_program_values, length_in, lowest_end, first_outside}
use Rattle.meaning_rows.specs.{Index.zero_row, Index.Index, Judge.first_bad_row, Audit.first_wrong, declared.Row.Row}
use Rattle.meaning_rows.proofs.Audit.{first-wrong, missing-are}
use Rattle.meaning_rows.proofs.Judge.{GoodRows, between, runs-lengths, well-formed, first-bad, rows-at-most, row_at, stands-below}
use Rattle.meaning_text.specs.{Bytes.bytes, Bytes.newlines, Number.spellℕ, Number.spellℤ, Form.Value, Form.spell_many, Form.spell, Read.Verdict, Read.fine, Read.unfit, Read.read_text, Read.line_of, Texts.index_form, Texts.series_form}
use Rattle.meaning_text.proofs.{Reading.on-flag, Number.spell-one, Number.spell-more, Number.by_digits, Texts.index-laws, Texts.series-laws, Lines.newlines-append, Lines.index-lines, Lines.bad-line}
use Rattle.meaning_entries.specs.Refusal.{Condition, first_refusal, length_outside, value_outside, ill_formed, windows_of, fewer_windows, more_windows}
use Rattle.meaning_entries.specs.{Answers.refusal, Audit.AuditCall, Audit.audit_table, Audit.complete, Audit.audited, Load.text_index, AuditText.pack_refusal, AuditText.pack, AuditText.audit_text_answer}
use Rattle.meaning_entries.proofs.Refused.{First, here, later, is-passed, is-first, open_lines, passed-line}
use Rattle.text_feed.specs.Keep.{leading}
use Rattle.text_feed.proofs.Keep.{leading-outside}
use Rattle.payout.proofs.Texts.{refused-by, index-unread, line-unread, table_is, outside, none-refuses}

-- ---- a series line is one line

digits-none : (n : ℕ) → newlines (spellℕ n) ≡ 0
unfolding newlines
digits-none =
    by_digits (λ n. newlines (spellℕ n) ≡ 0)
    (λ d l. rw (spell-one d l, ne_eqb (48 + d) 10 (λ e. omega arith)) refl)
    (λ m d h l i. rw (spell-more m d h l, newlines-append (spellℕ m) ((48 + d) ∷ []), i, ne_eqb (48 + d) 10 (λ e. omega arith)) refl)

number-none : (z : ℤ) → newlines (spellℤ z) ≡ 0
unfolding newlines spellℤ
number-none (pos n) = digits-none n
number-none (negsuc n) = digits-none (suc n)

values-none : (one : ℤ → List ℕ) → ((z : ℤ) → newlines (one z) ≡ 0) → (l : List ℤ) → newlines (spell_many one l) ≡ 0
unfolding spell_many newlines
values-none one h [] = refl
values-none one h (z ∷ l) = omega (arith, newlines-append (one z) (spell_many one l), h z, values-none one h l)

series-one : (w : List ℤ) → newlines (spell series_form w) ≡ 1
unfolding spell newlines bytes
series-one w =
    let one : ℤ → List ℕ = λ z. bytes " " ++ spellℤ z in
    let v = values-none one (λ z. omega (arith, newlines-append (bytes " ") (spellℤ z), number-none z)) w in
    omega (arith, newlines-append (spell_many one w) (bytes ")\n"), v)

-- the bad line of a series line
line-two : (s : List ℕ) (q : ℕ) → read_text series_form s ≡ unfit q → line_of s q ≤ 2
unfolding line_of
line-two s q e =
    let b = (series-laws.first-bad s q e).viable in
    omega (arith, series-one b.1, newlines-append (take q s) b.0, ap newlines b.3)

-- the lines of an index text
index-few : (x : List ℕ) (v : Value index_form) → read_text index_form x ≡ fine v → newlines x * 8 ≤ length x
index-few x v e = let o = index-laws.reads_only x v e in index-lines x ([], v, o.0, append-nil x ∙ o.1)

-- ---- rows and offsets

rows_few : (x : Index) (least : ℤ) (first taken : ℕ) (l : List Row) → taken ≤ nat_abs x.windows → GoodRows x least first taken l → taken + length l ≤ nat_abs x.windows
unfolding GoodRows
rows_few x least first taken [] h g = omega arith
rows_few x least first taken (r ∷ l) h g =
    let n = g.0 in
    omega (arith, rows_few x r.up _ _ l n.total g.1, runs-lengths x r n.row, n.row.some-run)

bad-row-few : (x : Index) (k : ℕ) → first_bad_row x ≡ Some k → k ≤ most_values
bad-row-few x k e = ⊎_elim
    (λ z. omega (arith, z.0))
    (λ b. omega (arith, rows_few x lowest_end 0 0 _ (omega arith) b.before, length-take-le k x.rows (omega (arith, b.is-row)), b.head.windows.most))
    (first-bad x k e)

-- ---- refusals

-- a line of a table with a small number and small places
abbrev SmallLine : Condition → Type 0
SmallLine c = (c.number < 32) × ((p : ℕ) → c.place ≡ Some p → p ≤ most_values)

first_small : {l : List Condition} {n p : ℕ} → All SmallLine l → First l n p → (n < 32) × (p ≤ most_values)
unfolding All
first_small {p = p} a (here e) = (a.0.0, a.0.1 p e)
first_small a (later e f) = first_small a.1 f

none-some : {A : Type 0} {n : ℕ} → None ≡ Some n → A
none-some e = let z : ◌≡◌ {A = ℕ} 0 1 = cc in absurd (omega arith)

some_same : {m n : ℕ} → Some m ≡ Some n → m ≡ n
some_same e = cc

zero-place : (t : Bool) (p : ℕ) → cond t (Some 0) None ≡ Some p → p ≤ most_values
zero-place true p e = omega (arith, some_same e)
zero-place false p e = none-some e

outside-few : (s : List ℤ) (k : ℕ) → length s ≤ most_program_values → first_outside s ≡ Some k → k ≤ most_values
outside-few s k h e =
    let q = sym (leading-outside s) ∙ e in
    on-flag (ltb (leading s) (length s))
    (λ t. omega (arith, some_same (rw t at q), ltb-true (leading s) (length s) t, h))
    (λ t. none-some (rw t at q))

-- a refusal's number
small-refusal : (n p : ℕ) → n < 32 → p ≤ most_values → pack_refusal n p < 2 ^ 64
unfolding pack_refusal
small-refusal n p a b = on-flag (eqb n 12) (λ e. rw (e, pack_refusal) (omega arith)) (λ e. rw (e, pack_refusal) (omega arith))

-- ---- answers

small-complete : (m : ℕ) → m ≤ most_values → pack (Ok (complete m)) < 2 ^ 64
unfolding complete pack
small-complete zero h = omega arith
small-complete (suc m) h = omega arith

module _ (c : AuditCall) where
  abbrev table : List Condition
  table = audit_table most_program_values c

  long-line : SmallLine (length_outside most_program_values (length c.series))
  unfolding length_outside
  long-line = (omega arith, zero-place (not (length_in most_program_values (length c.series))))

  value_line : length c.series ≤ most_program_values → SmallLine (value_outside c.series)
  unfolding value_outside
  value_line h = (omega arith, λ p e. outside-few c.series p h e)

  formed-line : SmallLine (ill_formed c.index)
  unfolding ill_formed
  formed-line = (omega arith, λ p e. bad-row-few c.index p e)

  fewer-line : SmallLine (fewer_windows c.index (length c.series))
  unfolding fewer_windows
  fewer-line = (omega arith, zero-place (lt_z c.index.windows (windows_of c.index (length c.series))))

  more-line : SmallLine (more_windows c.index (length c.series))
  unfolding more_windows
  more-line = (omega arith, zero-place (lt_z (windows_of c.index (length c.series)) c.index.windows))

  lines : length c.series ≤ most_program_values → All SmallLine table
  unfolding All audit_table
  lines h = (long-line, (value_line h, (formed-line, (fewer-line, (more-line, tt)))))

  small-audited : first_bad_row c.index ≡ None → pack (Ok (audited c)) < 2 ^ 64
  unfolding audited pack
  small-audited h = by _ refl
    where
      by : (o : Option (ℕ × ℕ)) → first_wrong c.index c.series ≡ o → pack (Ok (audited c)) < 2 ^ 64
      by None e =
          let g = well-formed c.index h in
          rw (e, audited) (small-complete _ (omega (arith, missing-are c.index c.series g e, g.head.windows.most)))
      by (Some p) e =
          let g = well-formed c.index h in
          let w = first-wrong c.index c.series g zero_row p.0 p.1 e in
          let j = stands-below c.index (get_or c.index.rows p.0 zero_row) p.1 (row_at c.index g zero_row p.0 w.is-row) w.stands-there in
          rw (e, audited) (omega (arith, w.is-row, rows-at-most c.index g, j, g.head.windows.most))

-- ---- the number

module _ (x s : List ℕ) (few : length x < 2 ^ 63) where
  by-line : (p : ℕ) → audit_text_answer x s ≡ Err (refusal (12, p)) → p * 8 ≤ length x + 16 → pack (audit_text_answer x s) < 2 ^ 64
  unfolding pack pack_refusal
  by-line p e h = rw e (omega (arith, h, few))

  module _ (v : Value index_form) (readable : read_text index_form x ≡ fine v) (w : List ℤ) (read : read_text series_form s ≡ fine w) where
    abbrev call : AuditCall
    call = record { series = w; index = text_index x }

    formed : first_refusal (audit_table most_program_values call) ≡ None → first_bad_row (text_index x) ≡ None
    unfolding open_lines audit_table
    formed e = passed-line (is-passed (audit_table most_program_values call) e) 20

    by_length : (t : Bool) → length_in most_program_values (length w) ≡ t → (o : Option (ℕ × ℕ)) → first_refusal (audit_table most_program_values call) ≡ o → pack (audit_text_answer x s) < 2 ^ 64
    unfolding pack
    by_length false e o f = rw (refused-by x s (1, 0) (table_is x s v readable w read ∙ outside x s v readable w read e)) (small-refusal 1 0 (omega arith) (omega arith))
    by_length true e None f = rw (none-refuses x s v readable w read (table_is x s v readable w read ∙ f)) (small-audited call (formed f))
    by_length true e (Some p) f =
        let b = between 1 most_program_values (pos (length w)) e in
        let k = first_small (lines call b.most) (is-first (audit_table most_program_values call) p.0 p.1 f) in
        rw (refused-by x s p (table_is x s v readable w read ∙ f)) (small-refusal p.0 p.1 k.0 k.1)

  small_by : (a : Verdict (Value index_form)) (b : Verdict (List ℤ)) → read_text index_form x ≡ a → read_text series_form s ≡ b → pack (audit_text_answer x s) < 2 ^ 64
  small_by (unfit q) b e f = by-line (line_of x q) (index-unread x s q e) (omega (arith, bad-line index_form index-lines x q (index-laws.first-bad x q e)))
  small_by (fine v) (unfit q) e f = by-line (newlines x + line_of s q) (line-unread x s v e q f) (omega (arith, index-few x v e, line-two s q f))
  small_by (fine v) (fine w) e f = by_length v e w f (length_in most_program_values (length w)) refl (first_refusal (audit_table most_program_values (record { series = w; index = text_index x }))) refl

  pub number_small : pack (audit_text_answer x s) < 2 ^ 64
  number_small = small_by _ (read_text series_form s) refl refl
