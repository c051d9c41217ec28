-- The entry keeps its promise: what it answers, and what it leaves in the text, by the first refusal.
use Rattle.std.specs.Prelude.{Ok, Err}
use Rattle.std.specs.declared.result.Result.{Result}
use Rattle.meaning_numbers.proofs.Prelude.{◌≡◌, refl, sym, ap, ◌∙◌, List, ℕ, ◌≤◌, arith, ltb, length, sets-eq, length-sets, take-append-le, take-length, lt-ltb, le-ltb, ltb-true, ltb-false, by-test}
use Rattle.meaning_rows.specs.Index.{Index}
use Rattle.meaning_text.specs.Texts.{index_text}
use Rattle.meaning_entries.specs.{declared.Refusal.Refusal, Refusal.buffer_short, Buffers.filled, Write.write_table, Write.write_answer, Write.write_after, Demand2.WriteKept}
use Rattle.meaning_entries.proofs.{Refused.AllPass, Refused.passed_is, Refused.open_lines, Refused.passed-line, Lines.room-line, Demand2.write_kept}
use Rattle.clear.specs.Clear.{cleared_to}
use Rattle.rows_judge.specs.Judged.{Judged, judged_of, bad-row}
use Rattle.refusals.specs.Refusal.{verdict, judged-line, passes, refuses}
use Rattle.text_count.specs.Count.{Counted}
use Rattle.entry_write.specs.{Spell.spelled, Answer.table_of}

-- a text with room, and zeros behind it
whole : (l text : List ℕ) → length l ≤ length text → spelled l text ≡ filled 0 l text
unfolding cleared_to filled
whole l text h = rw (length-sets text 0 l, sets-eq l text 0 (omega arith), take-append-le (length l) l _ (omega arith), take-length l)

-- ---- at the two returns

module _ (x : Index) (text : List ℕ) {j : Judged} {n : ℕ} {v : Result (Unit {0}) Refusal} (judged : j ≡ judged_of x) (count : Counted (length text) 0 (index_text x) n) (told : v ≡ verdict (table_of j n (length text))) where
  table_is : table_of j n (length text) ≡ write_table x text
  unfolding table_of write_table buffer_short
  table_is = rw (judged, judged-line x _ (bad-row x), same) refl
    where
      same : ltb (length text) n ≡ ltb (length text) (length (index_text x))
      same = by-test _
          (λ t. t ∙ sym (lt-ltb _ (length (index_text x)) (omega (arith, count.ends, ltb-true (length text) n t))))
          (λ f. f ∙ sym (le-ltb (length text) (length (index_text x)) (omega (arith, count.ends, ltb-false (length text) n f))))

  is : v ≡ verdict (write_table x text)
  is = told ∙ ap verdict table_is

  -- a refused call leaves the text as it was
  pub kept-refused : {r : Refusal} → v ≡ Err r → WriteKept x text (Err r) text
  unfolding write_answer write_after
  kept-refused {r} h =
      let e = refuses (write_table x text) is h in
      write_kept x text (Err r) text (rw (write_answer, e) refl) (rw (write_after, e) refl)

  module _ (z : v ≡ Ok tt) where
    passed : AllPass (write_table x text)
    passed = passes _ is z

    fits : length (index_text x) ≤ length text
    unfolding open_lines write_table
    fits = room-line _ (length (index_text x)) (passed-line passed 23)

    pub kept-written : {new : List ℕ} → new ≡ spelled (index_text x) text → WriteKept x text (Ok n) new
    unfolding write_answer write_after
    kept-written {new} d =
        let e = passed_is passed in
        let m : n ≡ length (index_text x) = omega (arith, fits, count.ends) in
        write_kept x text (Ok n) new (rw (write_answer, e, m) refl) (rw (write_after, e) (d ∙ whole (index_text x) text fits))
