-- Where all rows of an index text are good, the run lengths that judging added up are those of its index (`rows_taken`).
use Rattle.meaning_numbers.proofs.Prelude.{ℕ, ◌+◌, ◌≤◌, nat_abs, pos, true, false≢true, List, [], ◌∷◌, map, ◌≡◌, refl, sym, ap, ◌∙◌, arith}
use Rattle.meaning_rows.specs.{declared.Head.Head, Index.Index, Index.lent, Index.records, Judge.head_good, Judge.run_lengths, Judge.length_total}
use Rattle.meaning_rows.proofs.Laid.{Lays, laid}
use Rattle.meaning_text.specs.{Form.Value, Texts.index_form, Texts.row_form, Texts.row_said, Texts.index_said}
use Rattle.meaning_text.proofs.Reading.{on-flag}
use Rattle.text_judge.specs.{declared.Runs.Runs, declared.Rows.Rows, Tally.no_rows, Tally.row_next, Tally.rows_from, Tally.head_held}
use Rattle.text_judge.proofs.Bad.{tallied, next-is, next-off, head-is, width_is, windows-is}

module _ (h : Head) (x : Index) (width : nat_abs x.width ≡ h.width) (windows : x.windows ≡ pos h.windows) (most : h.windows ≤ 4294967295) where
  abbrev runs-in : Value row_form → Runs
  runs-in r = tallied h x width windows most r

  taken-from : (l : List (Value row_form)) (c : Rows) → c.good ≡ true → Lays x.runs c.runs (map row_said l) → (rows_from h c l).good ≡ true
      → (rows_from h c l).taken ≡ c.taken + length_total x (records c.runs (map row_said l))
  unfolding rows_from records length_total Lays
  taken-from [] c g s e = omega arith
  taken-from (r ∷ l) c g s e =
      on-flag _
      (λ t.
      let i = next-is h x width windows most c r g t in
      let n = row_next h c _ _ (runs-in r) in
      let more = map row_said l in
      let j = taken-from l n i.good (rw i.runs s.2) e in
      let d = ap (λ (k : ℕ). length_total x (records k more)) i.runs in
      let q = ap run_lengths s.1 in
      omega (arith, j, d, q))
      (λ t. absurd (false≢true (sym (next-off h x width windows most c r l t).0 ∙ e)))

pub rows_taken : (v : Value index_form) → head_good (lent (head_held v) [] [] []) ≡ true → (rows_from (head_held v) no_rows v.1.1.1).good ≡ true
    → (rows_from (head_held v) no_rows v.1.1.1).taken ≡ length_total (index_said v) (index_said v).rows
unfolding index_said
rows_taken v head good =
    let i = head-is v head in
    let q = taken-from _ (index_said v) (width_is v i) (windows-is v i) (omega arith) _ no_rows refl (laid _) good in
    omega (arith, q)
