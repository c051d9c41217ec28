-- `judge_row`: after a row that does not fit there is no state, and one that fits is judged by its runs, which lie inside the run buffer.
use Rattle.std.specs.Prelude.{None}
use Rattle.std.specs.declared.option.Option.{Option}
use Rattle.meaning_numbers.proofs.Prelude.{◌≡◌, sym, ◌∙◌, ap, Bool, true, false, ◌&&◌, [], ℕ, ◌+◌, ◌-◌, List, take, drop, min, arith, pos, length, rules}
use Rattle.meaning_rows.specs.{declared.Head.Head, declared.Row.Row, Index.Index, Index.lent, Index.entries, Judge.range_good, Judge.part_good}
use Rattle.meaning_rows.proofs.Grown.{length-entries}
use Rattle.rows_judge.specs.{declared.RowsJudged.RowsJudged, Judging.room, Judging.fits, Judging.scan, Judging.after, Judging.next}
use Rattle.rows_judge.proofs as own
use own.Next.{fitting, next-bad, next_fits}
use Rattle.rows_judge.proofs.judge_row.Goals as goal

module _ (head : Head) (s : RowsJudged) (r : Row) (left right : List ℕ) where
  -- the index as far as a row needs it
  abbrev index : Index
  index = lent head [] left right

  -- what the code tests is that the row fits
  fit : {n : ℕ} {b : Bool} → n ≡ min (length left) (length right) → b ≡ fits (lent head [] [] []) s r n → b ≡ fitting index s r
  unfolding range_good part_good
  fit e f = f ∙ ap (λ n. range_good index s.least r && room n s.first r) (e ∙ sym (length-entries left right))

  not_fit : {n : ℕ} {b : Bool} → n ≡ min (length left) (length right) → b ≡ fits (lent head [] [] []) s r n → b ≡ false → None ≡ next index s r
  not_fit e f g = sym (next-bad index s r (sym (fit e f) ∙ g))

  by_runs : {n : ℕ} {b : Bool} {o : Option ℕ} → n ≡ min (length left) (length right) → b ≡ fits (lent head [] [] []) s r n → b ≡ true
      → scan (pos head.windows) (pos 0) 0 (take (r.first + r.runs - r.first) (drop r.first (entries left right))) ≡ o → after head.windows s r o ≡ next index s r
  by_runs e f g h =
      let n : r.first + r.runs - r.first ≡ r.runs = omega arith in
      ap (after head.windows s r) (sym (rw n at h)) ∙ sym (next_fits index s r (sym (fit e f) ∙ g))

pub returns-then-not-row_fits : goal.returns-then-not-row_fits
returns-then-not-row_fits c = not_fit c.args.head c.args.s c.args.r c.args.left.now c.args.right.now (search rules) c.row_fits.ensures c.if-not-row_fits.true

pub returns-in_err-total : goal.returns-in_err-total
returns-in_err-total c =
    let e : c.from_residual.result ≡ None = search rules in
    e ∙ by_runs c.args.head c.args.s c.args.r c.args.left.now c.args.right.now (search rules) c.row_fits.ensures c.if-not-row_fits.false (sym c.judge_runs.ensures ∙ c.in_err-total.was)

pub returns : goal.returns
returns c =
    c.after_row.ensures
    ∙ by_runs c.args.head c.args.s c.args.r c.args.left.now c.args.right.now (search rules) c.row_fits.ensures c.if-not-row_fits.false (sym c.judge_runs.ensures ∙ c.in_ok-total.was)
