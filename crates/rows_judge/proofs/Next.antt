-- One row more: after a row that does not fit there is no state (`next-bad`), and one that fits is judged by its runs (`next_fits`).
use Rattle.meaning_numbers.proofs.Prelude.{◌≡◌, refl, sym, ◌∙◌, ap, false≢true, Bool, true, false, cond, ◌&&◌, ℕ, ◌+◌, ◌≤◌, arith, leb, pos, nat_abs, length, leb-true, eqb-true, both}
use Rattle.meaning_rows.specs.{declared.Row.Row, Index.Index, Index.runs_of, Judge.runs_good, Judge.run_lengths, Judge.range_good, Judge.part_good, Judge.row_good}
use Rattle.rows_judge.specs.declared.RowsJudged.{RowsJudged}
use Rattle.rows_judge.specs.Judging.{moved, scan, after, next}
use Rattle.std.specs.Prelude.{None, Some}

all-three : (a b c : Bool) → (a && b) ≡ true → (a && (b && c)) ≡ c
all-three true true c e = refl
all-three true false c e = absurd (false≢true e)
all-three false b c e = absurd (false≢true e)

not-both : (a b c : Bool) → (a && b) ≡ false → (a && (b && c)) ≡ false
not-both true true c e = absurd (false≢true (sym e))
not-both true false c e = refl
not-both false b c e = refl

module _ (x : Index) (s : RowsJudged) (r : Row) where
  -- everything of a row but its runs
  abbrev pub fitting : Bool
  fitting = range_good x s.least r && part_good x s.first r

  -- a row that fits has its runs inside the run buffer, and they begin where the row before ends
  pub fits-room : fitting ≡ true → (r.first ≡ s.first) × (r.first + r.runs ≤ length x.runs)
  unfolding part_good
  fits-room e =
      let b = both (range_good x _ r) _ e in
      let c = both (leb 1 r.runs) _ b.1 in
      let d = both _ _ c.1 in
      (eqb-true _ _ d.0, leb-true _ _ d.1)

  pub next-bad : fitting ≡ false → next x s r ≡ None
  unfolding next row_good
  next-bad e =
      ap (λ t. cond t (Some (moved s r (run_lengths (runs_of x r)))) None)
      (not-both (range_good x _ r) (part_good x _ r) (runs_good _ (pos 0) _ && leb (s.taken + run_lengths (runs_of x r)) (nat_abs x.windows)) e)

  -- the run lengths count only where the runs are good
  by_runs : (t : Bool) (l w : ℕ) → cond (t && leb (s.taken + l) w) (Some (moved s r l)) None ≡ after w s r (cond t (Some (0 + l)) None)
  by_runs true l w = let e : 0 + l ≡ l = omega arith in rw e refl
  by_runs false l w = refl

  pub next_fits : fitting ≡ true → next x s r ≡ after (nat_abs x.windows) s r (scan x.windows (pos 0) 0 (runs_of x r))
  unfolding next row_good scan
  next_fits e =
      ap (λ t. cond t (Some (moved s r (run_lengths (runs_of x r)))) None)
      (all-three (range_good x _ r) _ _ e)
      ∙ by_runs (runs_good _ (pos 0) _) (run_lengths _) (nat_abs x.windows)
