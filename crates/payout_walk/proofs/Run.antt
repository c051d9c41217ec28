-- A run audited as a row of one run: what the audit of a chunk asks holds (`run-ready`), and what is filed wrongly first afterwards, by what was found before and by the test of the run's ends.
use Rattle.std.specs.Prelude.{is_some}
use Rattle.meaning_numbers.proofs.Prelude.{◌≡◌, refl, sym, subst, clash, ◌∙◌, Bool, true, false, ◌&&◌, List, [], ◌∷◌, Option, None, Some, ℕ, zero, suc, ◌+◌, ◌<◌, ◌≤◌, ◌^◌, arith, leb, ℤ, length, get_or, replicate, get_or-replicate, get_or-set_other, leb-true, both}
use Rattle.meaning_rows.specs.{declared.Row.Row, declared.Head.Head}
use Rattle.rows_records.specs.Records.{zero_row}
use Rattle.entry_audit.specs.Auditing.{Reads, Ready, wrong_of}
use Rattle.entry_audit.proofs.Chunks.{or_else}
use Rattle.payout_walk.specs.{declared.Walk.Walk, Walk.Sized, Walk.one_run, Walk.after_run}

pub none-of : (o : Option (ℕ × ℕ)) → is_some o ≡ false → o ≡ None
none-of None e = refl
none-of (Some p) e = clash refl e

pub some-of : (o : Option (ℕ × ℕ)) → is_some o ≡ true → (p : ℕ × ℕ) × (o ≡ Some p)
some-of None e = clash e refl
some-of (Some p) e = (p, refl)

one-reads : (n w l r : ℕ) (low up : ℤ) → l ≤ r → r + w ≤ n → (k : ℕ) → k < 64 → Reads n w (l ∷ []) (r ∷ []) (get_or (one_run low up) k zero_row)
unfolding one_run
one-reads n w l r low up a b zero h = record {
  in_left = omega arith;
  in_right = omega arith;
  upward = λ i x y. let e : i ≡ 0 = omega arith in rw e a;
  inside = λ i x y. let e : i ≡ 0 = omega arith in rw e b;
}
one-reads n w l r low up a b (suc k) h =
    let x : Row = record { low = low; up = up; first = 0; runs = 1 } in
    let e = get_or-set_other (replicate 64 zero_row) 0 (suc k) x zero_row (λ z. omega arith) ∙ get_or-replicate 64 (suc k) zero_row zero_row h in
    subst (Reads n w _ _) (sym e) (record { in_left = omega arith; in_right = omega arith; upward = λ i p q. absurd (omega arith); inside = λ i p q. absurd (omega arith) })

module _ (series : List ℤ) (h : Head) (t : Walk) (r : ℕ) where
  -- the run's windows lie in the series
  abbrev fits : Bool
  fits = leb t.left r && leb (r + h.window) (length series)

  pub run-ready : Sized series h → t.rows < 2 ^ 63 → fits ≡ true → Ready series h (t.left ∷ []) (r ∷ []) (one_run t.low t.up) t.rows
  unfolding one_run
  run-ready z f e =
      let a = both _ _ e in
      record {
        values = z.values;
        least = z.least;
        window = z.window;
        far = omega (arith, f);
        size = refl;
        rows = λ k b. one-reads _ _ _ r _ t.up (leb-true _ r a.0) (leb-true _ _ a.1) k b;
      }

  pub run-found : is_some t.found ≡ true → t.found ≡ after_run series h t r
  unfolding after_run or_else
  run-found e = let p = some-of t.found e in rw p.1 refl

  pub run-off : is_some t.found ≡ false → fits ≡ false → None ≡ after_run series h t r
  unfolding after_run or_else
  run-off n e = rw (none-of t.found n, e) refl

  pub run_on : is_some t.found ≡ false → fits ≡ true → wrong_of series h.window (t.left ∷ []) (r ∷ []) t.rows (one_run t.low t.up) ≡ after_run series h t r
  unfolding after_run or_else
  run_on n e = rw (none-of t.found n, e) refl
