-- Laws of specs/Joining.
use Rattle.meaning_numbers.proofs.Prelude.{◌≡◌, ap, ◌∙◌, Bool, true, List, ℕ, ◌+◌, ◌-◌, ◌≤◌, arith, ℤ, length, set, length-drop, leb-true, by-test, clash}
use Rattle.meaning_rows.specs.declared.Row.{Row}
use Rattle.meaning_rows.proofs.Grown.{last_ends}
use Rattle.sums_slide.specs.declared.Window.{Window}
use Rattle.build_fill.proofs.Pass.{lent_from, back_at, lent_is, back-same, back-set}
use Rattle.extend_new.specs.Join.{Joinable, JoinedRun}
use Rattle.extend_rows.specs.Steps.{joins_of}
use Rattle.extend_runs.specs.Joining.{spot_of}

-- of equal numbers
pub joinable-as : {s : List ℤ} {w e : ℕ} {p : Window} {b b' : Bool} {lo lo' hi hi' spot spot' size : ℕ} → b ≡ b' → lo ≡ lo' → hi ≡ hi' → spot ≡ spot' → Joinable s w e p b' lo' hi' spot' size → Joinable s w e p b lo hi spot size
joinable-as a c d f h = rw (a, c, d, f) h

pub joined_as : {s : List ℤ} {w e : ℕ} {p t : Window} {b b' : Bool} {lo lo' hi hi' spot spot' : ℕ} {before after : List ℕ} → b ≡ b' → lo ≡ lo' → hi ≡ hi' → spot ≡ spot' → JoinedRun s w e p b lo hi spot before t after → JoinedRun s w e p b' lo' hi' spot' before t after
joined_as a c d f h = rw (← a, ← c, ← d, ← f) h

-- a row that is joined has a run
pub joins-some : (s : List ℤ) (w old : ℕ) (r : Row) (right : List ℕ) → joins_of s w old r right ≡ true → 1 ≤ r.runs
unfolding joins_of last_ends
joins-some s w old r right h = by-test _ (λ t. leb-true 1 _ t) (λ f. clash h (rw f))

-- the row's part, lent and put back
module _ {s : List ℤ} {w e : ℕ} {p : Window} {joins : Bool} {lo hi : ℕ} (q r : Row) (right : List ℕ) (some : joins ≡ true → 1 ≤ r.runs) where
  pub joinable-lent : Joinable s w e p joins lo hi (spot_of q r) (length right) → Joinable s w e p joins lo hi (r.runs - 1) (length (lent_from q.first right))
  joinable-lent h = record {
    begins = h.begins;
    sum = h.sum;
    holds = h.holds;
    fits = λ t. omega (arith, h.fits t, some t, ap length (lent_is q.first right), length-drop q.first right);
  }

  pub joined_back : (t : Window) (last : List ℕ) → JoinedRun s w e p joins lo hi (r.runs - 1) (lent_from q.first right) t last → JoinedRun s w e p joins lo hi (spot_of q r) right t (back_at q.first right last)
  joined_back t last h = record {
    stays = λ f. ((h.stays f).0, back-same q.first right last (h.stays f).1);
    stop = h.stop;
    ahead = h.ahead;
    wrote = λ v.
        let z : q.first + (r.runs - 1) ≡ spot_of q r = omega (arith, some v) in
        back-set _ right last _ _ (h.wrote v) ∙ ap (λ k. set right k (t.offset - 1)) z;
  }
