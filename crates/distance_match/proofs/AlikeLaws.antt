-- Laws of specs/Alike.
use Rattle.meaning_numbers.proofs.Prelude.{◌≡◌, refl, sym, subst, Bool, true, false, not, ⊎_elim, None, ℕ, zero, suc, ◌*◌, ◌<◌, ◌≤◌, arith, T, eqb, eqb·suc-zero, ℤ, pos, ◌-ℤ◌, nat_abs, is_true, is_false, decided}
use Rattle.meaning_curves.specs.{Curve.total, Curve.spread, Match.normal_distance, Match.normal_match}
use Rattle.meaning_curves.proofs.Match.{normal-yes}
use Rattle.meaning_filter.specs.{declared.Kind.TheVariants.Normal, declared.Limits.Limits, Matches.matches, Matches.distance_to}
use Rattle.distance_within.specs.Answer.{nearness}
use Rattle.distance_within.proofs.Answer.{leb_yes}
use Rattle.distance_match.specs.{Matched.matched, Alike.Alike, Alike.Says}

pub says-yes : {P : Type 0} → P → Says true P
says-yes p = record { yes = λ e. p; no = λ e. absurd (subst T e tt) }

pub says-no : {P : Type 0} → (P → ⊥) → Says false P
says-no n = record { yes = λ e. absurd (subst T (sym e) tt); no = λ e. n }

pub says-flag : {P : Type 0} (r : Bool) → (T r → P) → (T (not r) → P → ⊥) → Says r P
says-flag true f g = says-yes (f tt)
says-flag false f g = says-no (g tt)

-- ---- by the meaning

above_zero : (n : ℕ) → 0 < n → T (not (eqb n 0))
above_zero zero h = absurd (omega arith)
above_zero (suc n) h = rw (eqb·suc-zero n) tt

module _ (s q : ℕ → ℤ) (m : ℕ) (l : Limits) {A p B r : ℕ} (A-is : A ≡ spread s m) (B-is : B ≡ spread q m) (Shift-is : nat_abs (pos p -ℤ pos r) ≡ nat_abs (total s m -ℤ total q m)) where
  pub alike-matched : Alike A p B r m l.scale l.shift → nearness (normal_distance s q l.band m) l.threshold ≡ matched Normal s q m l
  unfolding matched matches distance_to normal_match
  alike-matched h =
      let some : 0 < spread s m = rw (sym A-is) h.not-flat in
      let up : 100 * spread s m ≤ l.scale * l.scale * spread q m = rw (sym A-is, sym B-is) h.up in
      let down : 100 * spread q m ≤ l.scale * l.scale * spread s m = rw (sym A-is, sym B-is) h.down in
      let near : nat_abs (total s m -ℤ total q m) ≤ m * l.shift = rw (sym Shift-is) h.shift in
      rw (is_true (not _) (above_zero _ some), leb_yes up, leb_yes down, leb_yes near) refl

  pub unlike-matched : (Alike A p B r m l.scale l.shift → ⊥) → None ≡ matched Normal s q m l
  unfolding matched matches
  unlike-matched f = ⊎_elim
      (λ t. let y = normal-yes s q m _ _ _ _ t in
      absurd (f (record { not-flat = rw A-is y.not-flat; up = rw (A-is, B-is) y.up; down = rw (A-is, B-is) y.down; shift = rw Shift-is y.shift })))
      (λ t. rw (is_false (normal_match s q m _ l.threshold l.scale l.shift) t) refl)
      (decided (normal_match s q m l.band l.threshold l.scale l.shift))
