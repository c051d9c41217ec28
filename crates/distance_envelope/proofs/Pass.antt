-- Laws of specs/Pass.
use borrow.Author.Count.{below_more}
use Rattle.meaning_numbers.proofs.Prelude.{◌≡◌, ◌∙◌, refl, Bool, List, ℕ, suc, ◌+◌, ◌-◌, ◌<◌, ◌≤◌, min, arith, dec_le, ℤ, pos, length, set, length-set, get_or-set_same, get_or-set_other}
use Rattle.meaning_curves.specs.Curve.{at}
use Rattle.distance_envelope.specs.{Best.pick, Best.edge, Envelope.IsEnvelope, Pass.PassAhead, Pass.PassBack, Pass.Ahead, Pass.Back}
use Rattle.distance_envelope.proofs.Best.{best-one, best-same, ahead_more, ahead-kept, back_more, back-kept, best-through, best-edge}

-- ---- passes that add up to n

pub ahead_none : (t : Bool) (l : List ℤ) → Ahead t 0 l l
ahead_none t l = record { long = refl; best = λ i h. best-one t (at l) refl (omega arith) }

pub back_none : (t : Bool) (l : List ℤ) → Back t 0 l l
back_none t l = record { long = refl; best = λ i h. best-one t (at l) (omega arith) refl }

pub ahead-pass : {t : Bool} {n d : ℕ} {old mid new : List ℤ} → Ahead t n old mid → PassAhead t d mid new → d ≤ n + 1 → Ahead t (n + d) old new
ahead-pass {t} {n} {d} {old} {mid} a p far = record {
  long = p.long ∙ a.long;
  best = λ i h. elim (dec_le (suc (i + d)) (length old)) [
    | yes k ↦ best-same (p.moved i (omega arith)) (ahead_more _ n d far a.best i k)
    | no f ↦ best-same (p.kept i (omega arith)) (ahead-kept _ n d far a.best i h (omega arith))
  ];
}

pub back-pass : {t : Bool} {n d : ℕ} {old mid new : List ℤ} → Back t n old mid → PassBack t d mid new → d ≤ n + 1 → Back t (n + d) old new
back-pass {t} {n} {d} {old} {mid} a p far = record {
  long = p.long ∙ a.long;
  best = λ i h. elim (dec_le d i) [
    | yes k ↦ best-same (p.moved i (omega arith) k) (back_more _ n d far a.best i h k)
    | no f ↦ best-same (p.kept i (omega arith) (omega arith)) (back-kept _ n d far a.best i h (omega arith))
  ];
}

-- ---- ahead, then back

pub passes-edge : {t : Bool} {b : ℕ} {q mid new : List ℤ} → Ahead t b q mid → Back t b mid new → IsEnvelope (edge t (at q) (length q) b) (length q) new
passes-edge {t} {b} {q} {mid} a k = record {
  long = k.long ∙ a.long;
  at = λ i h. best-edge t (at q) _ b i h (best-through _ b i a.best h (k.best i (omega arith)));
}

-- ---- a pass that is half made

pub record AheadTo (t : Bool) (d i : ℕ) (old now : List ℤ) : Type 0 where
  pub long : length now ≡ length old
  pub done : (k : ℕ) → k < i → at now k ≡ pick t (at old k) (at old (k + d))
  pub rest : (k : ℕ) → i ≤ k → at now k ≡ at old k

pub ahead-start : (t : Bool) (d : ℕ) (l : List ℤ) → AheadTo t d 0 l l
ahead-start t d l = record { long = refl; done = λ k h. absurd (omega arith); rest = λ k h. refl }

pub ahead-next : {t : Bool} {d i : ℕ} {old now : List ℤ} (v : ℤ) → AheadTo t d i old now → i < length now → v ≡ pick t (at now i) (at now (i + d)) → AheadTo t d (i + 1) old (set now i v)
ahead-next {t} {d} {i} {old} {now} v h room e = record {
  long = length-set now i v ∙ h.long;
  done = below_more _ i (λ k l. get_or-set_other now i k v (pos 0) (λ s. omega arith) ∙ h.done k l)
      (get_or-set_same now i v (pos 0) room ∙ e ∙ rw (h.rest i (omega arith), h.rest (i + d) (omega arith)) refl);
  rest = λ k l. get_or-set_other now i k v (pos 0) (λ s. omega arith) ∙ h.rest k (omega arith);
}

pub ahead-end : {t : Bool} {d i : ℕ} {old now : List ℤ} → AheadTo t d i old now → i ≡ length old - d → PassAhead t d old now
ahead-end h e = record { long = h.long; moved = λ k l. h.done k (omega arith); kept = λ k l. h.rest k (omega arith) }

pub record BackTo (t : Bool) (d i : ℕ) (old now : List ℤ) : Type 0 where
  pub long : length now ≡ length old
  pub done : (k : ℕ) → i ≤ k → k < length old → at now k ≡ pick t (at old (k - d)) (at old k)
  pub rest : (k : ℕ) → k < i → at now k ≡ at old k

pub back_start : (t : Bool) (d : ℕ) (l : List ℤ) → BackTo t d (length l) l l
back_start t d l = record { long = refl; done = λ k h u. absurd (omega arith); rest = λ k h. refl }

pub back-next : {t : Bool} {d i : ℕ} {old now : List ℤ} (v : ℤ) → BackTo t d i old now → 0 < i → i ≤ length now → v ≡ pick t (at now (i - 1 - d)) (at now (i - 1)) → BackTo t d (i - 1) old (set now (i - 1) v)
back-next {t} {d} {i} {old} {now} v h some room e = record {
  long = length-set now (i - 1) v ∙ h.long;
  done = λ k l u. elim (dec_le i k) [
    | yes g ↦ get_or-set_other now (i - 1) k v (pos 0) (λ s. omega arith) ∙ h.done k g u
    | no f ↦ let s : k ≡ i - 1 = omega arith in rw s (get_or-set_same now (i - 1) v (pos 0) (omega arith) ∙ e ∙ rw (h.rest (i - 1) (omega arith), h.rest (i - 1 - d) (omega arith)) refl)
  ];
  rest = λ k l. get_or-set_other now (i - 1) k v (pos 0) (λ s. omega arith) ∙ h.rest k (omega arith);
}

pub back_end : {t : Bool} {d i : ℕ} {old now : List ℤ} → BackTo t d i old now → i ≡ min d (length old) → PassBack t d old now
back_end {t} {d} {i} {old} h e = record {
  long = h.long;
  moved = λ k l u. h.done k (omega arith) l;
  kept = λ k l u. h.rest k (omega arith);
}
