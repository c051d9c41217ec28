-- Laws of specs/Within.
use Rattle.meaning_numbers.specs.Sum.{Σℕ}
use Rattle.meaning_numbers.proofs.Sum.{Σℕ-same}
use Rattle.meaning_numbers.proofs.Prelude.{◌≡◌, ◌∙◌, List, ℕ, ◌+◌, ◌-◌, ◌*◌, ◌<◌, ◌≤◌, arith, zero-add, dec_lt, ℤ, pos, length, take, get_or, length-take, get_or-take}
use Rattle.meaning_curves.specs.{Curve.at, Curve.stretch, Curve.spread, Normal.normalised}
use Rattle.meaning_curves.proofs.Values.{AllIn, all_in}
use Rattle.meaning_filter.proofs.{Bound.apart, Apart.aparts-le}
use Rattle.numbers.proofs.Blocks.{Made, made_more}
use Rattle.distance_normal.specs.Stretch.{NormalPart, Normalised}
use Rattle.distance_normal.proofs.Stretch.{value_in}

-- the first i normalised values are made
pub record NormalTo (s : ℕ → ℤ) (m i : ℕ) (out : List ℤ) : Type 0 where
  pub long : length out ≡ m
  pub at : (k : ℕ) → k < i → get_or out k (pos 0) ≡ normalised s m k

pub normal-next : {s : ℕ → ℤ} {m i n : ℕ} {out out' : List ℤ} → NormalTo s m i out → NormalPart s m i n out out' → NormalTo s m (i + n) out'
normal-next {s} {m} {i} {n} {out} {out'} t p = record {
  long = p.long ∙ t.long;
  at = λ k h. elim (dec_lt k i) [
    | yes b ↦ p.kept k b ∙ t.at k b
    | no f ↦ let e : i + (k - i) ≡ k = omega arith in rw e at (p.made (k - i) (omega arith))
  ];
}

pub normal-all : {s : ℕ → ℤ} {m i : ℕ} {out : List ℤ} → i ≡ m → NormalTo s m i out → Normalised s m out
normal-all e t = record { long = t.long; at = λ k h. t.at k (omega arith) }

module _ {s : ℕ → ℤ} {m e : ℕ} {out : List ℤ} (some : 0 < spread s m) (short : m ≤ 1024) (fits : e ≤ m) (t : NormalTo s m e out) where
  made_at : (k : ℕ) → k < e → get_or (take e out) k (pos 0) ≡ normalised s m k
  made_at k h = get_or-take e out k (pos 0) h ∙ t.at k h

  pub made_in : AllIn (take e out)
  made_in = all_in _ (λ k l. let b : k < e = omega (arith, length-take e out) in rw (made_at k b) (value_in s m k some (omega arith) short))

  -- what a block adds
  module _ {low high : List ℤ} (i n : ℕ) {r : ℕ} (is : e ≡ i + n) (l : AllIn low) (h : AllIn high) (told : r ≡ Σℕ n (λ k. apart (stretch (take e out) 0) (at low) (at high) (i + k))) where
    part-is : r ≡ Σℕ n (λ k. apart (normalised s m) (at low) (at high) (i + k))
    part-is = told ∙ Σℕ-same n (λ k. apart (stretch (take e out) 0) (at low) (at high) (i + k)) (λ k. apart (normalised s m) (at low) (at high) (i + k)) (λ k b. rw (zero-add, made_at (i + k) (omega arith)))

    part_small : r ≤ 400000000 * n
    part_small = omega (arith, told, aparts-le made_in l h 0 i n)

    pub part-more : {total : ℕ} → Made (apart (normalised s m) (at low) (at high)) 400000000 i total → Made (apart (normalised s m) (at low) (at high)) 400000000 e (total + r)
    part-more d = rw is (made_more n r d part-is part_small)
