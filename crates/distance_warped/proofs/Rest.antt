-- The envelope bound beside the table: all of it is at most the distance (`bound-le`), and so is the least number of a row with the bound of the rows after it (`rest-least`), since a path to the end passes every row.
use Rattle.meaning_numbers.specs.Sum.{Σℕ}
use Rattle.meaning_numbers.proofs.Sum.{Σℕ-same, Σℕ-le}
use Rattle.meaning_numbers.proofs.Prelude.{◌≡◌, refl, ap, List, ℕ, suc, ◌+◌, ◌-◌, ◌*◌, ◌<◌, ◌≤◌, arith, add-one, ℤ}
use Rattle.meaning_curves.specs.{Curve.at, Curve.stretch, Table.warped, Match.distance}
use Rattle.meaning_curves.proofs.{Table.warped-is, Values.AllIn}
use Rattle.meaning_filter.specs.Envelope.{lower, upper}
use Rattle.meaning_filter.proofs.{Envelope.envelope, Bound.apart, Bound.distance-bound, Bound.through, Apart.excess-sq-le}
use Rattle.distance_envelope.specs.Envelope.{Envelopes}
use Rattle.distance_warped.specs.Rows.{cells, LeastOf, least-path}

module _ {curve low high : List ℤ} {m b : ℕ} (s : ℕ → ℤ) (e : Envelopes curve m b low high) where
  -- the squared excesses of the first n places are those from the envelopes that are meant
  meant : (n : ℕ) → n ≤ m → Σℕ n (apart s (at low) (at high)) ≡ Σℕ n (apart s (lower (at curve) m b) (upper (at curve) m b))
  meant n h = Σℕ-same n _ _ (λ k l. rw (e.below.at k (omega arith), e.above.at k (omega arith)) refl)

  pub bound-le : 0 < m → Σℕ m (apart s (at low) (at high)) ≤ distance s (at curve) b m
  bound-le long = rw (meant m (omega arith)) (distance-bound s m (envelope _ m b) (omega arith) long)

  pub rest-least : (i r : ℕ) → i < m → LeastOf (cells s (at curve) b i) b i m r → r + Σℕ m (apart s (at low) (at high)) ≤ warped s (at curve) b m + Σℕ (i + 1) (apart s (at low) (at high))
  rest-least i r h l =
      let f = apart s (lower (at curve) m b) (upper (at curve) m b) in
      let last : suc (m - 1) ≡ m = omega arith in
      let t = through i (envelope _ m b) (warped-is s _ b m).attained (omega arith) (omega arith) in
      omega (arith, least-path s _ b i m r l t.there t.path, t.rest, ap (λ n. Σℕ n f) last, ap (λ n. Σℕ n f) (add-one i), meant m (omega arith), meant (i + 1) (omega arith))

-- all of it is small
pub whole_le : {s low high : List ℤ} → AllIn s → AllIn low → AllIn high → (from n : ℕ) → Σℕ n (apart (stretch s from) (at low) (at high)) ≤ 400000000 * n
whole_le {s} {low} {high} h k i from n = Σℕ-le n 400000000 _ (λ j l. excess-sq-le (k.at j) (i.at j) (h.at _))
