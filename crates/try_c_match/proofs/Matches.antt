-- A match is told as it is: its distance is small (`distance-small`), so that one more does not wrap (`told-wrapped`).
use Rattle.meaning_numbers.proofs.Prelude.{◌≡◌, refl, sym, Bool, true, false, List, ℕ, ◌+◌, ◌-◌, ◌<◌, ◌≤◌, arith, mul-le-mul_right, T, ℤ, length}
use Rattle.meaning_curves.specs.{Curve.at, Curve.stretch, Match.distance}
use Rattle.meaning_curves.proofs.{Values.InLimits, Values.AllIn, Values.cost-le, Grid.path-small, Table.warped-is, Straight.distance_is, Match.normal-yes}
use Rattle.meaning_filter.specs.{declared.Kind.Kind, declared.Kind.TheVariants.Raw, declared.Kind.TheVariants.Normal, declared.Limits.Limits, Matches.matches, Matches.distance_to}
use Rattle.distance_query.specs.Ready.{IsCurve, curve_of}
use Rattle.distance_query.proofs.Ready.{value_in}
use Rattle.distance_within.specs.Answer.{answer}
use Rattle.distance_match.specs.Matched.{matched}
use Rattle.try_c_match.specs.Told.{told_match, wrapped, MatchBuffers, MatchesTold}

-- a distance of curves whose values are in their limits
distance-small : (s q : ℕ → ℤ) (b m : ℕ) → 0 < m → m ≤ 1024 → ((x : ℕ) → x < m → InLimits (s x)) → ((y : ℕ) → y < m → InLimits (q y)) → distance s q b m ≤ 819200000000
distance-small s q b m some short h k =
    rw (distance_is s q b m some)
    (omega (arith, path-small 400000000 (λ x y u v. cost-le (h x (omega arith)) (k y (omega arith))) (warped-is s q b m).attained, mul-le-mul_right {m = m - 1 + (m - 1) + 1} {n = 2048} 400000000 (omega arith)))

wrapped-small : (t : Bool) (d : ℕ) → (T t → d ≤ 819200000000) → wrapped (answer t d) ≡ told_match (answer t d)
wrapped-small true d h = let l = h tt in omega arith
wrapped-small false d h = refl

module _ {s q curve : List ℤ} (j : ℕ) (l : Limits) (h : AllIn s) (some : 0 < length q) (short : length q ≤ 1024) where
  -- the values of a query of this kind
  query-in : (kind : Kind) → IsCurve kind q curve → (k : ℕ) → k < length q → InLimits (curve_of kind (at q) (length q) k)
  query-in kind c k b = rw (sym (c.same.at k b)) (c.inside.at k)

  pub told-wrapped : (kind : Kind) → IsCurve kind q curve → wrapped (matched kind (stretch s j) (at q) (length q) l) ≡ told_match (matched kind (stretch s j) (at q) (length q) l)
  unfolding matched matches distance_to
  told-wrapped Raw c = wrapped-small (matches Raw (stretch s j) (at q) (length q) l) _ (λ t. distance-small _ (at q) l.band _ some short (λ x u. h.at (j + x)) (query-in Raw c))
  told-wrapped Normal c =
      wrapped-small (matches Normal (stretch s j) (at q) (length q) l) _
      (λ t. let y = normal-yes (stretch s j) (at q) (length q) l.band l.threshold l.scale l.shift t in
      distance-small _ _ l.band _ some short (λ x u. value_in (stretch s j) _ x y.not-flat u short) (query-in Normal c))

pub of-kind : {k kind : Kind} {s q : List ℤ} {l : Limits} {b b' : MatchBuffers} {r : ℕ} → k ≡ kind → MatchesTold k s q l b r b' → MatchesTold kind s q l b r b'
of-kind {s = s} {q} {l} {b} {b'} {r} e t = rw e at t
