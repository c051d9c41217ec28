-- Laws of specs/Place: the turns of the search.
use Rattle.meaning_numbers.proofs.Prelude.{◌≡◌, List, ℕ, ◌+◌, ◌-◌, ◌/◌, ◌<◌, ◌≤◌, arith, get_or}
use Rattle.meaning_filter.proofs.Closest.{Sooner, Later}
use Rattle.check_few.specs.Place.{Behind}

-- the place lies from low to high

pub record Looking (l : List ℕ) (n d low high : ℕ) : Type 0 where
  pub least : low ≤ high
  pub most : high < n
  pub last : 0 < low → Later d (get_or l (low - 1) 0)
  pub next : Sooner d (get_or l high 0)

module _ {l : List ℕ} {n d low high : ℕ} (k : Looking l n d low high) (h : low < high) where
  pub looking-up : Later d (get_or l (low + (high - low) / 2) 0) → Looking l n d (low + (high - low) / 2 + 1) high
  looking-up g =
      let e : low + (high - low) / 2 + 1 - 1 ≡ low + (high - low) / 2 = omega arith in
      record { least = omega arith; most = k.most; last = λ _. rw e g; next = k.next }

  pub looking-down : Sooner d (get_or l (low + (high - low) / 2) 0) → Looking l n d low (low + (high - low) / 2)
  looking-down g = record { least = omega arith; most = omega (arith, k.most); last = k.last; next = g }

pub looking-ends : {l : List ℕ} {n d low high : ℕ} → high ≤ low → Looking l n d low high → Behind l n d low
looking-ends {low = low} {high} h k =
    let e : low ≡ high = omega (arith, k.least) in
    record { inside = omega (arith, k.most, k.least); last = k.last; next = λ _. rw e k.next }
