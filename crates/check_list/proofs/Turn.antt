-- The turns of the loops over the offsets of a run (`RunSoFar`) and over the runs (`RunsSoFar`): what is known as each starts, moves on and ends.
use Rattle.meaning_numbers.specs.Place.{numbers_from}
use Rattle.meaning_numbers.proofs.Prelude.{◌≡◌, Option, ◌∙◌, List, [], ◌∷◌, ℕ, zero, suc, ◌+◌, ◌-◌, ◌<◌, ◌≤◌, arith, ℤ, length, get_or, length-take, get_or-take}
use Rattle.meaning_curves.specs.Curve.{at, stretch}
use Rattle.meaning_rows.proofs.Runs.{Apart}
use Rattle.meaning_filter.specs.{declared.Kind.Kind, declared.Limits.Limits, declared.Pick.Pick, Matches.Question}
use Rattle.meaning_entries.specs.Demand3.{pairs}
use Rattle.meaning_entries.proofs.Pairs.{length_pairs, get_d-pairs}
use Rattle.distance_match.specs.Matched.{matched}
use Rattle.check_list.specs.{Members.members, Listed.Notes, Found.asked, Found.SumsFor, Found.RunsLent, Found.lent_runs, Found.found, Found.entries_of}
use Rattle.check_list.proofs.Listed.{notes-none, notes-on}
use Rattle.check_list.proofs.Found.{entries-few, run_none, run_more, found-few, runs_none, runs-more}

-- what stands in the lists where the loop over a run that begins at `from` has come to j: behind the first k, n entries are counted
pub record RunSoFar (pick : Pick) (kind : Kind) (s q : List ℤ) (l : Limits) (from last k : ℕ) (offsets₀ distances₀ offsets distances : List ℕ) (p w n j : ℕ) : Type 0 where
  pub least : from ≤ j
  pub most : j ≤ last + 1
  pub few : n ≤ j
  pub sums : SumsFor kind s j (length q) p w
  pub so_far : Notes pick (found (asked pick kind s q l) (numbers_from from (j - from))) k n offsets₀ distances₀ offsets distances

module _ {pick : Pick} {kind : Kind} {s q : List ℤ} {l : Limits} {from last k : ℕ} {offsets₀ distances₀ : List ℕ} where
  pub run-starts : {p w : ℕ} → k ≤ from → from ≤ last → SumsFor kind s from (length q) p w → RunSoFar pick kind s q l from last k offsets₀ distances₀ offsets₀ distances₀ p w k from
  run-starts a b t = record {
    least = omega arith;
    most = omega arith;
    few = a;
    sums = t;
    so_far = rw (run_none _ from) (notes-none pick k offsets₀ distances₀);
  }

  pub run-next : {offsets distances offsets' distances' : List ℕ} {p w p' w' n n' j : ℕ} {m : Option ℕ} → j ≤ last → RunSoFar pick kind s q l from last k offsets₀ distances₀ offsets distances p w n j
      → m ≡ matched kind (stretch s j) (at q) (length q) l → Notes pick (entries_of j m) n n' offsets distances offsets' distances' → SumsFor kind s (j + 1) (length q) p' w'
      → RunSoFar pick kind s q l from last k offsets₀ distances₀ offsets' distances' p' w' n' (j + 1)
  run-next {j = j} {m} h r e g t = record {
    least = omega arith;
    most = omega arith;
    few = omega (arith, r.few, g.count, entries-few j m);
    sums = t;
    so_far = rw (run_more pick kind s q l from j r.least) (notes-on r.so_far (rw e at g));
  }

  pub run_ends : {offsets distances : List ℕ} {p w n j : ℕ} → last < j → RunSoFar pick kind s q l from last k offsets₀ distances₀ offsets distances p w n j
      → Notes pick (found (asked pick kind s q l) (numbers_from from (last + 1 - from))) k n offsets₀ distances₀ offsets distances
  run_ends {j = j} h r = let e : j ≡ last + 1 = omega arith in rw e at r.so_far

-- ---- the runs, by their place

apart-at : (n a : ℕ) (l : List (ℕ × ℕ)) (i : ℕ) → Apart n a l → i < length l → let x = get_or l i (0, 0) in (x.0 ≤ x.1) × (x.1 < n)
unfolding Apart
apart-at n a [] i p h = absurd (omega arith)
apart-at n a (x ∷ l) zero p h = (p.1, p.2)
apart-at n a (x ∷ l) (suc i) p h = apart-at n (x.1 + 2) l i p.3 (omega arith)

apart-on : (n a : ℕ) (l : List (ℕ × ℕ)) (i : ℕ) → Apart n a l → suc i < length l → (get_or l i (0, 0)).1 + 2 ≤ (get_or l (suc i) (0, 0)).0
unfolding Apart
apart-on n a [] i p h = absurd (omega arith)
apart-on n a (x ∷ []) i p h = absurd (omega arith)
apart-on n a (x ∷ y ∷ l) zero p h = p.3.0
apart-on n a (x ∷ y ∷ l) (suc i) p h = apart-on n (x.1 + 2) (y ∷ l) i p.3 (omega arith)

module _ {n : ℕ} {left right : List ℕ} {runs : ℕ} (lent : RunsLent n left right runs) where
  lent_length : length (lent_runs left right runs) ≡ runs
  lent_length = omega (arith, length-take runs (pairs left right), length_pairs left right, lent.in_left, lent.in_right)

  lent_at : (i : ℕ) → i < runs → get_or (lent_runs left right runs) i (0, 0) ≡ (get_or left i 0, get_or right i 0)
  lent_at i h = get_or-take runs _ i (0, 0) h ∙ get_d-pairs left right i (omega arith) (omega arith)

  pub run_inside : (i : ℕ) → i < runs → (get_or left i 0 ≤ get_or right i 0) × (get_or right i 0 < n)
  run_inside i h = rw (lent_at i h) at (apart-at n 0 _ i lent.apart (omega (arith, lent_length)))

  run-after : (i : ℕ) → i + 1 < runs → get_or right i 0 + 2 ≤ get_or left (i + 1) 0
  run-after i h =
      let e : i + 1 ≡ suc i = omega arith in
      rw e (rw (lent_at i (omega arith), lent_at (suc i) (omega arith)) at (apart-on n 0 _ i lent.apart (omega (arith, lent_length))))

-- what stands in the lists where the loop over the runs has come to run i
pub record RunsSoFar (pick : Pick) (z : Question) (left right : List ℕ) (runs : ℕ) (offsets₀ distances₀ offsets distances : List ℕ) (n i : ℕ) : Type 0 where
  pub most : i ≤ runs
  pub few : i < runs → n ≤ get_or left i 0
  pub so_far : Notes pick (found z (members (lent_runs left right i))) 0 n offsets₀ distances₀ offsets distances

pub runs-start : (pick : Pick) (z : Question) (left right : List ℕ) (runs : ℕ) (offsets₀ distances₀ : List ℕ) → RunsSoFar pick z left right runs offsets₀ distances₀ offsets₀ distances₀ 0 0
runs-start pick z left right runs offsets₀ distances₀ =
    record { most = omega arith; few = λ h. omega arith; so_far = rw (runs_none z left right) (notes-none pick 0 offsets₀ distances₀) }

pub runs-next : {pick : Pick} {z : Question} {left right : List ℕ} {runs m : ℕ} {offsets₀ distances₀ offsets distances offsets' distances' : List ℕ} {n n' i : ℕ} → RunsLent m left right runs → i < runs
    → RunsSoFar pick z left right runs offsets₀ distances₀ offsets distances n i → Notes pick (found z (numbers_from (get_or left i 0) (get_or right i 0 + 1 - get_or left i 0))) n n' offsets distances offsets' distances'
    → RunsSoFar pick z left right runs offsets₀ distances₀ offsets' distances' n' (i + 1)
runs-next {z = z} {left} {right} {n = n} {i = i} lent h r g = record {
  most = omega arith;
  few = λ k. omega (arith, run-after lent i k, r.few h, g.count, run_inside lent i h, found-few z (get_or left i 0) (get_or right i 0 + 1 - get_or left i 0));
  so_far = rw (runs-more z left right i (omega arith) (omega arith)) (notes-on r.so_far g);
}

pub runs-end : {pick : Pick} {z : Question} {left right : List ℕ} {runs : ℕ} {offsets₀ distances₀ offsets distances : List ℕ} {n i : ℕ} → runs ≤ i → RunsSoFar pick z left right runs offsets₀ distances₀ offsets distances n i
    → Notes pick (found z (members (lent_runs left right runs))) 0 n offsets₀ distances₀ offsets distances
runs-end {runs = runs} {i = i} h r = let e : i ≡ runs = omega arith in rw e at r.so_far
