-- The pairs of two columns: how many there are, what stands at a place, an entry put there, the columns of the first ones, and back.
use Rattle.meaning_numbers.proofs.Prelude.{◌≡◌, refl, List, [], ◌∷◌, ◌++◌, map, ℕ, zero, suc, ◌<◌, min, arith, length, get_or, set, take}
use Rattle.meaning_entries.specs.{Buffers.pair_room, Demand3.pairs}

pub length_pairs : (a b : List ℕ) → length (pairs a b) ≡ pair_room a b
unfolding pairs
length_pairs [] b = omega arith
length_pairs (x ∷ a) [] = omega arith
length_pairs (x ∷ a) (y ∷ b) = omega (arith, length_pairs a b)

pub get_d-pairs : (a b : List ℕ) (i : ℕ) → i < length a → i < length b → get_or (pairs a b) i (0, 0) ≡ (get_or a i 0, get_or b i 0)
unfolding pairs
get_d-pairs [] b i g h = absurd (omega arith)
get_d-pairs (x ∷ a) [] i g h = absurd (omega arith)
get_d-pairs (x ∷ a) (y ∷ b) zero g h = refl
get_d-pairs (x ∷ a) (y ∷ b) (suc i) g h = get_d-pairs a b i (omega arith) (omega arith)

pub pairs_set : (a b : List ℕ) (k x y : ℕ) → pairs (set a k x) (set b k y) ≡ set (pairs a b) k (x, y)
unfolding pairs
pairs_set [] b k x y = refl
pairs_set (u ∷ a) [] zero x y = refl
pairs_set (u ∷ a) [] (suc k) x y = refl
pairs_set (u ∷ a) (v ∷ b) zero x y = refl
pairs_set (u ∷ a) (v ∷ b) (suc k) x y = rw (pairs_set a b k x y)

-- the columns of the first entries
pub first-columns : (k : ℕ) (a b : List ℕ) → let i = min k (pair_room a b) in (map (λ x. x.0) (take k (pairs a b)) ≡ take i a) × (map (λ x. x.1) (take k (pairs a b)) ≡ take i b)
unfolding pairs
first-columns zero a b = let e : min 0 (pair_room a b) ≡ 0 = omega arith in rw e (refl, refl)
first-columns (suc k) [] b = let e : min (suc k) (min 0 (length b)) ≡ 0 = omega arith in rw e (refl, refl)
first-columns (suc k) (x ∷ a) [] = let e : min (suc k) (min (suc (length a)) 0) ≡ 0 = omega arith in rw e (refl, refl)
first-columns (suc k) (x ∷ a) (y ∷ b) =
    let e : min (suc k) (min (suc (length a)) (suc (length b))) ≡ suc (min k (min (length a) (length b))) = omega arith in
    let r = first-columns k a b in
    rw e (rw r.0, rw r.1)

-- the first entries of two columns with anything behind them are the pairs that they were made of
pub pairs-back : (l : List (ℕ × ℕ)) (a b : List ℕ) → take (length l) (pairs (map (λ x. x.0) l ++ a) (map (λ x. x.1) l ++ b)) ≡ l
unfolding pairs
pairs-back [] a b = refl
pairs-back (x ∷ l) a b = rw (pairs-back l a b)
