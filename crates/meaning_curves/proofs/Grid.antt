-- The table as code keeps it: a number for each pair, `big` where there is none. Inside the band a pair always has a total before it, so an entry is the least of the three numbers before plus the cost, and outside it is `big`: no test for `big` is needed (`grid-inner`, `grid-top`, `grid-side`, `grid-out`).
-- It asks that `big` is at least every total, and a total is at most (i + j + 1) times the greatest cost (`path-small`).
use Rattle.meaning_numbers.proofs.Prelude.{◌≡◌, refl, Bool, true, false, Option, None, Some, ℕ, suc, ◌+◌, ◌-◌, ◌*◌, ◌≤◌, min, arith, mul-le-mul_right, le_step, T, ℤ}
use Rattle.meaning_curves.specs.Table.{near, when, plus, least, step, table, value_of, warped}
use Rattle.meaning_curves.specs.{Straight.cost, Warp.Near, Warp.WarpPath, Warp.start, Warp.first, Warp.second, Warp.both}
use Rattle.meaning_curves.proofs.Table.{All, missing, there, Under, under, yes_near, all_map, least-all, least-left, table-start, table-top, table-side, table-inner, attained, least-total, in-band}

pub path-near : {s q : ℕ → ℤ} {b i j t : ℕ} → WarpPath s q b i j t → Near b i j
path-near start = omega arith
path-near (first p n) = n
path-near (second p n) = n
path-near (both p n) = n

pub path-small : {s q : ℕ → ℤ} {b i j t : ℕ} (c : ℕ) → ((x y : ℕ) → x ≤ i → y ≤ j → cost (s x) (q y) ≤ c) → WarpPath s q b i j t → t ≤ (i + j + 1) * c
path-small c h start = omega (arith, h 0 0 (omega arith) (omega arith))
path-small c h (first {i} {j} p n) = omega (arith, path-small c (λ x y k l. h x y (le_step k) l) p, h (suc i) j (omega arith) (omega arith))
path-small c h (second {i} {j} p n) = omega (arith, path-small c (λ x y k l. h x y k (le_step l)) p, h i (suc j) (omega arith) (omega arith))
path-small c h (both {i} {j} p n) = omega (arith, path-small c (λ x y k l. h x y (le_step k) (le_step l)) p, h (suc i) (suc j) (omega arith) (omega arith))

-- ---- a total that may be missing, as a number

unfoldable pub coded : ℕ → Option ℕ → ℕ
coded big None = big
coded big (Some t) = t

coded_none : {P : ℕ → Type 0} (big : ℕ) {o : Option ℕ} → All P o → ((t : ℕ) → P t → ⊥) → coded big o ≡ big
unfolding coded
coded_none big missing f = refl
coded_none big (there {t} h) f = absurd (f t h)

coded-step : {o : Option ℕ} {n : ℕ} (big c : ℕ) (t : Bool) → T t → Under o n → coded big (when t (plus o c)) ≡ coded big o + c
unfolding coded when plus
coded-step big c true h (under d n k) = refl
coded-step big c false h _ = absurd h

coded-value : {o : Option ℕ} {n : ℕ} (big : ℕ) → Under o n → coded big o ≡ value_of o
unfolding coded value_of
coded-value big (under d n h) = refl

coded-least : {big : ℕ} {o r : Option ℕ} → All (λ t. t ≤ big) o → All (λ t. t ≤ big) r → coded big (least o r) ≡ min (coded big o) (coded big r)
unfolding coded least
coded-least missing missing = omega arith
coded-least missing (there h) = omega arith
coded-least (there h) missing = omega arith
coded-least (there h) (there k) = refl

-- ---- the recurrence over numbers

module _ (s q : ℕ → ℤ) (b big : ℕ) where
  unfoldable pub grid : ℕ → ℕ → ℕ
  grid i j = coded big (table s q b i j)

  pub grid-start : grid 0 0 ≡ cost (s 0) (q 0)
  unfolding grid coded
  grid-start = rw (table-start s q b)

  pub grid-out : (i j : ℕ) → (Near b i j → ⊥) → grid i j ≡ big
  unfolding grid
  grid-out i j f = coded_none big (attained s q b i j) (λ t p. f (path-near p))

  pub grid-top : (j : ℕ) → Near b 0 (suc j) → grid 0 (suc j) ≡ grid 0 j + cost (s 0) (q (suc j))
  unfolding grid step
  grid-top j n = rw (table-top s q b j) (coded-step big _ _ (yes_near n) (least-total s q b (in-band s q b 0 j (omega arith)).1))

  pub grid-side : (i : ℕ) → Near b (suc i) 0 → grid (suc i) 0 ≡ grid i 0 + cost (s (suc i)) (q 0)
  unfolding grid step
  grid-side i n = rw (table-side s q b i) (coded-step big _ _ (yes_near n) (least-total s q b (in-band s q b i 0 (omega arith)).1))

  pub grid-inner : (c i j : ℕ) → ((x y : ℕ) → x ≤ suc i → y ≤ suc j → cost (s x) (q y) ≤ c) → (i + j + 2) * c ≤ big → Near b (suc i) (suc j)
      → grid (suc i) (suc j) ≡ min (grid i j) (min (grid i (suc j)) (grid (suc i) j)) + cost (s (suc i)) (q (suc j))
  unfolding grid step
  grid-inner c i j h large n =
      let small : (x y : ℕ) → x ≤ suc i → y ≤ suc j → x + y ≤ i + j + 1 → All (λ t. t ≤ big) (table s q b x y) = λ x y k l few. all_map (λ t p.
      omega (arith, path-small c (λ v w e f. h v w (omega arith) (omega arith)) p, mul-le-mul_right {m = x + y + 1} {n = i + j + 2} c (omega arith))) (attained s q b x y) in
      let above = small i (suc j) (omega arith) (omega arith) (omega arith) in
      let left = small (suc i) j (omega arith) (omega arith) (omega arith) in
      let e = coded-step big (cost (s (suc i)) (q (suc j))) (near b (suc i) (suc j)) (yes_near n)
      (least-left (least (table s q b i (suc j)) (table s q b (suc i) j)) (least-total s q b (in-band s q b i j (omega arith)).1)) in
      rw (table-inner s q b i j) (rw (coded-least (small i j (omega arith) (omega arith) (omega arith)) (least-all above left), coded-least above left) at e)

  -- the last entry is the distance
  pub grid-distance : (m : ℕ) → grid (m - 1) (m - 1) ≡ warped s q b m
  unfolding grid warped
  grid-distance m = coded-value big (least-total s q b (in-band s q b (m - 1) (m - 1) (omega arith)).1)
