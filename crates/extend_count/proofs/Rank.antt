-- Laws of specs/Rank.
use Rattle.std.specs.List.Sorted.{IsPartitionedBy, IsPartitionPoint}
use Rattle.std.proofs.lemmas.List.{get_or_default}
use Rattle.meaning_numbers.specs.Sum.{count}
use Rattle.meaning_numbers.proofs.Count.{count_none, count-more, count-cong, bit-true, bit-false}
use Rattle.meaning_numbers.proofs.Prelude.{◌≡◌, sym, ◌∙◌, List, ℕ, zero, suc, ◌+◌, ◌<◌, ◌≤◌, arith, dec_lt, leb, ltb, true, false, length, take, length-take, get_or, get_or-take, leb-true, leb-false, le-leb, lt-leb, lt-ltb, le-ltb}
use Rattle.extend_count.specs.Rank.{rank, Climbing}

count-first : (r n : ℕ) → r ≤ n → count (λ i. ltb i r) n ≡ r
count-first r zero h = count_none (λ i. ltb i r) ∙ omega arith
count-first r (suc n) h =
    let e : suc n ≡ n + 1 = omega arith in
    elim (dec_lt n r) [
      | yes l ↦ let q : r ≡ suc n = omega arith in rw (e, count-more (λ i. ltb i r) n, q) (omega (arith, count-cong (λ i. ltb i (suc n)) (λ i. ltb i n) n (λ j b. lt-ltb j (suc n) (omega arith) ∙ sym (lt-ltb j n b)), count-first n n (omega arith), bit-true (lt-ltb n (suc n) (omega arith))))
      | no f ↦ rw (e, count-more (λ i. ltb i r) n) (omega (arith, count-first r n (omega arith), bit-false (le-ltb n r (omega arith))))
    ]

pub rank_is : (ups : List ℕ) (n x r : ℕ) → r ≤ n → ((i : ℕ) → i < r → get_or ups i 0 ≤ x) → ((i : ℕ) → r ≤ i → i < n → x < get_or ups i 0) → rank ups n x ≡ r
unfolding rank
rank_is ups n x r h a b =
    count-cong (λ i. leb _ x) (λ i. ltb i r) n (λ i l. elim (dec_lt i r) [
      | yes s ↦ le-leb _ x (a i s) ∙ sym (lt-ltb i r s)
      | no f ↦ lt-leb _ x (b i (omega arith) l) ∙ sym (le-ltb i r (omega arith))
    ]) ∙ count-first r n h

-- ---- what `partition_point` says of the first n ends, which ascend

module _ (ups : List ℕ) (n x : ℕ) (within : n ≤ length ups) where
  front_at : (k d : ℕ) → k < n → get_or (take n ups) k d ≡ get_or ups k 0
  front_at k d h = get_or-take n ups k d h ∙ get_or_default ups k d 0 (omega arith)

  pub parted : Climbing ups n → IsPartitionedBy (λ y. leb y x) (take n ups)
  parted c i j d order h t =
      let low : j < n = omega (arith, h, length-take n ups) in
      let top : get_or ups j 0 ≤ x = leb-true (get_or ups j 0) x (rw (front_at j d low) at t) in
      rw (front_at i d (omega arith)) (le-leb (get_or ups i 0) x (omega (arith, c.up i j order low)))

  pub ranked : (k : ℕ) → k ≤ length (take n ups) → IsPartitionPoint (λ y. leb y x ≡ true) (λ y. leb y x ≡ false) (take n ups) k → k ≡ rank ups n x
  ranked k h p =
      let long : length (take n ups) ≡ n = omega (arith, length-take n ups) in
      sym (rank_is ups n x k (omega arith)
      (λ i l. leb-true (get_or ups i 0) x (rw (front_at i 0 (omega arith)) at (p.0 i 0 (omega arith) l)))
      (λ i l b. leb-false (get_or ups i 0) x (rw (front_at i 0 b) at (p.1 i 0 l (omega arith)))))

-- what the rank says: the ends before it are at most the number, and its own is above
module _ {ups : List ℕ} {n : ℕ} (c : Climbing ups n) (x : ℕ) where
  -- the first end above x, of the first m
  record First (m : ℕ) : Type 0 where
    at : ℕ
    within : at ≤ m
    under : (i : ℕ) → i < at → get_or ups i 0 ≤ x
    over : (i : ℕ) → at ≤ i → i < m → x < get_or ups i 0

  first : (m : ℕ) → m ≤ n → First m
  first zero h = record { at = 0; within = omega arith; under = λ i l. absurd (omega arith); over = λ i l b. absurd (omega arith) }
  first (suc m) h =
      let f = first m (omega arith) in
      elim (dec_lt x (get_or ups m 0)) [
        | yes l ↦ record { at = f.at; within = omega arith; under = f.under; over = λ i a b. elim (dec_lt i m) [ yes k ↦ f.over i a k | no k ↦ let e : i ≡ m = omega arith in rw e l ] }
        | no l ↦ record { at = suc m; within = omega arith; under = λ i b. omega (arith, c.up i m (omega arith) (omega arith)); over = λ i a b. absurd (omega arith) }
      ]

  of-all : First n
  of-all = first n (omega arith)

  rank-first : rank ups n x ≡ of-all.at
  rank-first = rank_is ups n x of-all.at of-all.within of-all.under of-all.over

  pub rank-under : (i : ℕ) → i < rank ups n x → get_or ups i 0 ≤ x
  rank-under i l = of-all.under i (omega (arith, rank-first))

  pub rank-over : rank ups n x < n → x < get_or ups (rank ups n x) 0
  rank-over l = of-all.over _ (omega (arith, rank-first)) l
