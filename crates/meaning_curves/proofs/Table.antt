-- The table holds the least totals. `attained`: what it holds is the total of a path (by recursion on the table). `least-total`: no path to (i, j) has a smaller one (by induction on the path).
-- Inside the band there is always a path (`in-band`), so `warped` is the warped distance (`warped-is`), and there is only one (`warped-only`).
use Rattle.meaning_numbers.proofs.Prelude.{◌≡◌, refl, Bool, true, false, Option, None, Some, ℕ, zero, suc, ◌+◌, ◌-◌, ◌≤◌, min, arith, min_cases, T, leb, leb→le, le→leb, ℤ, two-tests, both-tests}
use Rattle.meaning_curves.specs.Table.{near, when, plus, least, step, first_row, next_row, table, value_of, warped}
use Rattle.meaning_curves.specs.{Straight.cost, Warp.Near, Warp.WarpPath, Warp.start, Warp.first, Warp.second, Warp.both, Warp.IsWarped}

-- ---- totals that may be missing

-- what is there has the property P
pub data All (P : ℕ → Type 0) : Option ℕ → Type 0 where
  missing : All P None
  there : {t : ℕ} → P t → All P (Some t)

-- something is there, and it is at most n
pub data Under : Option ℕ → ℕ → Type 0 where
  under : (d n : ℕ) → d ≤ n → Under (Some d) n

when-all : {P : ℕ → Type 0} (t : Bool) {o : Option ℕ} → (T t → All P o) → All P (when t o)
unfolding when
when-all true f = f tt
when-all false f = missing

plus-all : {P : ℕ → Type 0} (c : ℕ) {o : Option ℕ} → All (λ t. P (t + c)) o → All P (plus o c)
unfolding plus
plus-all c missing = missing
plus-all c (there h) = there h

pub all_map : {P Q : ℕ → Type 0} {o : Option ℕ} → ((t : ℕ) → P t → Q t) → All P o → All Q o
all_map f missing = missing
all_map f (there {t} h) = there (f t h)

pub least-all : {P : ℕ → Type 0} {o r : Option ℕ} → All P o → All P r → All P (least o r)
unfolding least
least-all missing k = k
least-all (there h) missing = there h
least-all {P} (there {t = x} h) (there {t = y} k) = there (min_cases x y (P (min x y)) (λ l e. rw e h) (λ l e. rw e k))

pub when-under : (t : Bool) {o : Option ℕ} {n : ℕ} → T t → Under o n → Under (when t o) n
unfolding when
when-under true h k = k
when-under false h k = absurd h

plus-under : (c : ℕ) {o : Option ℕ} {n : ℕ} → Under o n → Under (plus o c) (n + c)
unfolding plus
plus-under c (under d n h) = under (d + c) (n + c) (omega arith)

pub least-left : {o : Option ℕ} (r : Option ℕ) {n : ℕ} → Under o n → Under (least o r) n
unfolding least
least-left None (under d n h) = under d n h
least-left (Some y) (under d n h) = under (min d y) n (omega arith)

pub least-right : (o : Option ℕ) {r : Option ℕ} {n : ℕ} → Under r n → Under (least o r) n
unfolding least
least-right None h = h
least-right (Some x) (under d n h) = under (min x d) n (omega arith)

value-all : {P : ℕ → Type 0} {o : Option ℕ} {n : ℕ} → All P o → Under o n → P (value_of o)
unfolding value_of
value-all (there h) (under d n k) = h
value-all {P = P} {n = n} missing h = elim h [ ]

value-under : {o : Option ℕ} {n : ℕ} → Under o n → value_of o ≤ n
unfolding value_of
value-under (under d n h) = h

-- ---- the band as a test

pub near-yes : (b i j : ℕ) → T (near b i j) → Near b i j
near-yes b i j t =
    let h = two-tests (leb i (j + b)) (leb j (i + b)) t in
    record { first = leb→le i (j + b) h.0; second = leb→le j (i + b) h.1 }

pub yes_near : {b i j : ℕ} → Near b i j → T (near b i j)
yes_near {b} {i} {j} n = both-tests (leb i (j + b)) (leb j (i + b)) (le→leb i (j + b) n.first) (le→leb j (i + b) n.second)

-- ---- the table

module _ (s q : ℕ → ℤ) (b : ℕ) where
  -- the recurrence, as a loop over the rows uses it
  pub table-start : table s q b 0 0 ≡ Some (cost (s 0) (q 0))
  unfolding table first_row
  table-start = refl

  pub table-top : (j : ℕ) → table s q b 0 (suc j) ≡ step s q b 0 (suc j) (table s q b 0 j)
  unfolding table first_row
  table-top j = refl

  pub table-side : (i : ℕ) → table s q b (suc i) 0 ≡ step s q b (suc i) 0 (table s q b i 0)
  unfolding table next_row
  table-side i = refl

  pub table-inner : (i j : ℕ) → table s q b (suc i) (suc j)
      ≡ step s q b (suc i) (suc j) (least (table s q b i j) (least (table s q b i (suc j)) (table s q b (suc i) j)))
  unfolding table next_row
  table-inner i j = refl

  -- ---- attained

  step-all : (i j : ℕ) {P : ℕ → Type 0} {o : Option ℕ} → (Near b i j → All (λ t. P (t + cost (s i) (q j))) o) → All P (step s q b i j o)
  unfolding step
  step-all i j f = when-all _ (λ t. plus-all _ (f (near-yes b i j t)))

  first-row-all : (j : ℕ) → All (WarpPath s q b 0 j) (first_row s q b j)
  unfolding first_row
  first-row-all zero = there start
  first-row-all (suc j) = step-all 0 (suc j) (λ n. all_map (λ t p. second p n) (first-row-all j))

  next-row-all : (i j : ℕ) (before : ℕ → Option ℕ) → ((k : ℕ) → All (WarpPath s q b i k) (before k)) → All (WarpPath s q b (suc i) j) (next_row s q b i before j)
  unfolding next_row
  next-row-all i zero before h = step-all (suc i) 0 (λ n. all_map (λ t p. first p n) (h 0))
  next-row-all i (suc j) before h = step-all (suc i) (suc j) (λ n.
      least-all (all_map (λ t p. both p n) (h j)) (least-all (all_map (λ t p. first p n) (h (suc j))) (all_map (λ t p. second p n) (next-row-all i j before h))))

  pub attained : (i j : ℕ) → All (WarpPath s q b i j) (table s q b i j)
  unfolding table
  attained zero j = first-row-all j
  attained (suc i) j = next-row-all i j _ (attained i)

  -- ---- and least

  step-under : {i j n : ℕ} {o : Option ℕ} → Near b i j → Under o n → Under (step s q b i j o) (n + cost (s i) (q j))
  unfolding step
  step-under {i} {j} h k = when-under _ (yes_near h) (plus-under _ k)

  after_first : (i j : ℕ) {n : ℕ} → Near b (suc i) j → Under (table s q b i j) n → Under (table s q b (suc i) j) (n + cost (s (suc i)) (q j))
  unfolding table next_row
  after_first i zero h k = step-under h k
  after_first i (suc j) h k = step-under h (least-right _ (least-left _ k))

  after-second : (i j : ℕ) {n : ℕ} → Near b i (suc j) → Under (table s q b i j) n → Under (table s q b i (suc j)) (n + cost (s i) (q (suc j)))
  unfolding table first_row next_row
  after-second zero j h k = step-under h k
  after-second (suc i) j h k = step-under h (least-right _ (least-right _ k))

  after_both : (i j : ℕ) {n : ℕ} → Near b (suc i) (suc j) → Under (table s q b i j) n → Under (table s q b (suc i) (suc j)) (n + cost (s (suc i)) (q (suc j)))
  unfolding table next_row
  after_both i j h k = step-under h (least-left _ k)

  pub least-total : {i j n : ℕ} → WarpPath s q b i j n → Under (table s q b i j) n
  unfolding table first_row
  least-total start = under (cost (s 0) (q 0)) (cost (s 0) (q 0)) (omega arith)
  least-total (first {i} {j} p n) = after_first i j n (least-total p)
  least-total (second {i} {j} p n) = after-second i j n (least-total p)
  least-total (both {i} {j} p n) = after_both i j n (least-total p)

  -- ---- inside the band there is a path

  pub in-band : (i j : ℕ) → Near b i j → (t : ℕ) × WarpPath s q b i j t
  in-band zero zero n = (_, start)
  in-band zero (suc j) n = let p = in-band zero j (omega arith) in (_, second p.1 n)
  in-band (suc i) zero n = let p = in-band i zero (omega arith) in (_, first p.1 n)
  in-band (suc i) (suc j) n = let p = in-band i j (omega arith) in (_, both p.1 n)

  -- ---- so it holds a number there, the least total

  pub least-path : (i j : ℕ) → Near b i j → WarpPath s q b i j (value_of (table s q b i j))
  least-path i j n = value-all (attained i j) (least-total (in-band i j n).1)

  pub least-value : {i j n : ℕ} → WarpPath s q b i j n → value_of (table s q b i j) ≤ n
  least-value p = value-under (least-total p)

pub warped-is : (s q : ℕ → ℤ) (b m : ℕ) → IsWarped s q b m (warped s q b m)
unfolding warped
warped-is s q b m = record { attained = least-path s q b (m - 1) (m - 1) (omega arith); least = λ t p. least-value s q b p }

pub warped-only : {s q : ℕ → ℤ} {b m d e : ℕ} → IsWarped s q b m d → IsWarped s q b m e → d ≡ e
warped-only {d = d} {e} i k = omega (arith, i.least e k.attained, k.least d i.attained)
