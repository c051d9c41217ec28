-- A build's rows hold every window exactly once (`built-once`), each exactly the windows whose sums lie in its range (`built-holds`). They ascend, none is empty (`built-tiled`, `built-occupied`),
-- and there are at most as many rows and runs as windows (`built-length`, `built-runs`). Filed rows tile the windows, with no window's sum between neighbours, and merging keeps that.
use Rattle.meaning_numbers.specs.{Sum.bit, Place.any}
use Rattle.meaning_numbers.proofs.Count.{bit-true}
use Rattle.meaning_numbers.proofs.Member.{any-mem, any-map, mem-map, All, all-mem, mem-all, map-mem}
use Rattle.meaning_numbers.proofs.Prelude.{◌≡◌, refl, sym, ap, ◌∙◌, subst, ◌⊎◌, inl, inr, ⊎_elim, Bool, true, false, ◌&&◌, or-true, List, [], ◌∷◌, map, List-as-Memᴰ as Mem, List·Memᴰ·head as here, List·Memᴰ·tail as there, List·Memᴰ·not-nil as not-nil, List·Memᴰ·cases-cons as cases, ℕ, zero, suc, ◌+◌, ◌*◌, ◌<◌, ◌≤◌, arith, le_step, dec_lt, ltb, length, length-map, length-append, ℤ, ◌≤ℤ◌, ◌<ℤ◌, lt_z, ≤ℤ_refl, lt-ltb, le-ltb, ltb-true, zarith, lt_z-true, lt_z-false, lt-lt_z, le-lt_z, by-test, clash}
use Rattle.meaning_rows.specs.Build.{SetRow, insert, row_numbers, row_at, filed, join, takes, upward, merged, entry, with_runs, built_rows}
use Rattle.meaning_rows.specs.{Range.row_number, Range.low_of, Range.up_of, Range.inside, Runs.runs, Runs.run_count, Index.RangeRow, Index.in_run, Index.all_runs}
use Rattle.meaning_rows.proofs.Runs.{runs-le-count, runs-hold, held, entries-of-runs}
use Rattle.meaning_rows.proofs.Range.{inside-yes, is-inside, inside-join, widen, next_le, row-after, row_before, in-own}
use Rattle.meaning_rows.proofs.Times.{Range, Ascending, holders, holders-are, times, sizes, sizes-all}

abbrev pub range : SetRow → Range
range r = (r.low, r.up)

-- the sets of rows
abbrev pub sets : List SetRow → List (ℕ → Bool)
sets l = map (λ r. r.has) l

-- some row's range holds z
abbrev pub holds_sum : ℤ → List SetRow → Bool
holds_sum z l = any (λ r. inside r.low r.up z) l

-- the row has j exactly if its range holds z
abbrev pub Exact : ℤ → ℕ → SetRow → Type 0
Exact z j r = r.has j ≡ inside r.low r.up z

exact-times : (z : ℤ) (j : ℕ) (rows : List SetRow) → All (Exact z j) rows → times (sets rows) j ≡ holders (map range rows) z
unfolding All times holders
exact-times z j [] h = refl
exact-times z j (r ∷ rest) h = rw (h.0, exact-times z j rest h.1)

-- where rows ascend and one holds its sum, an offset stands in one row
pub exact-once : (a z : ℤ) (j : ℕ) (rows : List SetRow) → Ascending a (map range rows) → All (Exact z j) rows → holds_sum z rows ≡ true → times (sets rows) j ≡ 1
exact-once a z j rows p h e = exact-times z j rows h ∙ holders-are a z _ p ∙ rw (any-map _ range rows, e) (bit-true refl)

-- ---- rows that tile the windows

pub record Fine (sum : ℕ → ℤ) (n : ℕ) (r : SetRow) : Type 0 where
  pub wide : r.low <ℤ r.up
  pub exact : (j : ℕ) → j < n → r.has j ≡ inside r.low r.up (sum j)

-- from one row's up to the next one's low: in order, and no window between
pub record Gap (sum : ℕ → ℤ) (n : ℕ) (up low : ℤ) : Type 0 where
  pub order : up ≤ℤ low
  pub none : (j : ℕ) → j < n → up ≤ℤ sum j → sum j <ℤ low → ⊥

unfoldable pub Chain : (ℕ → ℤ) → ℕ → SetRow → List SetRow → Type 0
Chain sum n r [] = Fine sum n r
Chain sum n r (s ∷ rest) = Fine sum n r × Gap sum n r.up s.low × Chain sum n s rest

unfoldable pub Tiled : (ℕ → ℤ) → ℕ → List SetRow → Type 0
Tiled sum n [] = Unit {0}
Tiled sum n (r ∷ rest) = Chain sum n r rest

unfoldable From : (ℕ → ℤ) → ℕ → ℤ → List SetRow → Type 0
From sum n low [] = ⊥
From sum n low (r ∷ rest) = (r.low ≡ low) × Chain sum n r rest

pub upward-yes : (g n : ℕ) (r s : SetRow) (rest : List SetRow) → takes g n r s ≡ true → upward g n r (s ∷ rest) ≡ upward g n (join r s) rest
unfolding upward
upward-yes g n r s rest t = rw (t, upward)

pub upward-no : (g n : ℕ) (r s : SetRow) (rest : List SetRow) → takes g n r s ≡ false → upward g n r (s ∷ rest) ≡ r ∷ upward g n s rest
unfolding upward
upward-no g n r s rest f = rw (f, upward)

from-tiled : (sum : ℕ → ℤ) (n : ℕ) (low : ℤ) (rows : List SetRow) → From sum n low rows → Tiled sum n rows
unfolding From Tiled
from-tiled sum n low [] h = tt
from-tiled sum n low (r ∷ rest) h = h.1

-- ---- merging keeps it

module _ (sum : ℕ → ℤ) (n : ℕ) where
  fine-first : (r : SetRow) (rest : List SetRow) → Chain sum n r rest → Fine sum n r
  unfolding Chain
  fine-first r [] c = c
  fine-first r (s ∷ rest) c = c.0

  fine-join : (r s : SetRow) → Fine sum n r → Fine sum n s → Gap sum n r.up s.low → Fine sum n (join r s)
  unfolding join
  fine-join r s f g gap =
      record {
        wide = omega zarith;
        exact = λ j l. rw (f.exact j l, g.exact j l) (inside-join _ r.up _ s.up (sum j) (omega zarith) gap.order (omega zarith) (gap.none j l));
      }

  chain-join : (r s : SetRow) (rest : List SetRow) → Chain sum n r (s ∷ rest) → Chain sum n (join r s) rest
  unfolding Chain join
  chain-join r s [] c = fine-join r s c.0 c.2 c.1
  chain-join r s (t ∷ rest) c = (fine-join r s c.0 c.2.0 c.1, c.2.1, c.2.2)

  chain-cons : (r : SetRow) (low : ℤ) (rows : List SetRow) → Fine sum n r → Gap sum n r.up low → From sum n low rows → Chain sum n r rows
  unfolding Chain From
  chain-cons r low [] f g h = absurd h
  chain-cons r low (s ∷ rest) f g h = (f, rw h.0 g, h.1)

  upward-from : (g : ℕ) (r : SetRow) (rest : List SetRow) → Chain sum n r rest → From sum n r.low (upward g n r rest)
  unfolding upward From Chain join
  upward-from g r [] c = (refl, c)
  upward-from g r (s ∷ rest) c = by-test _
      (λ t. rw (upward-yes g n r s rest t) (upward-from g _ rest (chain-join r s rest c)))
      (λ f. rw (upward-no g n r s rest f) (refl, chain-cons r _ (upward g n s rest) c.0 c.1 (upward-from g s rest c.2)))

  pub merged-tiled : (g : ℕ) (rows : List SetRow) → Tiled sum n rows → Tiled sum n (merged g n rows)
  unfolding merged Tiled
  merged-tiled g [] t = tt
  merged-tiled g (r ∷ rest) t = from-tiled sum n _ _ (upward-from g r rest t)

  -- what a range holds, a range holds after merging
  join-covers : (z : ℤ) (r s : SetRow) (rest : List SetRow) → Chain sum n r (s ∷ rest) → holds_sum z (r ∷ s ∷ rest) ≡ true → holds_sum z (join r s ∷ rest) ≡ true
  unfolding any join Chain
  join-covers z r s rest c e =
      let b = (fine-first s rest c.2).wide in by-test _
      (λ t. let i = is-inside _ r.up z t in let l = i.1 in rw (inside-yes r.low s.up z i.0 (omega zarith)))
      (λ f. by-test _
      (λ t. let i = is-inside s.low s.up z t in let k = i.0 in rw (inside-yes r.low s.up z (omega zarith) i.1))
      (λ g. let k : holds_sum z rest ≡ true = rw (f, g) at e in rw k (or-true (inside r.low s.up z))))

  upward-covers : (g : ℕ) (z : ℤ) (r : SetRow) (rest : List SetRow) → Chain sum n r rest → holds_sum z (r ∷ rest) ≡ true → holds_sum z (upward g n r rest) ≡ true
  unfolding upward any Chain
  upward-covers g z r [] c e = e
  upward-covers g z r (s ∷ rest) c e = by-test _
      (λ t. rw (upward-yes g n r s rest t) (upward-covers g z _ rest (chain-join r s rest c) (join-covers z r s rest c e)))
      (λ f. rw (upward-no g n r s rest f) (by-test (inside r.low r.up z) (λ t. rw t) (λ u. rw u (upward-covers g z s rest c.2 (rw u at e)))))

  pub merged-covers : (g : ℕ) (z : ℤ) (rows : List SetRow) → Tiled sum n rows → holds_sum z rows ≡ true → holds_sum z (merged g n rows) ≡ true
  unfolding merged Tiled
  merged-covers g z [] t e = e
  merged-covers g z (r ∷ rest) t e = upward-covers g z r rest t e

  -- tiled rows ascend, and each is fine
  chain-ascends : (a : ℤ) (r : SetRow) (rest : List SetRow) → a ≤ℤ r.low → Chain sum n r rest → Ascending a (map range (r ∷ rest)) × All (Fine sum n) (r ∷ rest)
  unfolding Chain Ascending All
  chain-ascends a r [] h c = ((h, c.wide, tt), (c, tt))
  chain-ascends a r (s ∷ rest) h c = let k = chain-ascends r.up s rest c.1.order c.2 in ((h, c.0.wide, k.0), (c.0, k.1))

  pub tiled-ascends : (a : ℤ) (rows : List SetRow) → All (λ r. a ≤ℤ r.low) rows → Tiled sum n rows → Ascending a (map range rows)
  unfolding Tiled Ascending All
  tiled-ascends a [] h t = tt
  tiled-ascends a (r ∷ rest) h t = (chain-ascends a r rest h.0 t).0

  pub tiled-fine : (rows : List SetRow) → Tiled sum n rows → All (Fine sum n) rows
  unfolding Tiled All
  tiled-fine [] t = tt
  tiled-fine (r ∷ rest) t = (chain-ascends _ r rest (≤ℤ_refl _) t).1

  pub tiled-once : (j : ℕ) → j < n → (rows : List SetRow) → Tiled sum n rows → holds_sum (sum j) rows ≡ true → times (sets rows) j ≡ 1
  unfolding Tiled any bit
  tiled-once j b [] t e = clash e refl
  tiled-once j b (r ∷ rest) t e =
      let k = chain-ascends _ r rest (≤ℤ_refl _) t in
      exact-once _ (sum j) j _ k.0 (mem-all _ _ (λ q m. (all-mem _ _ k.1 m).exact j b)) e

-- ---- what both rows of a join have, it has

module _ (P : SetRow → Type 0) (joins : (r s : SetRow) → P r → P s → P (join r s)) (g n : ℕ) where
  upward-all : (r : SetRow) (rest : List SetRow) → P r → All P rest → All P (upward g n r rest)
  unfolding upward All
  upward-all r [] o a = (o, tt)
  upward-all r (s ∷ rest) o a = by-test _
      (λ t. rw (upward-yes g n r s rest t) (upward-all _ rest (joins r s o a.0) a.1))
      (λ f. rw (upward-no g n r s rest f) (o, upward-all s rest a.0 a.1))

  pub merged-all : (rows : List SetRow) → All P rows → All P (merged g n rows)
  unfolding merged All
  merged-all [] a = tt
  merged-all (r ∷ rest) a = upward-all r rest a.0 a.1

upward-length : (g n : ℕ) (r : SetRow) (rest : List SetRow) → length (upward g n r rest) ≤ suc (length rest)
unfolding upward
upward-length g n r [] = omega arith
upward-length g n r (s ∷ rest) = by-test _
    (λ t. rw (upward-yes g n r s rest t) (omega (arith, upward-length g n (join r s) rest)))
    (λ f. rw (upward-no g n r s rest f) (omega (arith, upward-length g n s rest)))

pub merged-length : (g n : ℕ) (rows : List SetRow) → length (merged g n rows) ≤ length rows
unfolding merged
merged-length g n [] = omega arith
merged-length g n (r ∷ rest) = upward-length g n r rest

-- ---- filing: the row numbers that occur, ascending

unfoldable pub Above : ℤ → List ℤ → Type 0
Above x [] = Unit {0}
Above x (y ∷ l) = (x <ℤ y) × Above x l

unfoldable pub Sorted : List ℤ → Type 0
Sorted [] = Unit {0}
Sorted (x ∷ l) = Above x l × Sorted l

above-less : (k x : ℤ) (l : List ℤ) → k <ℤ x → Above x l → Above k l
unfolding Above
above-less k x [] h a = tt
above-less k x (y ∷ l) h a = (omega zarith, above-less k x l h a.1)

pub mem-above : (z x : ℤ) (l : List ℤ) → Above x l → Mem z l → x <ℤ z
unfolding Above
mem-above z x [] a m = absurd (not-nil m)
mem-above z x (y ∷ l) a m = ⊎_elim (λ e. rw e a.0) (λ n. mem-above z x l a.1 n) (cases m)

-- by the three cases of an insertion
insert-lt : (k x : ℤ) (l : List ℤ) → k <ℤ x → insert k (x ∷ l) ≡ k ∷ x ∷ l
unfolding insert
insert-lt k x l h = rw (lt-lt_z h)

insert-gt : (k x : ℤ) (l : List ℤ) → x <ℤ k → insert k (x ∷ l) ≡ x ∷ insert k l
unfolding insert
insert-gt k x l h = let b : x ≤ℤ k = omega zarith in rw (le-lt_z b, lt-lt_z h)

insert-eq : (k x : ℤ) (l : List ℤ) → k ≡ x → insert k (x ∷ l) ≡ x ∷ l
unfolding insert
insert-eq k x l e = let b : x ≤ℤ k = omega zarith in let m : k ≤ℤ x = omega zarith in rw (le-lt_z b, le-lt_z m)

pub three {ℓ} : {X : Type ℓ} (k x : ℤ) → (k <ℤ x → X) → (x <ℤ k → X) → (k ≡ x → X) → X
three k x a b c = by-test (lt_z k x) (λ t. a (lt_z-true t)) (λ f. by-test (lt_z x k) (λ t. b (lt_z-true t))
    (λ g. let p : x ≤ℤ k = lt_z-false f in let q : k ≤ℤ x = lt_z-false g in c (omega zarith)))

above-insert : (x k : ℤ) (l : List ℤ) → x <ℤ k → Above x l → Above x (insert k l)
unfolding Above insert
above-insert x k [] h a = (h, tt)
above-insert x k (y ∷ l) h a = three k y
    (λ b. rw (insert-lt k y l b) (h, a))
    (λ b. rw (insert-gt k y l b) (a.0, above-insert x k l h a.1))
    (λ b. rw (insert-eq k y l b) a)

pub insert-sorted : (k : ℤ) (l : List ℤ) → Sorted l → Sorted (insert k l)
unfolding Sorted insert Above
insert-sorted k [] s = (tt, tt)
insert-sorted k (y ∷ l) s = three k y
    (λ b. rw (insert-lt k y l b) ((b, above-less k y l b s.0), s))
    (λ b. rw (insert-gt k y l b) (above-insert y k l b s.0, insert-sorted k l s.1))
    (λ b. rw (insert-eq k y l b) s)

pub insert-mem : (k : ℤ) (l : List ℤ) → Mem k (insert k l)
unfolding insert
insert-mem k [] = here refl
insert-mem k (y ∷ l) = three k y
    (λ b. rw (insert-lt k y l b) (here refl))
    (λ b. rw (insert-gt k y l b) (there (insert-mem k l)))
    (λ b. rw (insert-eq k y l b) (here b))

pub insert-keeps : (z k : ℤ) (l : List ℤ) → Mem z l → Mem z (insert k l)
insert-keeps z k [] m = absurd (not-nil m)
insert-keeps z k (y ∷ l) m = three k y
    (λ b. rw (insert-lt k y l b) (there m))
    (λ b. rw (insert-gt k y l b) (⊎_elim (λ e. here e) (λ n. there (insert-keeps z k l n)) (cases m)))
    (λ b. rw (insert-eq k y l b) m)

pub insert-only : (z k : ℤ) (l : List ℤ) → Mem z (insert k l) → (z ≡ k) ⊎ Mem z l
unfolding insert
insert-only z k [] m = ⊎_elim (λ e. inl e) (λ o. absurd (not-nil o)) (cases m)
insert-only z k (y ∷ l) m = three k y
    (λ b. cases (rw (insert-lt k y l b) at m))
    (λ b. ⊎_elim (λ e. inr (here e)) (λ o. ⊎_elim (λ e. inl e) (λ q. inr (there q)) (insert-only z k l o)) (cases (rw (insert-gt k y l b) at m)))
    (λ b. inr (rw (insert-eq k y l b) at m))

insert-length : (k : ℤ) (l : List ℤ) → length (insert k l) ≤ suc (length l)
unfolding insert
insert-length k [] = omega arith
insert-length k (y ∷ l) = three k y
    (λ b. rw (insert-lt k y l b) (omega arith))
    (λ b. rw (insert-gt k y l b) (omega (arith, insert-length k l)))
    (λ b. rw (insert-eq k y l b) (omega arith))

pub numbers-sorted : (sum : ℕ → ℤ) (d n : ℕ) → Sorted (row_numbers sum d n)
unfolding row_numbers Sorted
numbers-sorted sum d zero = tt
numbers-sorted sum d (suc n) = insert-sorted _ _ (numbers-sorted sum d n)

pub numbers-mem : (sum : ℕ → ℤ) (d n j : ℕ) → j < n → Mem (row_number d (sum j)) (row_numbers sum d n)
unfolding row_numbers
numbers-mem sum d zero j l = absurd (omega arith)
numbers-mem sum d (suc n) j l = elim (dec_lt j n) [
  | yes h ↦ insert-keeps _ _ _ (numbers-mem sum d n j h)
  | no f ↦ let e : j ≡ n = omega arith in rw e (insert-mem _ _)
]

pub numbers-length : (sum : ℕ → ℤ) (d n : ℕ) → length (row_numbers sum d n) ≤ n
unfolding row_numbers
numbers-length sum d zero = omega arith
numbers-length sum d (suc n) = omega (arith, insert-length (row_number d (sum n)) (row_numbers sum d n), numbers-length sum d n)

-- every row number occurs
pub record Occurs (sum : ℕ → ℤ) (d n : ℕ) (k : ℤ) : Type 0 where
  pub at : ℕ
  pub below : at < n
  pub is : row_number d (sum at) ≡ k

pub numbers-occur : (sum : ℕ → ℤ) (d n : ℕ) (z : ℤ) → Mem z (row_numbers sum d n) → Occurs sum d n z
unfolding row_numbers
numbers-occur sum d zero z m = absurd (not-nil m)
numbers-occur sum d (suc n) z m = ⊎_elim
    (λ e. record { at = n; below = omega arith; is = sym e })
    (λ o. let r = numbers-occur sum d n z o in record { at = r.at; below = le_step r.below; is = r.is })
    (insert-only z _ _ m)

-- two ascending lists with the same members are the same
pub sorted-unique : (l m : List ℤ) → Sorted l → Sorted m → ((z : ℤ) → Mem z l → Mem z m) → ((z : ℤ) → Mem z m → Mem z l) → l ≡ m
unfolding Sorted
sorted-unique [] [] s t f g = refl
sorted-unique [] (y ∷ m) s t f g = absurd (not-nil (g y (here refl)))
sorted-unique (x ∷ l) [] s t f g = absurd (not-nil (f x (here refl)))
sorted-unique (x ∷ l) (y ∷ m) s t f g =
    let e = ⊎_elim (λ e. e) (λ o. ⊎_elim (λ e. sym e)
    (λ n. let a = mem-above x y m t.0 o in let b : x <ℤ y = mem-above y x l s.0 n in absurd (omega zarith)) (cases (g y (here refl)))) (cases (f x (here refl))) in
    cc (
      e,
      sorted-unique l m s.1 t.1
          (λ z o. ⊎_elim (λ q. let a = mem-above z x l s.0 o in absurd (omega zarith)) (λ n. n) (cases (f z (there o))))
          (λ z o. ⊎_elim (λ q. let a : y <ℤ z = mem-above z y m t.0 o in absurd (omega zarith)) (λ n. n) (cases (g z (there o)))),
    )

-- ---- no row is empty

pub record Occupied (n : ℕ) (r : SetRow) : Type 0 where
  pub at : ℕ
  pub below : at < n
  pub member : r.has at ≡ true

occupied-join : (n : ℕ) (r s : SetRow) → Occupied n r → Occupied n s → Occupied n (join r s)
unfolding join
occupied-join n r s o q = record { at = o.at; below = o.below; member = rw o.member }

some-held : (l : List (ℕ × ℕ)) (j : ℕ) → held l j ≡ true → 1 ≤ length l
unfolding held
some-held [] j e = clash e refl
some-held (x ∷ l) j e = omega arith

pub occupied-runs : (n : ℕ) (r : SetRow) → Occupied n r → 1 ≤ run_count r.has n
occupied-runs n r o = some-held _ o.at (runs-hold _ n o.at ∙ rw (lt-ltb o.at n o.below, o.member))

-- both ends of a range are so
pub record Ends (P : ℤ → Type 0) (r : SetRow) : Type 0 where
  pub low_end : P r.low
  pub up-end : P r.up

ends_join : (P : ℤ → Type 0) (r s : SetRow) → Ends P r → Ends P s → Ends P (join r s)
unfolding join
ends_join P r s o q = record { low_end = o.low_end; up-end = q.up-end }

-- runs are at most as many as members
pub runs-sizes : (n : ℕ) (rows : List SetRow) → length (all_runs (map (with_runs n) rows)) ≤ sizes (sets rows) n
unfolding all_runs with_runs sizes
runs-sizes n [] = omega arith
runs-sizes n (r ∷ rows) = omega (
  arith,
  length-append (map entry (runs r.has n)) (all_runs (map (with_runs n) rows)),
  length-map (runs r.has n) entry,
  runs-le-count r.has n,
  runs-sizes n rows,
)

-- ---- the build

-- the rows of a build, with their offsets as sets
abbrev pub merged_rows : (ℕ → ℤ) → ℕ → ℕ → ℕ → List SetRow
merged_rows sum d g n = merged g n (filed sum d n)

module _ (sum : ℕ → ℤ) (d n : ℕ) (one : 0 < d) where
  fine-at : (k : ℤ) → Fine sum n (row_at sum d k)
  unfolding row_at
  fine-at k = record { wide = widen d k one; exact = λ j l. refl }

  -- a window's row number is at most k, or among those that follow
  filed-chain : (k : ℤ) (ks : List ℤ) → Sorted (k ∷ ks) → ((j : ℕ) → j < n → (row_number d (sum j) ≤ℤ k) ⊎ Mem (row_number d (sum j)) ks)
      → Chain sum n (row_at sum d k) (map (row_at sum d) ks)
  unfolding Chain Sorted Above row_at
  filed-chain k [] s m = fine-at k
  filed-chain k (l ∷ ks) s m =
      let k<l : k <ℤ l = s.0.0 in (
        fine-at k,
        record {
          order = next_le d k l k<l;
          none = λ j b h t. let up : k <ℤ row_number d (sum j) = row-after d k (sum j) one h in
              let dn : row_number d (sum j) <ℤ l = row_before d l (sum j) one t in
              ⊎_elim (λ low. omega zarith)
              (λ o. ⊎_elim (λ e. omega zarith) (λ q. let x : l <ℤ row_number d (sum j) = mem-above _ l ks s.1.0 q in omega zarith) (cases o)) (m j b);
        },
        filed-chain l ks s.1 (λ j b. ⊎_elim (λ low. inl (omega zarith)) (λ o. ⊎_elim (λ e. inl (omega zarith)) (λ q. inr q) (cases o)) (m j b)),
      )

  tiled-of : (ks : List ℤ) → Sorted ks → ((j : ℕ) → j < n → Mem (row_number d (sum j)) ks) → Tiled sum n (map (row_at sum d) ks)
  unfolding Tiled Sorted
  tiled-of [] s m = tt
  tiled-of (k ∷ ks) s m = filed-chain k ks s (λ j b. ⊎_elim (λ e. inl (omega zarith)) (λ o. inr o) (cases (m j b)))

  pub filed-tiled : Tiled sum n (filed sum d n)
  unfolding filed
  filed-tiled = tiled-of _ (numbers-sorted sum d n) (λ j b. numbers-mem sum d n j b)

  pub filed-covers : (j : ℕ) → j < n → holds_sum (sum j) (filed sum d n) ≡ true
  unfolding filed row_at
  filed-covers j b = any-mem (λ r. inside _ r.up (sum j)) (mem-map _ (numbers-mem sum d n j b)) (in-own d (sum j) one)

  filed-all : (P : SetRow → Type 0) → ((j : ℕ) → j < n → P (row_at sum d (row_number d (sum j)))) → All P (filed sum d n)
  unfolding filed
  filed-all P h = mem-all P _ (λ r m.
      let i = map-mem _ _ m in
      let o = numbers-occur sum d n _ i.is in
      subst P (sym (i.same ∙ ap (row_at sum d) (sym o.is))) (h o.at o.below))

  module _ (g : ℕ) where
    pub built-tiled : Tiled sum n (merged_rows sum d g n)
    built-tiled = merged-tiled sum n g _ filed-tiled

    pub built-covers : (j : ℕ) → j < n → holds_sum (sum j) (merged_rows sum d g n) ≡ true
    built-covers j b = merged-covers sum n g (sum j) _ filed-tiled (filed-covers j b)

    pub built-once : (j : ℕ) → j < n → times (sets (merged_rows sum d g n)) j ≡ 1
    built-once j b = tiled-once sum n j b _ built-tiled (built-covers j b)

    pub built-occupied : All (Occupied n) (merged_rows sum d g n)
    unfolding row_at
    built-occupied = merged-all _ (occupied-join n) g n _
        (filed-all _ (λ j b. record { at = j; below = b; member = in-own d (sum j) one }))

    pub built-ends : (P : ℤ → Type 0) → ((j : ℕ) → j < n → P (low_of d (row_number d (sum j))) × P (up_of d (row_number d (sum j)))) → All (Ends P) (merged_rows sum d g n)
    unfolding row_at
    built-ends P h = merged-all _ (ends_join P) g n _ (filed-all _ (λ j b. record { low_end = (h j b).0; up-end = (h j b).1 }))

    -- a row of a build has exactly the windows whose sums its range holds
    pub built-holds : (r : RangeRow) (j : ℕ) → Mem r (built_rows sum d g n) → any (in_run j) r.runs ≡ (ltb j n && inside r.low r.up (sum j))
    unfolding built_rows with_runs
    built-holds r j m =
        let i = map-mem _ _ m in
        let f = all-mem _ _ (tiled-fine sum n _ built-tiled) i.is in
        subst (λ (t : RangeRow). any (in_run j) t.runs ≡ (ltb j n && inside t.low t.up (sum j))) (sym i.same)
        (entries-of-runs i.entry.has n j ∙ by-test (ltb j n) (λ t. rw (t, f.exact j (ltb-true j n t))) (λ u. rw u))

    pub built-length : length (built_rows sum d g n) ≤ n
    unfolding built_rows filed
    built-length = omega (
      arith,
      length-map (merged_rows sum d g n) (with_runs n),
      merged-length g n (filed sum d n),
      length-map (row_numbers sum d n) (row_at sum d),
      numbers-length sum d n,
    )

    pub built-runs : length (all_runs (built_rows sum d g n)) ≤ n
    unfolding built_rows
    built-runs = omega (arith, runs-sizes n (merged_rows sum d g n), sizes-all _ n built-once)

-- ---- at g = 0 nothing is merged

takes_none : (n : ℕ) (r s : SetRow) → takes 0 n r s ≡ false
unfolding takes
takes_none n r s = le-ltb _ (0 * (run_count _ n + run_count _ n)) (omega arith)

upward-none : (n : ℕ) (r : SetRow) (l : List SetRow) → upward 0 n r l ≡ r ∷ l
unfolding upward
upward-none n r [] = refl
upward-none n r (s ∷ l) = rw (takes_none n r s, upward) (rw (upward-none n s l))

pub merged-none : (n : ℕ) (l : List SetRow) → merged 0 n l ≡ l
unfolding merged
merged-none n [] = refl
merged-none n (r ∷ l) = upward-none n r l
