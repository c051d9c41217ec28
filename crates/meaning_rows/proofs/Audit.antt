-- What the audit says of a well-formed index and a series. Yes (no offset filed wrongly, none missing) exactly if every window stands in a row whose range holds its sum and in no other (`audit-yes`, `filed-passes`).
-- Else the first row and offset filed wrongly, all before it filed right (`first-wrong`, `wrong_first`); else how many windows stand nowhere, all less the run lengths (`missing-are`).
use Rattle.meaning_numbers.specs.{Sum.bit, Place.any, Place.numbers_from}
use Rattle.meaning_numbers.proofs.Count.{count-never, never-count, count-not}
use Rattle.meaning_numbers.proofs.Member.{any-mem, any_found, any_none, any-map, numbers-mem, mem-numbers, All, all-mem, mem-all, mem-at}
use Rattle.meaning_numbers.proofs.Prelude.{◌≡◌, refl, sym, ap, ◌∙◌, ◌⊎◌, inl, inr, ⊎_elim, Bool, true, false, ◌&&◌, or-true, List, [], ◌∷◌, ◌++◌, map, List-as-Memᴰ as Mem, List·Memᴰ·head as here, List·Memᴰ·tail as there, List·Memᴰ·not-nil as not-nil, List·Memᴰ·cases-cons as cases, List·Memᴰ·append-cases as append_cases, Memᴰ·append-left as in_left, Memᴰ·append-right as in_right, Option, None, Some, ℕ, zero, suc, ◌+◌, ◌-◌, ◌<◌, ◌≤◌, arith, dec_le, leb, ℤ, nat_abs, length, get_or, ◌≤ℤ◌, leb-true, le-leb, not-false, zarith, by-test, both, clash}
use Rattle.meaning_curves.specs.Limits.{lowest_end}
use Rattle.meaning_rows.specs.{declared.Row.Row, Range.inside, Index.zero_row, Index.Index, Index.runs_of, Index.stands, Build.entry, Judge.length_total, Audit.offsets, Audit.wrong_in, Audit.wrong_from, Audit.sums, Audit.first_wrong, Audit.missing}
use Rattle.meaning_rows.proofs.{Range.is-inside, Runs.Apart, Runs.held, Runs.entries-hold, Times.Ascending, Times.times, Times.sizes, Times.sizes-count, Times.none-times, Judge.GoodRow, Judge.WellFormed, Judge.range_of, Judge.lengths-are, Judge.stands-below, Judge.each_row, Judge.ranges-ascend}

-- ---- the offsets of runs are those that stand in them, upward

unfoldable Rising : ℕ → List ℕ → Type 0
Rising a [] = Unit {0}
Rising a (j ∷ l) = (a ≤ j) × Rising (suc j) l

rising-mem : (a j : ℕ) (l : List ℕ) → Rising a l → Mem j l → a ≤ j
unfolding Rising
rising-mem a j [] p m = absurd (not-nil m)
rising-mem a j (i ∷ l) p m = ⊎_elim (λ e. omega arith) (λ n. let h = rising-mem (suc i) j l p.1 n in omega arith) (cases m)

rising_down : (a b : ℕ) (l : List ℕ) → a ≤ b → Rising b l → Rising a l
unfolding Rising
rising_down a b [] h p = tt
rising_down a b (j ∷ l) h p = (omega arith, p.1)

rising-numbers : (k n : ℕ) (l : List ℕ) → Rising (k + n) l → Rising k (numbers_from k n ++ l)
unfolding Rising numbers_from
rising-numbers k zero l p = rising_down k (k + 0) l (omega arith) p
rising-numbers k (suc n) l p = (omega arith, rising-numbers (suc k) n l (rising_down _ _ l (omega arith) p))

rising-offsets : (n a : ℕ) (l : List (ℕ × ℕ)) → Apart n a l → Rising a (offsets (map entry l))
unfolding Apart Rising offsets
rising-offsets n a [] p = tt
rising-offsets n a (x ∷ l) p =
    let c = x.1 + 1 - x.0 in
    let rest = offsets (map entry l) in
    rising_down a x.0 (numbers_from x.0 c ++ rest) p.0 (rising-numbers x.0 c rest (rising_down _ _ rest (omega arith) (rising-offsets n (x.1 + 2) l p.3)))

offsets-held : (n a : ℕ) (l : List (ℕ × ℕ)) (j : ℕ) → Apart n a l → Mem j (offsets (map entry l)) → held l j ≡ true
unfolding Apart offsets held
offsets-held n a [] j p m = absurd (not-nil m)
offsets-held n a (x ∷ l) j p m = ⊎_elim
    (λ k. let b = numbers-mem x.0 _ j k in rw (le-leb x.0 j b.0, le-leb j x.1 (omega arith)))
    (λ k. rw (offsets-held n (x.1 + 2) l j p.3 k) (or-true (leb x.0 j && leb j x.1)))
    (append_cases (numbers_from x.0 _) m)

held-offsets : (l : List (ℕ × ℕ)) (j : ℕ) → held l j ≡ true → Mem j (offsets (map entry l))
unfolding offsets held
held-offsets [] j t = clash t refl
held-offsets (x ∷ l) j t = by-test _
    (λ u. let b = both _ _ u in let c = leb-true x.0 j b.0 in let e = leb-true j x.1 b.1 in
    in_left _ (mem-numbers x.0 _ j c (omega (arith, c, e))))
    (λ u. in_right (numbers_from x.0 _) (held-offsets l j (rw u at t)))

module _ (x : Index) (r : Row) (g : GoodRow x r) where
  offsets-rise : Rising 0 (offsets (runs_of x r))
  offsets-rise = rw g.good.is (rising-offsets (nat_abs x.windows) 0 g.good.plain g.good.apart)

  offset-stands : (j : ℕ) → Mem j (offsets (runs_of x r)) → stands x r j ≡ true
  offset-stands j = let m = g.good.plain in
      rw g.good.is (λ k. entries-hold m j ∙ offsets-held (nat_abs x.windows) 0 m j g.good.apart k)

  stands-offset : (j : ℕ) → stands x r j ≡ true → Mem j (offsets (runs_of x r))
  stands-offset j = let m = g.good.plain in
      rw g.good.is (λ t. held-offsets m j (sym (entries-hold m j) ∙ t))

-- ---- one row

-- every offset of the row is filed right
abbrev pub RightRow : Index → (ℕ → ℤ) → Row → Type 0
RightRow x sum r = (j : ℕ) → stands x r j ≡ true → inside r.low r.up (sum j) ≡ true

-- j is the first of the offsets that is filed wrongly
record WrongAt (sum : ℕ → ℤ) (r : Row) (js : List ℕ) (j : ℕ) : Type 0 where
  is : Mem j js
  outside : inside r.low r.up (sum j) ≡ false
  before : (i : ℕ) → i < j → Mem i js → inside r.low r.up (sum i) ≡ true

module _ (sum : ℕ → ℤ) (k : ℕ) (r : Row) (after : Option (ℕ × ℕ)) where
  passed : (js : List ℕ) → ((j : ℕ) → Mem j js → inside r.low r.up (sum j) ≡ true) → wrong_in sum k r js after ≡ after
  unfolding wrong_in
  passed [] h = refl
  passed (j ∷ l) h = rw (h j (here refl)) (passed l (λ i m. h i (there m)))

  wrong-or : (a : ℕ) (js : List ℕ) → Rising a js
      → ((j : ℕ) × WrongAt sum r js j × (wrong_in sum k r js after ≡ Some (k, j))) ⊎ ((j : ℕ) → Mem j js → inside r.low r.up (sum j) ≡ true)
  unfolding wrong_in Rising
  wrong-or a [] p = inr (λ j m. absurd (not-nil m))
  wrong-or a (j ∷ l) p = by-test _
      (λ t. ⊎_elim
      (λ w. inl (w.0, record { is = there w.1.is; outside = w.1.outside; before = λ i b m. ⊎_elim (λ e. rw e t) (λ n. w.1.before i b n) (cases m) }, rw t w.2))
      (λ h. inr (λ i m. ⊎_elim (λ e. rw e t) (λ n. h i n) (cases m))) (wrong-or (suc j) l p.1))
      (λ f. inl (j, record { is = here refl; outside = f; before = λ i b m. ⊎_elim (λ e. absurd (omega arith)) (λ n. absurd (let c = rising-mem (suc j) i l p.1 n in omega arith)) (cases m) }, rw f))

-- ---- all rows

-- row k and offset j are filed wrongly, and every filing before is right
pub record FirstWrong (x : Index) (sum : ℕ → ℤ) (o : Row) (l : List Row) (k j : ℕ) : Type 0 where
  pub is-row : k < length l
  pub stands-there : stands x (get_or l k o) j ≡ true
  pub outside : inside (get_or l k o).low (get_or l k o).up (sum j) ≡ false
  pub rows_before : (i : ℕ) → i < k → RightRow x sum (get_or l i o)
  pub offsets-before : (i : ℕ) → i < j → stands x (get_or l k o) i ≡ true → inside (get_or l k o).low (get_or l k o).up (sum i) ≡ true

first-before : (x : Index) (sum : ℕ → ℤ) (o r : Row) (l : List Row) (k : ℕ) → RightRow x sum r → ((i : ℕ) → i < k → RightRow x sum (get_or l i o))
    → (i : ℕ) → i < suc k → RightRow x sum (get_or (r ∷ l) i o)
first-before x sum o r l k h f zero b = h
first-before x sum o r l k h f (suc i) b = f i (omega arith)

module _ (x : Index) (sum : ℕ → ℤ) where
  pub right-none : (k : ℕ) (l : List Row) → All (GoodRow x) l → All (RightRow x sum) l → wrong_from x sum k l ≡ None
  unfolding wrong_from All
  right-none k [] g h = refl
  right-none k (r ∷ l) g h =
      passed sum k r _ _ (λ j m. h.0 j (offset-stands x r g.0 j m)) ∙ right-none (suc k) l g.1 h.1

  -- either every filing is right, or there is a first wrong one, and the audit says it
  right-or-wrong : (o : Row) (k : ℕ) (l : List Row) → All (GoodRow x) l
      → All (RightRow x sum) l ⊎ ((i j : ℕ) × FirstWrong x sum o l i j × (wrong_from x sum k l ≡ Some (k + i, j)))
  unfolding wrong_from All
  right-or-wrong o k [] g = inl tt
  right-or-wrong o k (r ∷ l) g = ⊎_elim
      (λ w. let at = w.1 in let e : k + 0 ≡ k = omega arith in inr (
        0,
        w.0,
        record {
          is-row = omega arith;
          stands-there = offset-stands x r g.0 w.0 at.is;
          outside = at.outside;
          rows_before = λ i b. absurd (omega arith);
          offsets-before = λ i b t. at.before i b (stands-offset x r g.0 i t);
        },
        rw e w.2,
      ))
      (λ h. let here-right : RightRow x sum r = λ j t. h j (stands-offset x r g.0 j t) in ⊎_elim
      (λ a. inl (here-right, a))
      (λ w. let f = w.2 in let e : k + suc w.0 ≡ suc k + w.0 = omega arith in inr (
        suc w.0,
        w.1,
        record {
          is-row = omega arith;
          stands-there = f.stands-there;
          outside = f.outside;
          rows_before = first-before x sum o r l w.0 here-right f.rows_before;
          offsets-before = f.offsets-before;
        },
        passed sum k r _ _ h ∙ rw e w.3,
      ))
      (right-or-wrong o (suc k) l g.1))
      (wrong-or sum k r _ 0 _ (offsets-rise x r g.0))

not-before : (x : Index) (sum : ℕ → ℤ) (o : Row) (l : List Row) (k j i c : ℕ) → FirstWrong x sum o l k j → FirstWrong x sum o l i c → (k ≤ i) × (i ≡ k → j ≤ c)
not-before x sum o l k j i c f w = (
  elim (dec_le k i) [ yes h ↦ h | no n ↦ clash (f.rows_before i (omega arith) c w.stands-there) w.outside ],
  λ e. elim (dec_le j c) [ yes h ↦ h | no n ↦ clash (f.offsets-before c (omega arith) (rw e at w.stands-there)) (rw e at w.outside) ],
)

one-wrong : (x : Index) (sum : ℕ → ℤ) (o : Row) (l : List Row) (k j i c : ℕ) → FirstWrong x sum o l k j → FirstWrong x sum o l i c → (i ≡ k) × (c ≡ j)
one-wrong x sum o l k j i c f w =
    let a = not-before x sum o l k j i c f w in
    let b = not-before x sum o l i c k j w f in
    let e : i ≡ k = omega arith in
    (e, omega (arith, a.1 e, b.1 (sym e)))

some-none : {p : ℕ × ℕ} → Some p ≡ None → ⊥
some-none e = let z : ◌≡◌ {A = ℕ} 0 1 = cc in omega arith

same-pair : {p q : ℕ × ℕ} → Some p ≡ Some q → p ≡ q
same-pair e = cc

module _ (x : Index) (s : List ℤ) (g : WellFormed x) where
  pub all_right : first_wrong x s ≡ None → All (RightRow x (sums x s)) x.rows
  unfolding first_wrong
  all_right e = ⊎_elim (λ a. a) (λ w. absurd (some-none (sym w.3 ∙ e))) (right-or-wrong x _ zero_row 0 _ (each_row x g))

  pub none-wrong : All (RightRow x (sums x s)) x.rows → first_wrong x s ≡ None
  unfolding first_wrong
  none-wrong a = right-none x _ 0 _ (each_row x g) a

  pub first-wrong : (o : Row) (k j : ℕ) → first_wrong x s ≡ Some (k, j) → FirstWrong x (sums x s) o x.rows k j
  unfolding first_wrong
  first-wrong o k j e = ⊎_elim
      (λ a. absurd (some-none (sym e ∙ none-wrong a)))
      (λ w. let p = same-pair (sym w.3 ∙ e) in
      let row : w.0 ≡ k = omega (arith, ap (λ (q : ℕ × ℕ). q.0) p) in
      rw (row, ap (λ (q : ℕ × ℕ). q.1) p) at w.2)
      (right-or-wrong x _ o 0 _ (each_row x g))

  -- there is one first wrong filing
  pub wrong_first : (o : Row) (k j : ℕ) → FirstWrong x (sums x s) o x.rows k j → first_wrong x s ≡ Some (k, j)
  unfolding first_wrong
  wrong_first o k j f = ⊎_elim
      (λ a. clash (all-mem (RightRow x _) _ a (mem-at o _ k f.is-row) j f.stands-there) f.outside)
      (λ w. let e = one-wrong x _ o _ k j w.0 w.1 f w.2 in
      let d : 0 + w.0 ≡ k = omega arith in
      w.3 ∙ rw (d, e.1))
      (right-or-wrong x _ o 0 _ (each_row x g))

-- ---- every window in the row that holds its sum, and in no other

pub record Home (x : Index) (s : List ℤ) (j : ℕ) : Type 0 where
  pub row : Row
  pub is : Mem row x.rows
  pub stands-there : stands x row j ≡ true
  pub holds-it : inside row.low row.up (sums x s j) ≡ true
  pub no_other : (r : Row) → Mem r x.rows → stands x r j ≡ true → r ≡ row

pub record Filed (x : Index) (s : List ℤ) : Type 0 where
  pub home : (j : ℕ) → j < nat_abs x.windows → Home x s j

-- a range holds what lies from `a` on only
row-above : (a : ℤ) (r : Row) (l : List Row) → Ascending a (map range_of l) → Mem r l → a ≤ℤ r.low
unfolding Ascending
row-above a r [] p m = absurd (not-nil m)
row-above a r (q ∷ l) p m =
    ⊎_elim (λ e. rw e p.0) (λ n. let h = row-above q.up r l p.2 n in omega zarith) (cases m)

pub one-holder : (a z : ℤ) (r q : Row) (l : List Row) → Ascending a (map range_of l) → Mem r l → Mem q l → inside r.low r.up z ≡ true → inside q.low q.up z ≡ true → r ≡ q
unfolding Ascending
one-holder a z r q [] p m n h k = absurd (not-nil m)
one-holder a z r q (y ∷ l) p m n h k = ⊎_elim
    (λ d. ⊎_elim (λ e. d ∙ sym e) (λ o. absurd (later d q o h k)) (cases n))
    (λ c. ⊎_elim (λ e. absurd (later e r c k h)) (λ o. one-holder y.up z r q l p.2 c o h k) (cases n)) (cases m)
  where
    later : {t : Row} → t ≡ y → (u : Row) → Mem u l → inside t.low t.up z ≡ true → inside u.low u.up z ≡ true → ⊥
    later {t} e u o f i =
        let b = row-above y.up u l p.2 o in
        let c = (is-inside _ y.up z (rw e at f)).1 in
        let d = (is-inside _ u.up z i).0 in
        omega zarith

module _ (x : Index) (s : List ℤ) (g : WellFormed x) where
  -- a window that is filed right wherever it stands, and stands somewhere, has a home
  pub home_of : (j : ℕ) → ((r : Row) → Mem r x.rows → stands x r j ≡ true → inside r.low r.up (sums x s j) ≡ true) → any (λ r. stands x r j) x.rows ≡ true → Home x s j
  home_of j right e =
      let at = any_found (λ r. stands x r j) _ e in
      let h = right at.entry at.is at.passes in
      record {
        row = at.entry;
        is = at.is;
        stands-there = at.passes;
        holds-it = h;
        no_other = λ r m t. one-holder lowest_end _ r _ _ (ranges-ascend x g) m at.is (right r m t) h;
      }

  pub audit-yes : first_wrong x s ≡ None → missing x ≡ 0 → Filed x s
  unfolding missing
  audit-yes e z = record {
    home = λ j b. home_of j
        (λ r m t. all-mem _ _ (all_right x s g e) m j t)
        (not-false _ (never-count _ _ z j b));
  }

  pub filed-passes : Filed x s → (first_wrong x s ≡ None) × (missing x ≡ 0)
  unfolding missing
  filed-passes f = (
    none-wrong x s g (mem-all _ _ (λ r m j t.
        let h = f.home j (stands-below x r j (all-mem _ _ (each_row x g) m) t) in rw (h.no_other r m t) h.holds-it)),
    count-never _ _ (λ j b. let h = f.home j b in rw (any-mem (λ r. stands x r j) h.is h.stands-there)),
  )

-- ---- how many windows stand nowhere

abbrev pub standing : Index → List Row → List (ℕ → Bool)
standing x l = map (stands x) l

-- where every filing is right, a window stands in one row at most
pub right-once : (x : Index) (sum : ℕ → ℤ) (a : ℤ) (j : ℕ) (l : List Row) → Ascending a (map range_of l) → All (RightRow x sum) l → times (standing x l) j ≡ bit (any (λ r. stands x r j) l)
unfolding Ascending All times any bit
right-once x sum a j [] p h = refl
right-once x sum a j (r ∷ l) p h = by-test (stands x r j)
    (λ t. rw t (omega (arith, none-times (standing x l) j (any-map (λ q. q j) _ l ∙ any_none (λ q. stands x q j) l (λ q m. later q m t)))))
    (λ f. rw f (omega (arith, right-once x sum r.up j l p.2 h.1)))
  where
    later : (q : Row) → Mem q l → stands x r j ≡ true → stands x q j ≡ false
    later q m t = by-test _
        (λ u. let b = row-above r.up q l p.2 m in
        let c = (is-inside _ r.up (sum j) (h.0 j t)).1 in
        let d = (is-inside _ q.up (sum j) (all-mem _ l h.1 m j u)).0 in
        absurd (omega zarith))
        (λ f. f)

pub lengths-sizes : (x : Index) (l : List Row) → All (GoodRow x) l → length_total x l ≡ sizes (standing x l) (nat_abs x.windows)
unfolding All length_total sizes
lengths-sizes x [] g = refl
lengths-sizes x (r ∷ l) g = rw (lengths-are x r g.0, lengths-sizes x l g.1)

pub missing-are : (x : Index) (s : List ℤ) → WellFormed x → first_wrong x s ≡ None → missing x + length_total x x.rows ≡ nat_abs x.windows
unfolding missing
missing-are x s g e =
    let n = nat_abs x.windows in
    let somewhere : ℕ → Bool = λ j. any (λ r. stands x r j) _ in
    omega (
      arith,
      lengths-sizes x _ (each_row x g),
      sizes-count _ somewhere n (λ j b. right-once x _ lowest_end j _ (ranges-ascend x g) (all_right x s g e)),
      count-not somewhere n,
    )

-- on a yes the run lengths total the windows
pub yes-total : (x : Index) (s : List ℤ) → WellFormed x → Filed x s → length_total x x.rows ≡ nat_abs x.windows
yes-total x s g f = let p = filed-passes x s g f in omega (arith, missing-are x s g p.0, p.1)
