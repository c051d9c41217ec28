-- Laws of specs/Weave.
use Rattle.meaning_numbers.proofs.Member.{All}
use Rattle.meaning_numbers.proofs.Prelude.{◌≡◌, refl, sym, ap, ◌∙◌, subst, ⊎_elim, List, [], ◌∷◌, ◌++◌, map, List-as-Memᴰ as Mem, List·Memᴰ·cases-cons as cases, List·Memᴰ·not-nil as not-nil, append-nil, append_assoc, ℕ, zero, suc, ◌+◌, ◌-◌, ◌*◌, ◌<◌, ◌≤◌, arith, add-one, dec_lt, ℤ, pos, ◌+ℤ◌, length, get_or, set, take, drop, length-set, length-map, length-append, length-drop, drop_of_length-le, List·get_d-map, drop-cons, take-suc-set, take-set-le, get_or-take, length-take-le, ◌≤ℤ◌, ◌<ℤ◌, ≤ℤ_refl, lt-ltb, le-ltb, zarith, z-sub, rep-eq, rep_pos, rep-sub, rep_mul, lt-lt_z, le-lt_z}
use Rattle.meaning_curves.specs.Limits.{lowest_end}
use Rattle.meaning_rows.specs.{declared.Row.Row, Range.low_of}
use Rattle.meaning_rows.proofs.Woven.{new_row, woven, woven-long, weave-none, weave-inside, weave-new, weave-old}
use Rattle.meaning_rows.proofs.{Range.where-is, Range.le-le_z, Range.lt-le_z, Range.next_le, Range.widen, Range.up_is, Times.Ascending, Build.Above, Build.Sorted, Build.mem-above, Judge.range_of, Columns.get_d_past}
use Rattle.sums_count.specs.Numbers.{lowered}
use Rattle.sums_count.proofs.Numbers.{rising-sorted}
use Rattle.extend_weave.specs.Turn.{end_low, end_row, low_at, chosen_of, old_after, number_after, made_after, Cell}
use Rattle.extend_weave.specs.Weave.{numbers_of, Weavable, Made}

-- after some turns: a old rows and b numbers are passed, k records are made
pub record Weaving (old : List Row) (numbers : List ℕ) (count d base : ℕ) (before : List Row) (a b k : ℕ) (rows : List Row) : Type 0 where
  pub in-old : a ≤ length old
  pub in-numbers : b ≤ count
  pub in_rows : k ≤ length rows
  pub done : take k rows ++ woven d (drop a old) (drop b (numbers_of numbers count base)) ≡ woven d old (numbers_of numbers count base)
  pub long : length rows ≡ length before

sorted-drop : (i : ℕ) (l : List ℤ) → Sorted l → Sorted (drop i l)
unfolding Sorted
sorted-drop zero l s = s
sorted-drop (suc i) [] s = s
sorted-drop (suc i) (x ∷ l) s = sorted-drop i l s.1

lows-above : (z a : ℤ) (l : List Row) → z <ℤ a → Ascending a (map range_of l) → All (λ r. z <ℤ r.low) l
unfolding Ascending All
lows-above z a [] h p = tt
lows-above z a (r ∷ l) h p = (omega zarith, lows-above z r.up l (omega zarith) p.2)

all-at : (P : Row → Type 0) (o : Row) (l : List Row) (i : ℕ) → All P l → i < length l → P (get_or l i o)
unfolding All
all-at P o [] i a h = absurd (omega arith)
all-at P o (r ∷ l) zero a h = a.0
all-at P o (r ∷ l) (suc i) a h = all-at P o l i a.1 (omega arith)

wides : (a : ℤ) (l : List Row) → Ascending a (map range_of l) → All (λ r. r.low <ℤ r.up) l
unfolding Ascending All
wides a [] p = tt
wides a (r ∷ l) p = (p.1, wides r.up l p.2)

heads-above : (z : ℤ) (r : Row) (l : List Row) → z <ℤ r.low → Ascending r.low (map range_of (r ∷ l)) → All (λ q. z <ℤ q.low) (r ∷ l)
heads-above z r l h p = lows-above z _ (r ∷ l) h p

ascends-from : (l : List Row) (i : ℕ) (a : ℤ) (o : Row) → i < length l → Ascending a (map range_of l) → Ascending (get_or l i o).low (map range_of (get_or l i o ∷ drop (suc i) l))
unfolding Ascending
ascends-from [] i a o h p = absurd (omega arith)
ascends-from (r ∷ l) zero a o h p = (≤ℤ_refl _, p.1, p.2)
ascends-from (r ∷ l) (suc i) a o h p = ascends-from l i r.up o (omega arith) p.2

none-all : (P : Row → Type 0) → All P []
unfolding All
none-all P = tt

none_left : (z : ℤ) → Mem z [] → ⊥
none_left z m = not-nil m

first_above : (k : ℤ) (l : List ℤ) → Sorted (k ∷ l) → Above k l
unfolding Sorted
first_above k l s = s.0

module _ (old : List Row) (numbers : List ℕ) (count d base : ℕ) (before : List Row) (can : Weavable old numbers count d base (length before)) where
  abbrev ks : List ℤ
  ks = numbers_of numbers count base

  long-ks : length ks ≡ count
  long-ks = omega (arith, length-map (take count numbers) (lowered base), length-take-le count numbers can.cells.fits)

  one : 0 < d
  one = omega arith

  sorted : Sorted ks
  sorted = rising-sorted base (take count numbers) (record {
    up = λ i k h l.
        let m = length-take-le count numbers can.cells.fits in
        rw (get_or-take count numbers i 0 (omega arith), get_or-take count numbers k 0 (omega arith)) (can.rising.up i k h (omega arith));
  })

  abbrev key : ℕ → ℤ
  key b = lowered base (get_or numbers b 0)

  drop-key : (b : ℕ) → b < count → drop b ks ≡ key b ∷ drop (suc b) ks
  drop-key b h = drop-cons ks b (lowered base 0) (omega (arith, long-ks)) ∙ rw (List·get_d-map (lowered base) _ b 0, get_or-take count numbers b 0 h)

  low-in : (b : ℕ) → b < count → low_at numbers count d base b ≡ low_of d (key b)
  unfolding low_at lowered
  low-in b h = rw (lt-ltb b count h) (rep-eq (rep-sub (rep_pos _) (rep_pos (base * d))) (rep_mul (rep-sub (rep_pos _) (rep_pos base)) (rep_pos d)) (omega arith))

  low_end : (b : ℕ) → count ≤ b → low_at numbers count d base b ≡ end_low
  unfolding low_at
  low_end b h = rw (le-ltb b count h)

  low-least : (b : ℕ) → b < count → low_at numbers count d base b <ℤ end_low
  unfolding low_at
  low-least b h = rw (lt-ltb b count h) (omega (zarith, z-sub (pos (get_or numbers b 0 * d)) (pos (base * d)), can.cells.small b h))

  pub weaving-cell : (b : ℕ) → b ≤ count → Cell (low_at numbers count d base b) d
  unfolding low_at
  weaving-cell b h = elim (dec_lt b count) [
    | yes l ↦ record {
      least = rw (lt-ltb b count l) (omega (zarith, z-sub (pos (get_or numbers b 0 * d)) (pos (base * d)), z-sub (pos 0) (pos 1000000000), can.cells.low-base));
      most = rw (lt-ltb b count l) (omega (zarith, z-sub (pos (get_or numbers b 0 * d)) (pos (base * d)), can.cells.small b l));
      width = can.width.1;
    }
    | no f ↦ record { least = rw (le-ltb b count (omega arith)) (omega zarith); most = rw (le-ltb b count (omega arith)) (omega zarith); width = can.width.1 }
  ]

  pub weaving-starts : Weaving old numbers count d base before 0 0 0 before
  weaving-starts = record { in-old = omega arith; in-numbers = omega arith; in_rows = omega arith; done = refl; long = refl }

  module _ {a b k : ℕ} {rows : List Row} (w : Weaving old numbers count d base before a b k rows) where
    pub weaving-ends : length old + count ≤ a + b → Made old numbers count d base before k rows
    weaving-ends h =
        let rest : woven d (drop a old) (drop b ks) ≡ [] = rw (drop_of_length-le old {i = a} (omega (arith, w.in-old, w.in-numbers)), drop_of_length-le ks {i = b} (omega (arith, w.in-old, w.in-numbers, long-ks))) (weave-none d []) in
        let all = sym (append-nil _) ∙ ap (λ l. take k rows ++ l) (sym rest) ∙ w.done in
        record { count-is = sym (length-take-le k rows w.in_rows) ∙ ap length all; rows_are = all; long = w.long }

    -- what is still to be made
    abbrev rest : List Row
    rest = woven d (drop a old) (drop b ks)

    room : k + length rest ≤ length rows
    room = omega (arith, can.room, w.long, ap length w.done, length-append (take k rows) rest, length-take-le k rows w.in_rows)

    makes : (r : Row) (more : List Row) → rest ≡ r ∷ more → take (k + 1) (set rows k r) ++ more ≡ woven d old ks
    makes r more e =
        let l : k < length rows = omega (arith, room, ap length e) in
        rw (add-one k, take-suc-set rows k r l, append_assoc _ _ more) (ap (λ m. take k rows ++ m) (sym e) ∙ w.done)

    -- the next old row, and the low end of the next number's range
    abbrev next : Row
    next = get_or old a end_row

    abbrev low : ℤ
    low = low_at numbers count d base b

    row-wide : a < length old → (next.low <ℤ next.up) × (next.up <ℤ end_low)
    row-wide h = (all-at (λ r. r.low <ℤ r.up) end_row old a (wides lowest_end old can.ascending) h, all-at (λ r. r.up <ℤ end_low) end_row old a can.below h)

    row-order : next.low ≤ℤ next.up
    row-order = elim (dec_lt a (length old)) [
      | yes l ↦ let h = (row-wide l).0 in omega zarith
      | no f ↦ rw (get_d_past end_row old a (omega arith)) (omega zarith)
    ]

    row-most : next.up ≤ℤ end_low
    row-most = elim (dec_lt a (length old)) [
      | yes l ↦ let h = (row-wide l).1 in omega zarith
      | no f ↦ rw (get_d_past end_row old a (omega arith)) (omega zarith)
    ]

    -- a range below the end is a number's, and a row that ends below it is an old one
    number-left : low <ℤ end_low → b < count
    number-left h = elim (dec_lt b count) [ yes l ↦ l | no f ↦ let e = low_end b (omega arith) in absurd (omega zarith) ]

    row-left : next.low <ℤ end_low → a < length old
    row-left h = elim (dec_lt a (length old)) [ yes l ↦ l | no f ↦ let e = ap (λ r. r.low) (get_d_past end_row old a (omega arith)) in absurd (omega zarith) ]

    keys-above : (z : ℤ) → Mem z (drop b ks) → next.up ≤ℤ low → next.up ≤ℤ low_of d z
    keys-above z m h = elim (dec_lt b count) [
      | yes l ↦
          let s = subst Sorted (drop-key b l) (sorted-drop b ks sorted) in
          let e = low-in b l in
          ⊎_elim (λ q. rw q (rw e at h))
          (λ o. let p = next_le d (key b) z (mem-above z (key b) _ (first_above (key b) _ s) o) in let wide = widen d (key b) one in omega zarith)
          (cases (subst (Mem z) (drop-key b l) m))
      | no f ↦ absurd (none_left z (subst (Mem z) (drop_of_length-le ks {i = b} (omega (arith, long-ks))) m))
    ]

    -- by where the number's range lies: below the next old row, in it, or past it
    module _ {X : Type 0} (left : a + b < length old + count) (new : low <ℤ next.low → b < count → X) (held : next.low ≤ℤ low → low <ℤ next.up → a < length old → b < count → X) (kept : next.up ≤ℤ low → a < length old → X) where
      by_place : X
      by_place = where-is _ _ low
          (λ h. let o = row-order in let m = row-most in new h (number-left (omega zarith)))
          (λ h l. let m = row-most in held h l (row-left (omega zarith)) (number-left (omega zarith)))
          (λ h l. kept l (elim (dec_lt a (length old)) [
            | yes s ↦ s
            | no f ↦
                let e = ap (λ r. r.up) (get_d_past end_row old a (omega arith)) in
                let c : b < count = omega arith in
                let m = low-least b c in
                absurd (omega zarith)
          ]))

    new-row : low <ℤ next.low → b < count → chosen_of next low d ≡ new_row d (key b)
    unfolding chosen_of new_row
    new-row h l =
        let e = low-in b l in
        rw (lt-lt_z h) (λ i. record { low = e i; up = (ap (λ (z : ℤ). z +ℤ pos d) e ∙ sym (up_is d (key b))) i; first = 0; runs = 0 })

    old_row : next.low ≤ℤ low → chosen_of next low d ≡ next
    unfolding chosen_of
    old_row h = rw (le-lt_z h)

    new-rest : low <ℤ next.low → b < count → rest ≡ new_row d (key b) ∷ woven d (drop a old) (drop (suc b) ks)
    new-rest h l =
        let z = rw (low-in b l) at h in
        ap (woven d (drop a old)) (drop-key b l) ∙ weave-new d one _ (key b) _ (all_above z) (first_above (key b) _ (subst Sorted (drop-key b l) (sorted-drop b ks sorted)))
      where
        all_above : low_of d (key b) <ℤ next.low → All (λ r. low_of d (key b) <ℤ r.low) (drop a old)
        all_above z = elim (dec_lt a (length old)) [
          | yes m ↦ subst (All (λ r. low_of d (key b) <ℤ r.low)) (sym (drop-cons old a end_row m)) (heads-above _ next _ z (ascends-from old a lowest_end end_row m can.ascending))
          | no f ↦ subst (All (λ r. low_of d (key b) <ℤ r.low)) (sym (drop_of_length-le old {i = a} (omega arith))) (none-all (λ r. low_of d (key b) <ℤ r.low))
        ]

    held-rest : next.low ≤ℤ low → low <ℤ next.up → a < length old → b < count → rest ≡ woven d (drop a old) (drop (suc b) ks)
    held-rest h u m l =
        rw (drop-key b l, drop-cons old a end_row m) (weave-inside d next _ (key b) _ (rw (low-in b l) at h) (rw (low-in b l) at u))

    kept-rest : next.up ≤ℤ low → a < length old → rest ≡ next ∷ woven d (drop (suc a) old) (drop b ks)
    kept-rest h m = rw (drop-cons old a end_row m) (weave-old d one next _ _ (row-wide m).0 (λ z o. keys-above z o h))

    -- a turn makes the next record, and passes an old row or a number
    pub weaving-room : a + b < length old + count → k < length rows
    weaving-room left = by_place left
        (λ h l. omega (arith, room, ap length (new-rest h l)))
        (λ h u m l. omega (arith, room, ap length (held-rest h u m l), some_left m (drop (suc b) ks)))
        (λ h m. omega (arith, room, ap length (kept-rest h m)))
      where
        some_left : a < length old → (l : List ℤ) → 1 ≤ length (woven d (drop a old) l)
        some_left m l = omega (arith, woven-long d (drop a old) l, length-drop a old)

    pub weaving-turn : a + b < length old + count → Weaving old numbers count d base before (old_after a next low) (number_after b next low) (made_after k next low) (set rows k (chosen_of next low d))
    unfolding old_after number_after made_after
    weaving-turn left = let long = length-set rows k (chosen_of next low d) in let fits = weaving-room left in by_place left
        (λ h l. let o = row-order in let u : low <ℤ next.up = omega zarith in
        rw (lt-le_z h, lt-lt_z u, lt-le_z u) (record {
          in-old = w.in-old;
          in-numbers = omega arith;
          in_rows = omega arith;
          long = long ∙ w.long;
          done = rw (add-one b, new-row h l) (makes (new_row d (key b)) (woven d (drop a old) (drop (suc b) ks)) (new-rest h l));
        }))
        (λ h u m l. rw (le-le_z h, lt-lt_z u, lt-le_z u) (record {
          in-old = w.in-old;
          in-numbers = omega arith;
          in_rows = omega arith;
          long = long ∙ w.long;
          done = rw (add-one b, take-set-le k rows k (chosen_of next low d) (omega arith), ← held-rest h u m l) w.done;
        }))
        (λ h m. let o = row-order in let p : next.low ≤ℤ low = omega zarith in
        rw (le-le_z h, le-lt_z h, le-le_z p) (record {
          in-old = omega arith;
          in-numbers = w.in-numbers;
          in_rows = omega arith;
          long = long ∙ w.long;
          done = rw (add-one a, old_row p) (makes next (woven d (drop (suc a) old) (drop b ks)) (kept-rest h m));
        }))

    pub weaving-falls : a + b < length old + count → length old + count - (old_after a next low + number_after b next low) < length old + count - (a + b)
    unfolding old_after number_after
    weaving-falls left = by_place left
        (λ h l. let o = row-order in let u : low <ℤ next.up = omega zarith in rw (lt-lt_z u, lt-le_z u) (omega arith))
        (λ h u m l. rw (lt-lt_z u, lt-le_z u) (omega arith))
        (λ h m. rw (le-le_z h, le-lt_z h) (omega arith))
