-- The rows that the walk over old rows and row numbers makes, met again beside the old rows: each row is the next old row, or a new row below it (`passed-row`). So the old row that the copying holds beside a row is the row's own, if it has old runs.
use Rattle.meaning_numbers.proofs.Member.{All}
use Rattle.meaning_numbers.proofs.Prelude.{◌≡◌, refl, sym, ap, ◌∙◌, subst, List, [], ◌∷◌, map, List-as-Memᴰ as Mem, List·Memᴰ·cases-cons as cases, ⊎_elim, ℕ, zero, suc, ◌<◌, ◌≤◌, arith, add-one, dec_lt, ℤ, length, get_or, drop, length-drop, drop-cons, ◌≤ℤ◌, ◌<ℤ◌, ≤ℤ_refl, zarith}
use Rattle.meaning_rows.specs.{declared.Row.Row, Range.low_of}
use Rattle.meaning_rows.proofs.{Range.where-is, Range.le-le_z, Range.lt-le_z, Range.widen, Range.next_le, Times.Ascending, Build.Sorted, Build.mem-above, Judge.range_of, Woven.new_row, Woven.woven, Woven.weave-none, Woven.weave-inside, Woven.weave-new, Woven.weave-old}
use Rattle.rows_records.specs.Records.{zero_row}
use Rattle.extend_weave.specs.Turn.{end_low, end_row}
use Rattle.extend_parts.specs.Copy.{part_size, old_passed, passed_to, next_old}
use Rattle.extend_parts.proofs.Copy.{passed_none, passed-more}

-- what the walk makes of some rows and numbers: nothing; a new row below them and the rest; or the first of them and the rest
data Shape (d : ℕ) (rs : List Row) (out : List Row) : Type 0 where
  ended : out ≡ [] → rs ≡ [] → Shape d rs out
  fresh : (k : ℤ) (ks : List ℤ) → Sorted ks → All (λ r. low_of d k <ℤ r.low) rs → out ≡ new_row d k ∷ woven d rs ks → Shape d rs out
  kept : (r : Row) (rest : List Row) (ks : List ℤ) → Sorted ks → rs ≡ r ∷ rest → out ≡ r ∷ woven d rest ks → Shape d rs out

lows-above : (z a : ℤ) (l : List Row) → z <ℤ a → Ascending a (map range_of l) → All (λ r. z <ℤ r.low) l
unfolding Ascending All
lows-above z a [] h p = tt
lows-above z a (r ∷ l) h p = (omega zarith, lows-above z r.up l (omega zarith) p.2)

first_above : (z : ℤ) (r : Row) (l : List Row) (a : ℤ) → z <ℤ r.low → Ascending a (map range_of (r ∷ l)) → All (λ q. z <ℤ q.low) (r ∷ l)
unfolding Ascending All
first_above z r l a h p = (h, lows-above z r.up l (omega zarith) p.2)

above-all : (d : ℕ) → 0 < d → (k : ℤ) (ks : List ℤ) (up : ℤ) → Sorted (k ∷ ks) → up ≤ℤ low_of d k → (z : ℤ) → Mem z (k ∷ ks) → up ≤ℤ low_of d z
unfolding Sorted
above-all d one k ks up s h z m = ⊎_elim (λ q. rw q h) (λ o. let p = next_le d k z (mem-above z k ks s.0 o) in let w = widen d k one in omega zarith) (cases m)

shape : (d : ℕ) → 0 < d → (a : ℤ) (rs : List Row) (ks : List ℤ) → Ascending a (map range_of rs) → Sorted ks → Shape d rs (woven d rs ks)
unfolding Sorted Ascending All
shape d one a [] [] p s = ended (weave-none d []) refl
shape d one a (r ∷ rs) [] p s = kept r rs [] tt refl (weave-none d (r ∷ rs) ∙ ap (λ (l : List Row). r ∷ l) (sym (weave-none d rs)))
shape d one a [] (k ∷ ks) p s = fresh k ks s.1 tt (weave-new d one [] k ks tt s.0)
shape d one a (r ∷ rs) (k ∷ ks) p s = where-is r.low r.up (low_of d k)
    (λ h. let all = first_above (low_of d k) r rs a h p in fresh k ks s.1 all (weave-new d one (r ∷ rs) k ks all s.0))
    (λ h l. subst (Shape d (r ∷ rs)) (sym (weave-inside d r rs k ks h l)) (shape d one a (r ∷ rs) ks p s.1))
    (λ h l. kept r rs (k ∷ ks) s refl (weave-old d one r rs (k ∷ ks) p.1 (above-all d one k ks r.up s l)))

-- ---- beside the old rows

all-at : (P : Row → Type 0) (o : Row) (l : List Row) (i : ℕ) → All P l → i < length l → P (get_or l i o)
unfolding All
all-at P o [] i a h = absurd (omega arith)
all-at P o (r ∷ l) zero a h = a.0
all-at P o (r ∷ l) (suc i) a h = all-at P o l i a.1 (omega arith)

past : (o : Row) (l : List Row) (i : ℕ) → length l ≤ i → get_or l i o ≡ o
past o [] i h = refl
past o (r ∷ l) zero h = absurd (omega arith)
past o (r ∷ l) (suc i) h = past o l i (omega arith)

same_head : (r q : Row) (l m : List Row) → r ∷ l ≡ q ∷ m → (r ≡ q) × (l ≡ m)
same_head r q l m e = (cc, cc)

not_none : (r : Row) (l : List Row) → r ∷ l ≡ [] → ⊥
not_none r l e = let z : ◌≡◌ {A = ℕ} (suc (length l)) 0 = ap length e in omega arith

ascends-from : (l : List Row) (i : ℕ) (a : ℤ) → Ascending a (map range_of l) → (b : ℤ) × Ascending b (map range_of (drop i l))
unfolding Ascending
ascends-from l zero a p = (a, p)
ascends-from [] (suc i) a p = (a, p)
ascends-from (r ∷ l) (suc i) a p = ascends-from l i r.up p.2

-- row i is made, and a old rows are passed
record Beside (d : ℕ) (old made : List Row) (i a : ℕ) : Type 0 where
  in-old : a ≤ length old
  numbers : List ℤ
  sorted : Sorted numbers
  rest : drop i made ≡ woven d (drop a old) numbers

-- row i beside the next old row: it is that row, or one without old runs that lies below it
pub data PassedRow (next row : Row) : Type 0 where
  own : next ≡ row → PassedRow next row
  new : row.first ≡ 0 → row.runs ≡ 0 → row.low <ℤ next.low → PassedRow next row

module _ (d : ℕ) (one : 0 < d) (a₀ : ℤ) (old : List Row) (asc : Ascending a₀ (map range_of old)) (ks : List ℤ) (sorted : Sorted ks) (small : All (λ r. r.low <ℤ end_low) (woven d old ks)) (rows : List Row)
    (same : (i : ℕ) → i < length (woven d old ks) → (get_or rows i zero_row).low ≡ (get_or (woven d old ks) i zero_row).low) where
  abbrev made : List Row
  made = woven d old ks

  abbrev at : ℕ → Row
  at i = get_or made i zero_row

  abbrev passed : ℕ → ℕ
  passed i = passed_to old rows i

  abbrev next : ℕ → Row
  next i = next_old old rows i

  -- a new row lies below the next old row
  below : (i : ℕ) (k : ℤ) → i < length made → All (λ r. low_of d k <ℤ r.low) (drop (passed i) old) → at i ≡ new_row d k → (at i).low <ℤ (next i).low
  unfolding new_row All
  below i k l all p = elim (dec_lt (passed i) (length old)) [
    | yes m ↦
        let h = subst (All (λ r. low_of d k <ℤ r.low)) (drop-cons old (passed i) end_row m) all in
        subst (λ z. z <ℤ (next i).low) (sym (rw p)) h.0
    | no f ↦ rw (past end_row old (passed i) (omega arith)) (all-at (λ r. r.low <ℤ end_low) zero_row made i small l)
  ]

  first_runs : (k : ℤ) → ((new_row d k).first ≡ 0) × ((new_row d k).runs ≡ 0)
  unfolding new_row
  first_runs k = (refl, refl)

  -- the old row that the walk keeps is the next one
  kept_next : (i : ℕ) (r : Row) (rest : List Row) → drop (passed i) old ≡ r ∷ rest → (passed i < length old) × (next i ≡ r) × (drop (suc (passed i)) old ≡ rest)
  kept_next i r rest e =
      let m : passed i < length old = omega (arith, length-drop (passed i) old, ap length e) in
      let h = same_head (next i) r _ rest (sym (drop-cons old (passed i) end_row m) ∙ e) in
      (m, h.0, h.1)

  module _ (i : ℕ) (l : i < length made) (in-old : passed i ≤ length old) (q : (get_or rows i zero_row).low ≡ (at i).low) (s : passed (suc i) ≡ old_passed (passed i) (next i) (get_or rows i zero_row)) where
    by_shape : (out : List Row) → at i ∷ drop (suc i) made ≡ out → Shape d (drop (passed i) old) out → PassedRow (next i) (at i) × Beside d old made (suc i) (passed (suc i))
    unfolding old_passed
    by_shape out e (ended o r) = absurd (not_none (at i) _ (e ∙ o))
    by_shape out e (fresh k ns t all o) =
        let h = same_head (at i) (new_row d k) _ _ (e ∙ o) in
        let low = below i k l all h.0 in
        let stays : passed (suc i) ≡ passed i = s ∙ rw (lt-le_z (subst (λ (z : ℤ). z <ℤ (next i).low) (sym q) low)) in (
          new (ap (λ (r : Row). r.first) h.0 ∙ (first_runs k).0) (ap (λ (r : Row). r.runs) h.0 ∙ (first_runs k).1) low,
          record { in-old = rw stays in-old; numbers = ns; sorted = t; rest = rw stays h.1 },
        )
    by_shape out e (kept r rest ns t p o) =
        let h = same_head (at i) r (drop (suc i) made) (woven d rest ns) (e ∙ o) in
        let k = kept_next i r rest p in
        let same_row : next i ≡ at i = k.1 ∙ sym h.0 in
        let low : (next i).low ≤ℤ (get_or rows i zero_row).low = subst (λ (z : ℤ). (next i).low ≤ℤ z) (ap (λ (r : Row). r.low) same_row ∙ sym q) (≤ℤ_refl (next i).low) in
        let goes : passed (suc i) ≡ suc (passed i) = s ∙ rw (le-le_z low) (add-one (passed i)) in
        (own same_row, record { in-old = rw goes (omega arith); numbers = ns; sorted = t; rest = h.1 ∙ rw (goes, k.2) })

  -- a turn: what row i is, and what stands beside it afterwards
  turn : (i : ℕ) → i < length made → Beside d old made i (passed i) → PassedRow (next i) (at i) × Beside d old made (suc i) (passed (suc i))
  turn i l b =
      let up = ascends-from old (passed i) a₀ asc in
      by_shape i l b.in-old (same i l) (ap passed (sym (add-one i)) ∙ passed-more old rows i) _
      (sym (drop-cons made i zero_row l) ∙ b.rest) (shape d one up.0 (drop (passed i) old) b.numbers up.1 b.sorted)

  beside : (i : ℕ) → i ≤ length made → Beside d old made i (passed i)
  beside zero h = rw (passed_none old rows) (record { in-old = omega arith; numbers = ks; sorted = sorted; rest = refl })
  beside (suc i) h = (turn i (omega arith) (beside i (omega arith))).1

  pub passed-in : (i : ℕ) → i ≤ length made → passed i ≤ length old
  passed-in i h = (beside i h).in-old

  pub passed-row : (i : ℕ) → i < length made → PassedRow (next i) (at i)
  passed-row i l = (turn i l (beside i (omega arith))).0

  -- how many old runs are copied for row i: its own
  pub passed-size : (i : ℕ) → i < length made → part_size (next i) (get_or rows i zero_row) ≡ (at i).runs
  unfolding part_size
  passed-size i l = by (passed-row i l)
    where
      by : PassedRow (next i) (at i) → part_size (next i) (get_or rows i zero_row) ≡ (at i).runs
      by (own e) = rw (le-le_z (subst (λ (z : ℤ). (next i).low ≤ℤ z) (ap (λ (r : Row). r.low) e ∙ sym (same i l)) (≤ℤ_refl (next i).low))) (rw e)
      by (new f r low) = rw (lt-le_z (subst (λ (z : ℤ). z <ℤ (next i).low) (sym (same i l)) low)) (sym r)
