-- The rows of a good index text, audited run by run, come to what is filed wrongly first in its index (`rows-found`).
use Rattle.meaning_numbers.specs.Place.{numbers_from}
use Rattle.meaning_numbers.proofs.Member.{All}
use Rattle.meaning_numbers.proofs.Prelude.{◌≡◌, refl, sym, ap, subst, ◌∙◌, true, not, cond, List, [], ◌∷◌, ◌++◌, map, append_assoc, append-nil, Option, None, Some, ℕ, zero, suc, ◌+◌, ◌-◌, ◌<◌, ◌≤◌, arith, ℤ, pos, nat_abs, length, replicate, le-leb, by-test}
use Rattle.meaning_curves.specs.Curve.{window_sum}
use Rattle.meaning_rows.specs.{declared.Row.Row, declared.Head.Head, Range.inside, Index.Index, Index.entries, Index.lent, Index.runs_of, Index.records, Build.entry, Judge.head_good, Audit.offsets, Audit.wrong_in, Audit.wrong_from, Audit.first_wrong}
use Rattle.meaning_rows.proofs.{Runs.Apart, Judge.GoodRow, Judge.WellFormed, Judge.well-formed, Judge.each_row, Laid.Lays, Laid.laid}
use Rattle.meaning_text.specs.{Form.Value, Texts.index_form, Texts.row_form, Texts.row_said, Texts.index_said}
use Rattle.numbers.specs.Narrow.{clamp, held}
use Rattle.rows_records.specs.Records.{zero_row}
use Rattle.entry_audit.specs.Auditing.{wrong_of}
use Rattle.entry_audit.proofs.Chunks.{or_else}
use Rattle.text_judge.specs.Tally.{no_rows, rows_from, head_held}
use Rattle.text_judge.proofs.{Bad.held-nat, Bad.HeadIs, Bad.head-is, Bad.text-bad, Prefix.row-placed}
use Rattle.payout_walk.specs.Walk.{one_run, after_run, runs_walked, rows_walked}

-- ---- one after the other

else-assoc : (a b c : Option (ℕ × ℕ)) → or_else (or_else a b) c ≡ or_else a (or_else b c)
unfolding or_else
else-assoc None b c = refl
else-assoc (Some p) b c = refl

else-none : (a : Option (ℕ × ℕ)) → or_else a None ≡ a
unfolding or_else
else-none None = refl
else-none (Some p) = refl

module _ (sum : ℕ → ℤ) (k : ℕ) where
  wrong-append : (r : Row) (a b : List ℕ) (o : Option (ℕ × ℕ)) → wrong_in sum k r (a ++ b) o ≡ or_else (wrong_in sum k r a None) (wrong_in sum k r b o)
  unfolding wrong_in or_else
  wrong-append r [] b o = refl
  wrong-append r (j ∷ a) b o = by-test (inside r.low r.up (sum j)) (λ t. rw t (wrong-append r a b o)) (λ f. rw f refl)

  wrong-else : (r : Row) (a : List ℕ) (o : Option (ℕ × ℕ)) → wrong_in sum k r a o ≡ or_else (wrong_in sum k r a None) o
  unfolding wrong_in
  wrong-else r a o = ap (λ l. wrong_in sum k r l o) (sym (append-nil a)) ∙ wrong-append r a [] o

  -- only the range of a row counts
  same-range : (low up : ℤ) (f n g m : ℕ) (a : List ℕ) (o : Option (ℕ × ℕ)) → wrong_in sum k (record { low = low; up = up; first = f; runs = n }) a o ≡ wrong_in sum k (record { low = low; up = up; first = g; runs = m }) a o
  unfolding wrong_in
  same-range low up f n g m [] o = refl
  same-range low up f n g m (j ∷ a) o = ap (cond (not (inside low up (sum j))) (Some (k, j))) (same-range low up f n g m a o)

-- ---- a run

module _ (series : List ℤ) (h : Head) where
  abbrev sum : ℕ → ℤ
  sum = window_sum series h.window

  abbrev ranged : ℤ → ℤ → Row
  ranged low up = record { low = low; up = up; first = 0; runs = 1 }

  zeros-right : (left right : List ℕ) (n k : ℕ) → wrong_of series h.window left right k (replicate n zero_row) ≡ None
  unfolding wrong_from wrong_in offsets
  zeros-right left right zero k = refl
  zeros-right left right (suc n) k = zeros-right left right n (suc k)

  one-wrong : (low up : ℤ) (l r k : ℕ) → wrong_of series h.window (l ∷ []) (r ∷ []) k (one_run low up) ≡ wrong_in sum k (ranged low up) (numbers_from l (r + 1 - l)) None
  unfolding wrong_from one_run offsets entries
  one-wrong low up l r k = rw (zeros-right _ _ 63 (suc k), append-nil _) refl

  run-found : (k : ℕ) (low up : ℤ) (o : Option (ℕ × ℕ)) (l r : ℕ) → l ≤ r → r + h.window ≤ length series
      → after_run series h (record { low = low; up = up; left = l; rows = k; found = o }) r ≡ or_else o (wrong_in sum k (ranged low up) (numbers_from l (r + 1 - l)) None)
  unfolding after_run
  run-found k low up o l r a b = rw (le-leb l r a, le-leb _ _ b, one-wrong low up l r k) refl

  -- ---- the runs of a row

  held-pos : (W n : ℕ) → n < W → W ≤ 4294967295 → held (pos n) ≡ n
  held-pos W n a b = held-nat (pos n) refl (omega arith)

  run-held : (W k : ℕ) (low up : ℤ) (o : Option (ℕ × ℕ)) (l r : ℕ) → W ≤ 4294967295 → W + h.window ≤ length series + 1 → l ≤ r → r < W
      → after_run series h (record { low = low; up = up; left = held (pos l); rows = k; found = o }) (held (pos r)) ≡ or_else o (wrong_in sum k (ranged low up) (numbers_from l (r + 1 - l)) None)
  run-held W k low up o l r m s a b = rw (held-pos W l (omega arith) m, held-pos W r b m) (run-found k low up o l r a (omega arith))

  runs-found : (W a k : ℕ) (low up : ℤ) (o : Option (ℕ × ℕ)) (l : List (ℕ × ℕ)) → W ≤ 4294967295 → W + h.window ≤ length series + 1 → Apart W a l
      → runs_walked series h k low up o (map entry l) ≡ or_else o (wrong_in sum k (ranged low up) (offsets (map entry l)) None)
  unfolding runs_walked Apart offsets wrong_in
  runs-found W a k low up o [] m s p = sym (else-none o)
  runs-found W a k low up o (x ∷ l) m s p =
      ap (λ (u : Option (ℕ × ℕ)). runs_walked series h k low up u (map entry l)) (run-held W k low up o x.0 x.1 m s p.1 p.2)
      ∙ runs-found W (x.1 + 2) k low up _ l m s p.3
      ∙ else-assoc o (wrong_in sum k (ranged low up) (numbers_from x.0 _) None) _
      ∙ ap (or_else o) (sym (wrong-append sum k (ranged low up) (numbers_from x.0 _) (offsets (map entry l)) None))

-- ---- the rows

module _ (series : List ℤ) (v : Value index_form) (head : head_good (lent (head_held v) [] [] []) ≡ true) (good : (rows_from (head_held v) no_rows v.1.1.1).good ≡ true)
    (fits : (head_held v).windows + (head_held v).window ≡ length series + 1) where
  abbrev X : Index
  X = index_said v

  abbrev h : Head
  h = head_held v

  formed : WellFormed X
  formed = well-formed X (text-bad v ∙ rw (head, good) refl)

  i : HeadIs v
  i = head-is v head

  windows : nat_abs X.windows ≡ h.windows
  unfolding index_said
  windows = ap nat_abs i.windows

  window : nat_abs X.window ≡ h.window
  unfolding index_said
  window = ap nat_abs i.window

  row-found : (a : List (Value row_form)) (r : Value row_form) (b : List (Value row_form)) (f k : ℕ) (o : Option (ℕ × ℕ)) → v.1.1.1 ≡ a ++ (r ∷ b)
      → let row : Row = record { low = r.0; up = r.1.0; first = f; runs = length r.1.1 } in
      GoodRow X row → runs_of X row ≡ r.1.1
      → runs_walked series h k (clamp r.0) (clamp r.1.0) o r.1.1 ≡ or_else o (wrong_in (window_sum series h.window) k row (offsets (runs_of X row)) None)
  row-found a r b f k o e g s =
      let row : Row = record { low = r.0; up = r.1.0; first = f; runs = length r.1.1 } in
      let p = row-placed v head good a r b e in
      let m = g.good.plain in
      let n : r.1.1 ≡ map entry m = sym s ∙ g.good.is in
      let w = window_sum series _ in
      let t : offsets (runs_of X row) ≡ offsets (map entry m) = ap offsets g.good.is in
      rw (p.low, p.up, t, n)
      (runs-found series h h.windows 0 k r.0 r.1.0 o m (omega (arith, i.most)) (omega (arith, fits)) (subst (λ (c : ℕ). Apart c 0 m) windows g.good.apart)
      ∙ ap (or_else o) (same-range w k r.0 r.1.0 0 1 f (length (map entry m)) (offsets (map entry m)) None))

  rows-from : (a l : List (Value row_form)) (f k : ℕ) (o : Option (ℕ × ℕ)) → v.1.1.1 ≡ a ++ l → Lays X.runs f (map row_said l) → All (GoodRow X) (records f (map row_said l))
      → rows_walked series h k o l ≡ or_else o (wrong_from X (window_sum series h.window) k (records f (map row_said l)))
  unfolding rows_walked records wrong_from Lays All
  rows-from a [] f k o e s g = sym (else-none o)
  rows-from a (r ∷ l) f k o e s g =
      let row : Row = record { low = r.0; up = r.1.0; first = f; runs = length r.1.1 } in
      let w = window_sum series _ in
      let q = wrong_in w k row _ None in
      let later = wrong_from X w (suc k) (records _ (map row_said l)) in
      ap (λ (u : Option (ℕ × ℕ)). rows_walked series h (suc k) u l) (row-found a r l f k o e g.0 s.1)
      ∙ rows-from (a ++ (r ∷ [])) l _ (suc k) (or_else o q) (e ∙ sym (append_assoc a _ l)) s.2 g.1
      ∙ else-assoc o q later ∙ ap (or_else o) (sym (wrong-else w k row (offsets (runs_of X row)) later))

  rows_are : X.rows ≡ records 0 (map row_said v.1.1.1)
  unfolding index_said
  rows_are = refl

  runs-lay : Lays X.runs 0 (map row_said v.1.1.1)
  unfolding index_said
  runs-lay = laid _

  -- what is filed wrongly first
  pub rows-found : rows_walked series h 0 None v.1.1.1 ≡ first_wrong X series
  unfolding first_wrong or_else
  rows-found =
      rows-from [] v.1.1.1 0 0 None refl runs-lay (subst (All _) rows_are (each_row X formed))
      ∙ ap (wrong_from X _ 0) (sym rows_are) ∙ ap (λ (c : ℕ). wrong_from X (window_sum series c) 0 X.rows) (sym window)
