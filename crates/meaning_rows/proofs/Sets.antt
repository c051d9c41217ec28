-- Rows given by sets of offsets, laid out with their runs. A row has below n exactly the offsets of its set (`row_shows`, `shows-row`). Such an index is well formed if the ranges ascend and
-- their ends are good, no set is empty, and the sizes total at most the windows (`sets-well-formed`); then a window that its sets hold rightly has a home (`sets-home`).
use Rattle.meaning_numbers.specs.{Sum.count, Place.any, Order.within}
use Rattle.meaning_numbers.proofs.Prelude.{◌≡◌, refl, sym, ap, ◌∙◌, ⊎_elim, Bool, true, ◌&&◌, List, [], ◌∷◌, map, List-as-Memᴰ as Mem, List·Memᴰ·head as here, List·Memᴰ·tail as there, List·Memᴰ·not-nil as not-nil, List·Memᴰ·cases-cons as cases, ℕ, ◌+◌, ◌<◌, ◌≤◌, arith, ltb, ℤ, pos, nat_abs, length, length-map, ◌≤ℤ◌, lt-ltb, le_z-true, by-test, both, of-both}
use Rattle.meaning_numbers.proofs.{Count.count-cong, Member.any-map, Member.any_found, Member.any-mem, Member.All}
use Rattle.meaning_curves.specs.{Limits.lowest_end, Curve.window_sum}
use Rattle.meaning_rows.specs.{declared.Row.Row, Range.inside, Runs.runs, Judge.run_lengths, Build.SetRow, Build.entry, Build.with_runs, Index.Index, Index.stands, Index.runs_of, Index.records, Index.laid_out}
use Rattle.meaning_rows.proofs.{Runs.runs-apart, Runs.runs-hold, Runs.entries-of-runs, Runs.lengths-count, Times.Ascending, Times.times, Times.sizes, Times.none-times, Judge.GoodHead, Judge.GoodEnd, Judge.GoodRows, Judge.WellFormed, Audit.Home, Audit.home_of, Laid.Lays, Laid.laid, Build.range, Build.sets, Build.Ends, Build.Occupied, Build.occupied-runs}

-- the index of n windows with these rows
abbrev pub shown : ℤ → ℤ → ℕ → List SetRow → Index
shown window width n rows = laid_out window width (pos n) (map (with_runs n) rows)

-- a row record shows a set
pub record Shows (x : Index) (n : ℕ) (q : SetRow) (r : Row) : Type 0 where
  pub low : r.low ≡ q.low
  pub up : r.up ≡ q.up
  pub has : (j : ℕ) → stands x r j ≡ (ltb j n && q.has j)

pub shows-inside : (x : Index) (n : ℕ) (q : SetRow) (r : Row) (z : ℤ) → Shows x n q r → inside r.low r.up z ≡ inside q.low q.up z
shows-inside x n q r z h = cc (h.low, h.up)

pub record ShownBy (x : Index) (n : ℕ) (l : List Row) (q : SetRow) : Type 0 where
  pub row : Row
  pub is : Mem row l
  pub shows : Shows x n q row

pub record Showing (x : Index) (n : ℕ) (l : List SetRow) (r : Row) : Type 0 where
  pub set : SetRow
  pub is : Mem set l
  pub shows : Shows x n set r

module _ (x : Index) (n : ℕ) where
  shows_first : (k : ℕ) (q : SetRow) (rows : List SetRow) → Lays x.runs k (map (with_runs n) (q ∷ rows))
      → Shows x n q (record { low = q.low; up = q.up; first = k; runs = length (map entry (runs q.has n)) })
  unfolding Lays with_runs
  shows_first k q rows h = record { low = refl; up = refl; has = λ j. rw h.1 (entries-of-runs _ n j) }

  row_from : (k : ℕ) (rows : List SetRow) → Lays x.runs k (map (with_runs n) rows) → (q : SetRow) → Mem q rows → ShownBy x n (records k (map (with_runs n) rows)) q
  unfolding records Lays with_runs
  row_from k [] h q m = absurd (not-nil m)
  row_from k (p ∷ rows) h q m = ⊎_elim
      (λ e. rw e (record { row = _; is = here refl; shows = shows_first k p rows h }))
      (λ o. let s = row_from (k + length (with_runs n p).runs) rows h.2 q o in record { row = s.row; is = there s.is; shows = s.shows })
      (cases m)

  set-from : (k : ℕ) (rows : List SetRow) → Lays x.runs k (map (with_runs n) rows) → (r : Row) → Mem r (records k (map (with_runs n) rows)) → Showing x n rows r
  unfolding records Lays with_runs
  set-from k [] h r m = absurd (not-nil m)
  set-from k (p ∷ rows) h r m = ⊎_elim
      (λ e. record { set = p; is = here refl; shows = rw e (shows_first k p rows h) })
      (λ o. let s = set-from (k + length (with_runs n p).runs) rows h.2 r o in record { set = s.set; is = there s.is; shows = s.shows })
      (cases m)

-- what makes the rows of n windows good
pub record Sound (d n : ℕ) (rows : List SetRow) : Type 0 where
  pub ascending : Ascending lowest_end (map range rows)
  pub ends : All (Ends (GoodEnd d)) rows
  pub occupied : All (Occupied n) rows
  pub total : sizes (sets rows) n ≤ n

runs-count : (p : ℕ → Bool) (n : ℕ) → run_lengths (map entry (runs p n)) ≡ count p n
runs-count p n = lengths-count n 0 _ (runs-apart p n) ∙ count-cong _ p n (λ j b. runs-hold p n j ∙ rw (lt-ltb j n b))

module _ (window width : ℤ) (n : ℕ) (all : List SetRow) where
  pub shows-row : (q : SetRow) → Mem q all → ShownBy (shown window width n all) n (shown window width n all).rows q
  shows-row q m = row_from _ n 0 all (laid _) q m

  pub row_shows : (r : Row) → Mem r (shown window width n all).rows → Showing (shown window width n all) n all r
  row_shows r m = set-from _ n 0 all (laid _) r m

  good-from : (least : ℤ) (k taken : ℕ) (rows : List SetRow) → Lays (shown window width n all).runs k (map (with_runs n) rows)
      → Ascending least (map range rows) → All (Ends (GoodEnd (nat_abs width))) rows → All (Occupied n) rows → taken + sizes (sets rows) n ≤ n
      → GoodRows (shown window width n all) least k taken (records k (map (with_runs n) rows))
  unfolding Lays Ascending All GoodRows records with_runs sizes
  good-from least k taken [] h a e o t = tt
  good-from least k taken (q ∷ rows) h a e o t =
      let r : Row = record { low = q.low; up = q.up; first = k; runs = length (map entry (runs _ n)) } in
      let same = h.1 in
      let long : run_lengths (runs_of (shown window width n all) r) ≡ count q.has n = ap run_lengths same ∙ runs-count q.has n in (
        record {
          row = record {
            wide = a.1;
            low_end = e.0.low_end;
            up-end = e.0.up-end;
            some-run = omega (arith, length-map (runs q.has n) entry, occupied-runs n q o.0);
            fits = h.0;
            good = record { plain = runs _ n; is = same; apart = runs-apart _ n };
          };
          order = a.0;
          begins = refl;
          total = omega arith;
        },
        good-from q.up _ _ rows h.2 a.2 e.1 o.1 (omega arith),
      )

  pub sets-well-formed : GoodHead (shown window width n all) → Sound (nat_abs width) n all → WellFormed (shown window width n all)
  sets-well-formed h s =
      record { head = h; rows = good-from lowest_end 0 0 all (laid _) s.ascending s.ends s.occupied (omega arith) }

  -- a window that some set has, and that each set that has it holds rightly, has a home
  pub sets-home : (s : List ℤ) (j : ℕ) → WellFormed (shown window width n all) → j < n
      → ((q : SetRow) → Mem q all → q.has j ≡ true → inside q.low q.up (window_sum s (nat_abs window) j) ≡ true) → any (λ q. q.has j) all ≡ true
      → Home (shown window width n all) s j
  sets-home s j g b right e =
      let x = shown window width n all in
      let f = any_found (λ q. q.has j) all e in
      let r = shows-row _ f.is in
      home_of x s g j
      (λ q m t. let a = row_shows q m in let h = a.shows in
      shows-inside x n _ q _ h ∙ right _ a.is (both (ltb j n) _ (sym (h.has j) ∙ t)).1)
      (any-mem (λ q. stands x q j) r.is (r.shows.has j ∙ of-both (lt-ltb j n b) f.passes))

pub once-any : (j : ℕ) (rows : List SetRow) → times (sets rows) j ≡ 1 → any (λ q. q.has j) rows ≡ true
once-any j rows e = by-test _ (λ t. t)
    (λ f. absurd (omega (arith, none-times _ j (any-map (λ p. p j) (λ q. q.has) rows ∙ f))))

pub end-least : (d : ℕ) (z : ℤ) → GoodEnd d z → lowest_end ≤ℤ z
unfolding within
end-least d z e = le_z-true (both _ _ e.limited).0
