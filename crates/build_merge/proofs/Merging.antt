-- Laws of specs/Merging.
use Rattle.meaning_numbers.proofs.Sum.{Σℕ-none, Σℕ-more, Σℕ-fewer}
use Rattle.meaning_numbers.proofs.Prelude.{◌≡◌, refl, sym, ap, ◌∙◌, true, false, List, [], ◌∷◌, ◌++◌, map, append_assoc, ℕ, suc, ◌+◌, ◌*◌, ◌<◌, ◌≤◌, arith, add-one, ltb, length, get_or, take, drop, set, length-map, length-append, length-set, drop-cons, take-set-le, drop-set-lt, take-suc-set, by-test}
use Rattle.meaning_rows.specs.Build.{SetRow, join, takes, upward, merged, entry, with_runs}
use Rattle.meaning_rows.specs.{declared.Row.Row, Runs.runs, Runs.run_count, Index.records}
use Rattle.meaning_rows.proofs.{Runs.runs-cong, Runs.runs-le, Build.upward-yes, Build.upward-no}
use Rattle.rows_records.specs.Records.{zero_row}
use Rattle.sums_count.specs.Tally.{is_row}
use Rattle.rows_pack.specs.PackedAs.{PackedAs}
use Rattle.build_merge.specs.{declared.Group.Group, Names.NamedRow, Merging.Numbered, Merging.part_at, Merging.Rows, Merging.Ready, Group.touching, Group.first_group, Group.union_runs, Group.joined, Group.begun, Group.next_group, Group.Joinable}
use Rattle.build_merge.proofs.Names.{group, group-one, group-more, runs-merged}

-- ---- records of rows, one by one

abbrev pub record_of : ℕ → ℕ → SetRow → Row
record_of n first s = record { low = s.low; up = s.up; first = first; runs = run_count s.has n }

-- how many runs the rows have
unfoldable pub run_total : ℕ → List SetRow → ℕ
run_total n [] = 0
run_total n (s ∷ l) = run_count s.has n + run_total n l

total-end : (n : ℕ) (l : List SetRow) (s : SetRow) → run_total n (l ++ (s ∷ [])) ≡ run_total n l + run_count s.has n
unfolding run_total
total-end n [] s = omega arith
total-end n (x ∷ l) s = omega (arith, total-end n l s)

pub records-first : (n k : ℕ) (s : SetRow) (l : List SetRow) → records k (map (with_runs n) (s ∷ l)) ≡ record_of n k s ∷ records (k + run_count s.has n) (map (with_runs n) l)
unfolding records with_runs
records-first n k s l = rw (length-map (runs s.has n) entry)

records-none : (n k : ℕ) → records k (map (with_runs n) []) ≡ []
unfolding records
records-none n k = refl

records-end : (n k : ℕ) (l : List SetRow) (s : SetRow) → records k (map (with_runs n) (l ++ (s ∷ []))) ≡ records k (map (with_runs n) l) ++ (record_of n (k + run_total n l) s ∷ [])
unfolding run_total
records-end n k [] s = let e : k + 0 ≡ k = omega arith in rw (e, records-first n k s [], records-none n k, records-none n (k + run_count s.has n))
records-end n k (x ∷ l) s =
    let e : k + run_count x.has n + run_total n l ≡ k + (run_count x.has n + run_total n l) = omega arith in
    rw (records-first n k x (l ++ (s ∷ [])), records-first n k x l, records-end n (k + run_count x.has n) l s, e)

-- a record behind the records of the rows before its row
records-closed : (n : ℕ) (l : List SetRow) (s : SetRow) (r : Row) → r ≡ record_of n (run_total n l) s → records 0 (map (with_runs n) l) ++ (r ∷ []) ≡ records 0 (map (with_runs n) (l ++ (s ∷ [])))
records-closed n l s r e = let z : 0 + run_total n l ≡ run_total n l = omega arith in rw (records-end n 0 l s, z, e)

-- ---- the invariant

module _ (t : Rows) (count : ℕ) (left right : List ℕ) (g : ℕ) where
  abbrev n : ℕ
  n = t.windows

  abbrev row : ℕ → ℕ
  row = t.row

  -- before row i: groups are closed, one is on the way, the other rows are ahead
  pub record Stand (closed : List SetRow) (current : SetRow) (ahead : List SetRow) (i : ℕ) (rows : List Row) (m : Group) : Type 0 where
    pub so_far : merged g n t.list ≡ closed ++ upward g n current ahead
    pub many : i + length ahead ≡ count
    pub numbered : Numbered row n i ahead
    pub rest : take (length ahead) (drop i rows) ≡ records (part_at row n i) (map (with_runs n) ahead)
    pub has : (j : ℕ) → j < n → current.has j ≡ group row n m.from i j
    pub front : take m.place rows ≡ records 0 (map (with_runs n) closed)
    pub done : take (m.place + 1) rows ≡ records 0 (map (with_runs n) closed) ++ (m.row ∷ [])
    pub place_is : m.place ≡ length closed
    pub row_is : m.row ≡ record_of n (run_total n closed) current
    pub behind : run_total n closed + run_count current.has n ≤ part_at row n i
    pub place-below : m.place < i
    pub from-below : m.from < i
    pub long : count ≤ length rows

  pub record Merging (i : ℕ) (rows : List Row) (m : Group) : Type 0 where
    pub closed : List SetRow
    pub current : SetRow
    pub ahead : List SetRow
    pub stand : Stand closed current ahead i rows m

  -- the group after the record at i
  abbrev pub next : ℕ → List Row → Group → Group
  next i rows m = next_group left right g m i (get_or rows i zero_row)

  module _ (named : (i : ℕ) → i < count → NamedRow row n i (part_at row n i) left right) where
    module _ (closed : List SetRow) (current s : SetRow) (ahead : List SetRow) (i : ℕ) (rows : List Row) (m : Group) (z : Stand closed current (s ∷ ahead) i rows m) where
      less : i < count
      less = omega (arith, z.many)

      opened : get_or rows i zero_row ∷ take (length ahead) (drop (suc i) rows) ≡ record_of n (part_at row n i) s ∷ records (part_at row n i + run_count s.has n) (map (with_runs n) ahead)
      opened = let e = rw (drop-cons rows i zero_row (omega (arith, less)), records-first n (part_at row n i) s ahead) at z.rest in e

      -- the record at i
      record_is : get_or rows i zero_row ≡ record_of n (part_at row n i) s
      record_is = ap (λ l. get_or l 0 zero_row) opened

      same_runs : runs s.has n ≡ runs (is_row row i) n
      unfolding Numbered
      same_runs = runs-cong s.has (is_row row i) n z.numbered.0

      same_count : run_count s.has n ≡ run_count (is_row row i) n
      same_count = ap length same_runs

      part-next : part_at row n (i + 1) ≡ part_at row n i + run_count s.has n
      part-next = Σℕ-more i (λ x. run_count (is_row row x) n) ∙ rw same_count

      -- the windows of both
      joined-has : (j : ℕ) → j < n → (join current s).has j ≡ group row n m.from (i + 1) j
      unfolding join Numbered
      joined-has j l = rw (z.has j l, z.numbered.0 j l) (group-more row n m.from i (omega (arith, z.from-below)) j l)

      counted : run_count (join current s).has n + touching left right (record_of n (part_at row n i) s) m.from i ≡ run_count current.has n + run_count s.has n
      counted =
          let u = ap length (runs-cong (join current s).has (group row n m.from (i + 1)) n joined-has) in
          let c = ap length (runs-cong current.has (group row n m.from i) n z.has) in
          let h = runs-merged row n m.from i (omega (arith, z.from-below)) (part_at row n i) left right (named i less) in
          omega (arith, u, c, (rw (← same_count) at h))

      union-is : union_runs left right m i (get_or rows i zero_row) ≡ run_count (join current s).has n
      union-is = rw (record_is, z.row_is) (omega (arith, counted))

      decides : ltb (100 * union_runs left right m i (get_or rows i zero_row)) (g * (m.row.runs + (get_or rows i zero_row).runs)) ≡ takes g n current s
      unfolding takes
      decides = rw (union-is, record_is, z.row_is)

      -- one step, whichever: the record of the group is written at its place
      moved : (closed' : List SetRow) (current' : SetRow) (m' : Group) → merged g n t.list ≡ closed' ++ upward g n current' ahead
          → ((j : ℕ) → j < n → current'.has j ≡ group row n m'.from (i + 1) j) → take m'.place rows ≡ records 0 (map (with_runs n) closed') → m'.place ≡ length closed'
          → m'.row ≡ record_of n (run_total n closed') current' → run_total n closed' + run_count current'.has n ≤ part_at row n i + run_count s.has n → m'.place ≤ i → m'.from ≤ i
          → Stand closed' current' ahead (i + 1) (set rows m'.place m'.row) m'
      unfolding Numbered
      moved closed' current' m' so h f p r b o q =
          let at = m'.place in
          record {
            so_far = so;
            many = omega arith;
            numbered = z.numbered.1;
            rest = rw (drop-set-lt (i + 1) rows at m'.row (omega arith), add-one i, ← add-one i, part-next) ahead-is;
            has = h;
            front = take-set-le at rows at m'.row (omega arith) ∙ f;
            done = rw (add-one at, take-suc-set rows at m'.row (omega (arith, z.long)), f);
            place_is = p;
            row_is = r;
            behind = omega (arith, b, part-next);
            place-below = omega arith;
            from-below = omega arith;
            long = omega (arith, z.long, length-set rows at m'.row);
          }
        where
          ahead-is : take (length ahead) (drop (i + 1) rows) ≡ records (part_at row n i + run_count s.has n) (map (with_runs n) ahead)
          ahead-is = rw (add-one i) (ap (λ l. drop 1 l) opened)

      abbrev here : Row
      here = get_or rows i zero_row

      abbrev union : ℕ
      union = union_runs left right m i here

      -- the row joins
      joins : takes g n current s ≡ true → Stand closed (join current s) ahead (i + 1) (set rows m.place (joined m here union).row) (joined m here union)
      unfolding join
      joins e = moved closed (join current s) (joined m here union) (z.so_far ∙ ap (λ (l : List SetRow). closed ++ l) (upward-yes g n current s ahead e))
          joined-has z.front z.place_is (rw (union-is, record_is, z.row_is)) (omega (arith, counted)) (omega (arith, z.place-below)) (omega (arith, z.from-below))

      -- or begins the next group
      begins : takes g n current s ≡ false → Stand (closed ++ (current ∷ [])) s ahead (i + 1) (set rows (m.place + 1) (begun m i here).row) (begun m i here)
      unfolding Numbered
      begins e = moved (closed ++ (current ∷ [])) s (begun m i here)
          (z.so_far ∙ ap (λ (l : List SetRow). closed ++ l) (upward-no g n current s ahead e) ∙ sym (append_assoc closed (current ∷ []) (upward g n s ahead)))
          (λ j l. z.numbered.0 j l ∙ group-one row n i j l)
          (z.done ∙ records-closed n closed current m.row z.row_is)
          (omega (arith, z.place_is, length-append closed (current ∷ [])))
          (rw (record_is, z.row_is, total-end n closed current))
          (omega (arith, total-end n closed current, z.behind)) (omega (arith, z.place-below)) (omega arith)

      turned : Merging (i + 1) (set rows (next i rows m).place (next i rows m).row) (next i rows m)
      unfolding next_group
      turned = by-test (takes g n current s)
          (λ e. rw (decides, e) (record { closed = closed; current = join current s; ahead = ahead; stand = joins e }))
          (λ e. rw (decides, e) (record { closed = closed ++ (current ∷ []); current = s; ahead = ahead; stand = begins e }))

      able : n ≤ 1048576 → part_at row n count ≤ length left → part_at row n count ≤ length right → count ≤ 4294967295 → g ≤ 100 → Joinable m i here left right g
      able short il ir few percent =
          let room : part_at row n i + run_count s.has n ≤ part_at row n count = omega (arith, part-next, Σℕ-fewer (i + 1) count (λ x. run_count (is_row row x) n) (omega (arith, less))) in
          rw record_is (record {
            in_left = omega arith;
            in_right = omega (arith, room);
            behind = rw z.row_is z.behind;
            few = rw z.row_is (omega (arith, runs-le current.has n, runs-le s.has n));
            union = rw z.row_is (omega (arith, counted));
            percent = percent;
            place = z.place-below;
            from = z.from-below;
            small = omega (arith, less);
          })

    pub merging-turn : (i : ℕ) (rows : List Row) (m : Group) → Merging i rows m → i < count → Merging (i + 1) (set rows (next i rows m).place (next i rows m).row) (next i rows m)
    merging-turn i rows m z l = go z.ahead z.stand
      where
        go : (ahead : List SetRow) → Stand z.closed z.current ahead i rows m → Merging (i + 1) (set rows (next i rows m).place (next i rows m).row) (next i rows m)
        go [] y = absurd (omega (arith, y.many))
        go (s ∷ ahead) y = turned z.closed z.current s ahead i rows m y

    -- the record's place is there
    pub merging-place : (i : ℕ) (rows : List Row) (m : Group) → Merging i rows m → i < count → (next i rows m).place < length rows
    merging-place i rows m z l = omega (arith, z.stand.long, (merging-turn i rows m z l).stand.place-below)

    pub merging-joinable : n ≤ 1048576 → part_at row n count ≤ length left → part_at row n count ≤ length right → count ≤ 4294967295 → g ≤ 100
        → (i : ℕ) (rows : List Row) (m : Group) → Merging i rows m → i < count → Joinable m i (get_or rows i zero_row) left right g
    merging-joinable short il ir few percent i rows m z l = go z.ahead z.stand
      where
        go : (ahead : List SetRow) → Stand z.closed z.current ahead i rows m → Joinable m i (get_or rows i zero_row) left right g
        go [] y = absurd (omega (arith, y.many))
        go (s ∷ ahead) y = able z.closed z.current s ahead i rows m y short il ir few percent

  module _ (rows : List Row) (r : Ready t rows count left right) where
    first-stand : (s : SetRow) (l : List SetRow) → t.list ≡ s ∷ l → Stand [] s l 1 rows (first_group (get_or rows 0 zero_row))
    unfolding Numbered merged run_total
    first-stand s l e =
        let many : count ≡ suc (length l) = r.packed.many ∙ ap length e in
        let long : 0 < length rows = omega arith in
        let numbered : Numbered row n 0 (s ∷ l) = rw e at r.numbered in
        let all : take (suc (length l)) rows ≡ records 0 (map (with_runs n) (s ∷ l)) = rw (many, e) at r.packed.front in
        let opened = ap (λ (x : List Row). take (suc (length l)) x) (sym (drop-cons rows 0 zero_row long)) ∙ all ∙ records-first n 0 s l in
        let here : get_or rows 0 zero_row ≡ record_of n 0 s = ap (λ (x : List Row). get_or x 0 zero_row) opened in
        let same : run_count s.has n ≡ run_count (is_row row 0) n = ap length (runs-cong s.has (is_row row 0) n numbered.0) in
        let part : part_at row n 1 ≡ 0 + run_count s.has n = omega (arith, Σℕ-more 0 (λ x. run_count (is_row row x) n), Σℕ-none (λ x. run_count (is_row row x) n), same) in
        record {
          so_far = rw e;
          many = omega arith;
          numbered = numbered.1;
          rest = rw part (ap (λ (x : List Row). drop 1 x) opened);
          has = λ j b. numbered.0 j b ∙ group-one row n 0 j b;
          front = sym (records-none n 0);
          done = rw (records-none n 0) (ap (λ (x : List Row). take 1 x) (drop-cons rows 0 zero_row long));
          place_is = refl;
          row_is = here;
          behind = omega (arith, part);
          place-below = omega arith;
          from-below = omega arith;
          long = r.packed.within;
        }

    pub merging_start : Merging 1 rows (first_group (get_or rows 0 zero_row))
    merging_start = go t.list refl
      where
        go : (l : List SetRow) → t.list ≡ l → Merging 1 rows (first_group (get_or rows 0 zero_row))
        go [] e = absurd (omega (arith, r.some, r.packed.many, ap length e))
        go (s ∷ l) e = record { closed = []; current = s; ahead = l; stand = first-stand s l e }

  pub merging-end : (rows : List Row) (m : Group) → Merging count rows m → PackedAs n (merged g n t.list) rows (m.place + 1)
  unfolding upward
  merging-end rows m z = go z.ahead z.stand
    where
      last : Stand z.closed z.current [] count rows m → merged g n t.list ≡ z.closed ++ (z.current ∷ [])
      last y = y.so_far

      go : (ahead : List SetRow) → Stand z.closed z.current ahead count rows m → PackedAs n (merged g n t.list) rows (m.place + 1)
      go (s ∷ ahead) y = absurd (omega arith)
      go [] y = record {
        many = omega (arith, ap length (last y), length-append z.closed (z.current ∷ []));
        within = omega arith;
        front = y.done ∙ rw (last y) (records-closed n z.closed z.current m.row y.row_is);
      }
