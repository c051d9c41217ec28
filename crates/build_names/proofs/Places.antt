-- Laws of specs/Places.
use Rattle.meaning_numbers.proofs.Prelude.{◌≡◌, refl, sym, ap, ◌∙◌, List, ℕ, zero, suc, ◌+◌, ◌-◌, ◌*◌, ◌<◌, ◌≤◌, arith, ltb, ℤ, length, get_or, set, length-set, lt-ltb, ltb-true, ltb-false, by-test}
use Rattle.meaning_curves.specs.Curve.{window_sum}
use Rattle.meaning_rows.specs.{declared.Row.Row, Runs.run_count}
use Rattle.meaning_rows.proofs.Cursors.{file_right, length-file}
use Rattle.rows_records.specs.Records.{zero_row}
use Rattle.sums_slide.specs.{declared.Window.Window, Change.Stop, Change.RowRun, Ends.raised_end, Levels.level, Levels.Lent, Levels.windows_of, Levels.level-small, Levels.place_from}
use Rattle.sums_slide.proofs.Levels.{level-is, sum_is}
use Rattle.sums_count.specs.Tally.{is_row}
use Rattle.build_parts.specs.Part.{written, PartRoom}
use Rattle.build_merge.specs.{Names.name_at, Names.name_before, Names.NamedRow, Merging.part_at}
use Rattle.build_names.specs.{Ranges.LimitedRow, Ranges.row_in, Places.name_for, Places.name_in, Places.entry_of, Places.Nameable, Places.Unnamed}
use Rattle.build_names.proofs.Ranges.{range-climbs, stop-run}
use Rattle.build_names.proofs.Naming.{Naming, naming-start, naming-more, naming-written, naming-room, naming-run, naming-end}

module _ (s : List ℤ) (w e : ℕ) (rows : List Row) (count : ℕ) where
  abbrev n : ℕ
  n = windows_of s w

  abbrev row : ℕ → ℕ
  row = row_in rows count (window_sum s w)

  abbrev named : Window → ℕ
  named at = entry_of (name_in rows count (length s) w e at)

  named-is : (at : Window) → Lent s w e → at.level ≡ level s w e at.offset → named at ≡ name_at row n at.offset
  unfolding name_for name_at row_in
  named-is at h l = rw (sum_is at h l) (by-test (ltb at.offset n) (λ t. rw t refl) (λ f. rw f refl))

  -- where a window begins a run, with the names before and at it
  pub record Underway (left₀ right₀ : List ℕ) (at : Window) (before name : ℕ) (left right : List ℕ) : Type 0 where
    pub naming : Naming row n count at.offset left right
    pub below : at.offset ≤ n
    pub level-is : at.level ≡ level s w e at.offset
    pub before-is : before ≡ name_before row n at.offset
    pub name-is : name ≡ name_at row n at.offset
    pub long-left : length left ≡ length left₀
    pub long-right : length right ≡ length right₀

  module _ (left₀ right₀ : List ℕ) (u : Unnamed s w e rows count left₀ right₀) where
    -- a row's name is small
    small-name : (j : ℕ) → name_at row n j ≤ 4294967295
    unfolding name_at
    small-name j = by-test (ltb j n)
        (λ t. rw t (omega (arith, u.ranges.ranged.home j (ltb-true j n t), u.few)))
        (λ f. rw f (omega arith))

    small-before : (j : ℕ) → name_before row n j ≤ 4294967295
    unfolding name_before
    small-before zero = omega arith
    small-before (suc j) = small-name j

    pub nameable : (at : Window) → at.offset ≤ n → at.level ≡ level s w e at.offset → Nameable rows count w e at
    nameable at b l = record {
      climbs = range-climbs (window_sum s w) n rows count u.ranges.ranged;
      some = u.lent.some;
      most = u.lent.most;
      small = u.lent.small;
      level-small = omega (arith, l, level-small at.offset u.lent);
      offset-small = omega (arith, b);
      few = u.few;
    }

    pub underway-start : (at : Window) → at ≡ place_from s w e 0 → Underway left₀ right₀ at 0 (named at) left₀ right₀
    unfolding name_before
    underway-start at q = rw q (record {
      naming = naming-start row n count left₀ right₀ u.zeros u.in_left u.in_right;
      below = omega arith;
      level-is = refl;
      before-is = refl;
      name-is = named-is _ u.lent refl;
      long-left = refl;
      long-right = refl;
    })

    module _ (at : Window) (before name : ℕ) (left right : List ℕ) (z : Underway left₀ right₀ at before name left right) where
      abbrev j : ℕ
      j = at.offset

      -- past the last window no row is named
      pub underway-end : name ≡ 0 → (i : ℕ) → i < count → NamedRow row n i (part_at row n i) left right
      unfolding name_at
      underway-end e = naming-end row n count left right (rw last at z.naming)
        where
          last : at.offset ≡ n
          last = by-test _
              (λ t. let q : name ≡ row at.offset + 1 = z.name-is ∙ rw t in absurd (omega arith))
              (λ f. omega (arith, z.below, ltb-false at.offset n f))

      module _ (some : (name ≡ 0) → ⊥) where
        less : j < n
        unfolding name_at
        less = by-test _ (λ t. ltb-true j n t) (λ f. absurd (some (z.name-is ∙ rw f)))

        name-row : name ≡ row j + 1
        unfolding name_at
        name-row = z.name-is ∙ rw (lt-ltb j n less)

        place_is : name - 1 ≡ row j
        place_is = omega (arith, name-row)

        -- the record of the run's row
        abbrev here : Row
        here = get_or rows (name - 1) zero_row

        home : row j < count
        home = u.ranges.ranged.home j less

        pub turn-place : name - 1 < length rows
        turn-place = omega (arith, place_is, home, u.ranges.ranged.within-rows)

        here-is : here ≡ get_or rows (row j) zero_row
        here-is = rw place_is

        pub turn_end : Lent s w e × (at.offset ≤ windows_of s w) × (at.level ≡ level s w e at.offset) × LimitedRow here
        turn_end = (u.lent, z.below, z.level-is, rw here-is (u.ranges.ranged.limited (row j) home))

        module _ (next : Window) (stop : Stop (level s w e) n (raised_end (10000 * w + e) here.low) (raised_end (10000 * w + e) here.up) at.offset next.offset next.level) where
          run : RowRun row n j next.offset
          run = stop-run (window_sum s w) (level s w e) (10000 * w + e) n rows count u.ranges.ranged (λ k. level-is k u.lent) j next.offset next.level less (rw place_is at stop)

          pub turn-next : (next.offset ≤ n) × (next.level ≡ level s w e next.offset)
          turn-next = (run.below, stop.sum)

          abbrev after : ℕ
          after = named next

          after_is : after ≡ name_at row n next.offset
          after_is = named-is next u.lent stop.sum

          first-is : here.first ≡ part_at row n (row j)
          first-is = rw here-is (u.ranges.first-is (row j) home)

          runs-are : here.runs ≡ run_count (is_row row (row j)) n
          runs-are = rw here-is (u.ranges.runs-is (row j) home)

          written_is : written here right ≡ run_count (is_row row (row j)) j
          written_is = rw (first-is, runs-are) (naming-written row n count j next.offset run home left right z.naming)

          pub turn-asks : (before ≤ 4294967295) × (after ≤ 4294967295) × PartRoom here left right
          turn-asks =
              let room = naming-room row n count j next.offset run home left right z.naming in (
                omega (arith, z.before-is, small-before at.offset),
                omega (arith, after_is, small-name next.offset),
                record {
                  in_left = omega (arith, first-is, runs-are, room.0);
                  in_right = omega (arith, first-is, runs-are, room.1);
                  more = omega (arith, written_is, runs-are, naming-more row n count j next.offset run home left right z.naming);
                },
              )

          pub turn-nearer : n - next.offset < n - at.offset
          turn-nearer = omega (arith, run.ahead, run.below)

          before-next : name ≡ name_before row n next.offset
          unfolding name_before name_at
          before-next =
              let k = next.offset - 1 in
              let q : next.offset ≡ suc k = omega (arith, run.ahead) in
              let b : k < n = omega arith in
              rw (q, lt-ltb k n b) (name-row ∙ ap (λ (x : ℕ). x + 1) (sym (run.same k (omega arith) (omega (arith, run.ahead)))))

          pub underway-turn : (left' right' : List ℕ) → left' ≡ set left (here.first + written here right) before → right' ≡ file_right right here.first here.runs (written here right) after
              → Underway left₀ right₀ next name after left' right'
          underway-turn left' right' el er =
              let g = naming-run row n count j next.offset run home left right z.naming in
              record {
                naming = rw (el, er, written_is, first-is, runs-are, z.before-is, after_is) g;
                below = run.below;
                level-is = stop.sum;
                before-is = before-next;
                name-is = after_is;
                long-left = rw el (length-set left (here.first + written here right) before ∙ z.long-left);
                long-right = rw er (length-file right here.first here.runs (written here right) after ∙ z.long-right);
              }
