-- A turn of naming over plain variables, with what its calls give: that they may be made, how the loop starts, moves and ends.
use Rattle.meaning_numbers.proofs.Prelude.{◌≡◌, refl, ap, Option, Some, None, ℕ, ◌<◌, ◌≤◌, ◌+◌, ◌-◌, ◌*◌, arith, List, ℤ, length, set, get_or}
use Rattle.meaning_curves.specs.Curve.{window_sum}
use Rattle.meaning_rows.specs.declared.Row.{Row}
use Rattle.meaning_rows.proofs.Cursors.{file_right}
use Rattle.rows_records.specs.Records.{zero_row}
use Rattle.sums_slide.specs.{declared.Window.Window, Levels.Lent, Levels.level, Levels.windows_of, Levels.place_from, Change.Stop, Ends.raised_end}
use Rattle.build_parts.specs.Part.{written, PartRoom}
use Rattle.build_merge.specs.{Names.NamedRow, Merging.part_at}
use Rattle.build_names.specs.{Ranges.row_in, Ranges.LimitedRow, Places.name_in, Places.entry_of, Places.Nameable, Places.Unnamed}
use Rattle.build_names.proofs.Places.{Underway, nameable, underway-start, underway-end, underway-turn, turn-place, turn_end, turn-next, turn-asks, turn-nearer}

module _ (ss : List ℤ) (w e : ℕ) (rows : List Row) (n : ℕ) (ls ks : List ℕ) (asked : Unnamed ss w e rows n ls ks) where
  abbrev pub Way : Window → ℕ → ℕ → List ℕ → List ℕ → Type 0
  Way = Underway ss w e rows n ls ks

  pub first-nameable : {p : Window} → p ≡ place_from ss w e 0 → Nameable rows n w e p
  first-nameable q = rw q (nameable ss w e rows n ls ks asked _ (omega arith) refl)

  pub started : {p : Window} {name : Option ℕ} → p ≡ place_from ss w e 0 → name ≡ name_in rows n (length ss) w e p → Way p (entry_of None) (entry_of name) ls ks
  started {p} is q = rw q (underway-start ss w e rows n ls ks asked p is)

  module _ {at : Window} (before name : Option ℕ) {left right : List ℕ} (way : Way at (entry_of before) (entry_of name) left right) where
    pub ended : name ≡ None → (i : ℕ) → i < n → NamedRow (row_in rows n (window_sum ss w)) (windows_of ss w) i (part_at (row_in rows n (window_sum ss w)) (windows_of ss w) i) left right
    ended none = underway-end ss w e rows n ls ks asked at (entry_of before) (entry_of name) left right way (ap entry_of none)

    module _ {i : ℕ} (is-name : name ≡ Some i) where
      at-row : Way at (entry_of before) (i + 1) left right
      at-row = rw is-name at way

      some : i + 1 ≡ 0 → ⊥
      some z = omega arith

      back : i + 1 - 1 ≡ i
      back = omega arith

      pub place_in : i < length rows
      place_in = rw back at (turn-place ss w e rows n ls ks asked at (entry_of before) (i + 1) left right at-row some)

      module _ {r : Row} (is-r : r ≡ get_or rows i zero_row) where
        here : r ≡ get_or rows (i + 1 - 1) zero_row
        here = rw back is-r

        pub asks-end : Lent ss w e × (at.offset ≤ windows_of ss w) × (at.level ≡ level ss w e at.offset) × LimitedRow r
        asks-end = rw here (turn_end ss w e rows n ls ks asked at (entry_of before) (i + 1) left right at-row some)

        module _ {next : Window} (stop : Stop (level ss w e) (windows_of ss w) (raised_end (10000 * w + e) r.low) (raised_end (10000 * w + e) r.up) at.offset next.offset next.level) where
          pub nearer-end : windows_of ss w - next.offset < windows_of ss w - at.offset
          nearer-end = turn-nearer ss w e rows n ls ks asked at (entry_of before) (i + 1) left right at-row some next (rw here at stop)

          pub asks-name : Nameable rows n w e next
          asks-name = let b = turn-next ss w e rows n ls ks asked at (entry_of before) (i + 1) left right at-row some next (rw here at stop) in nameable ss w e rows n ls ks asked next b.0 b.1

          module _ {after : Option ℕ} (is : after ≡ name_in rows n (length ss) w e next) where
            pub asks-file : (entry_of before ≤ 4294967295) × (entry_of after ≤ 4294967295) × PartRoom r left right
            asks-file = rw (is, here) (turn-asks ss w e rows n ls ks asked at (entry_of before) (i + 1) left right at-row some next (rw here at stop))

            pub turned : {x y : ℕ} {zl zr : List ℕ} → x ≡ entry_of before → y ≡ entry_of after → (zl ≡ set left (r.first + written r right) x) × (zr ≡ file_right right r.first r.runs (written r right) y) → Way next (i + 1) (entry_of after) zl zr
            turned {x} {y} {zl} {zr} q p said = rw is (underway-turn ss w e rows n ls ks asked at (entry_of before) (i + 1) left right at-row some next (rw here at stop) zl zr (rw (q, here) at said.0) (rw (p, is, here) at said.1))
