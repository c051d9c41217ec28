-- The row that a search for a window's sum finds: its place is the one that is named.
use Rattle.meaning_numbers.proofs.Prelude.{◌≡◌, ap, ◌∙◌, List, ℕ, ℤ}
use Rattle.meaning_rows.specs.declared.Row.{Row}
use Rattle.sums_slide.specs.{declared.Window.Window, Levels.sum_at}
use Rattle.rows_find.specs.Search.{Found}
use Rattle.build_names.specs.{Ranges.place_in, Places.Nameable}
use Rattle.build_names.proofs.Ranges.{found-place}

module _ {rows : List Row} {count w e : ℕ} {at : Window} (y : Nameable rows count w e at) {sum : ℤ} {i : ℕ} (sum_is_lem : sum ≡ sum_at w e at) (found : Found rows count sum i) where
  pub place_is : i ≡ place_in rows count (sum_at w e at)
  place_is = found-place rows count sum i found ∙ ap (place_in rows count) sum_is_lem
