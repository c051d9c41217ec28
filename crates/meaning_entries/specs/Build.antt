-- The entry build.
use Rattle.std.specs.Prelude.{ℕ, ℤ, pos, nat_abs, length, List, [], ◌∷◌, ◌++◌}
use Rattle.std.specs.declared.option.Option.{Option}
use Rattle.std.specs.Prelude.{None, Some, Ok, Err}
use Rattle.meaning_curves.specs.{Limits.most_values, Curve.window_count}
use Rattle.meaning_rows.specs.{declared.Head.Head, Index.Index, Build.built}
use Rattle.meaning_entries.specs.Refusal.{Condition, first_refusal, window_outside, width_outside, merge_outside, series_lines, room_lines}
use Rattle.meaning_entries.specs.{Buffers.IndexBuffers, Buffers.run_room, Buffers.index_in, Answers.Built, Answers.refusal, Answers.held, Answers.head_of}

-- series, window length w, row width d, merge percentage g
pub record BuildCall : Type 0 where
  pub series : List ℤ
  pub window : ℤ
  pub width : ℤ
  pub merge : ℤ

-- the call that numbers of the code make
abbrev pub lent_build : List ℤ → ℕ → ℕ → ℕ → BuildCall
lent_build series w d g = record { series = series; window = pos w; width = pos d; merge = pos g }

-- how many windows the series has
abbrev pub build_windows : BuildCall → ℕ
build_windows c = window_count (length c.series) (nat_abs c.window)

-- 3 to 5: w, d and g, for a series of n values
abbrev pub width_lines : ℕ → ℤ → ℤ → ℤ → List Condition
width_lines n w d g = window_outside w n ∷ width_outside d ∷ merge_outside g ∷ []

-- the refusals, in order, where so many rows and runs have room
abbrev pub build_lines : BuildCall → ℕ → ℕ → List Condition
build_lines c rows runs =
    series_lines most_values c.series
    ++ (width_lines (length c.series) c.window c.width c.merge
    ++ room_lines rows (build_windows c) runs (build_windows c))

unfoldable pub build_table : BuildCall → IndexBuffers → List Condition
build_table c b = build_lines c (length b.rows) (run_room b)

abbrev pub build_refusal : BuildCall → IndexBuffers → Option (ℕ × ℕ)
build_refusal c b = first_refusal (build_table c b)

-- what a call that is not refused builds
unfoldable pub build_index : BuildCall → Index
build_index c = built c.series (nat_abs c.window) (nat_abs c.width) (nat_abs c.merge)

unfoldable pub build_answer : BuildCall → IndexBuffers → Built
build_answer c b = elim (build_refusal c b) [
  | Some r ↦ Err (refusal r)
  | None ↦ Ok (held (head_of (build_index c)) (length (build_index c).rows) (length (build_index c).runs))
]

-- the head of the index that stands in the buffers; a refusal gives none
unfoldable pub build_head : BuildCall → IndexBuffers → Option Head
build_head c b = elim (build_refusal c b) [ Some r ↦ None | None ↦ Some (head_of (build_index c)) ]

-- how many rows and runs stand in the buffers; a refusal gives counts 0
unfoldable pub build_counts : BuildCall → IndexBuffers → ℕ × ℕ
build_counts c b = elim (build_refusal c b) [ Some r ↦ (0, 0) | None ↦ (length (build_index c).rows, length (build_index c).runs) ]

-- the buffers afterwards
unfoldable pub build_after : BuildCall → IndexBuffers → IndexBuffers
build_after c b = elim (build_refusal c b) [ Some r ↦ b | None ↦ index_in (build_index c) b ]
