-- The entry extend: the old index is lent, the result goes to fresh buffers.
use Rattle.std.specs.Prelude.{ℕ, ℤ, nat_abs, length, List, ◌∷◌, ◌++◌}
use Rattle.std.specs.declared.option.Option.{Option}
use Rattle.std.specs.Prelude.{None, Some, Ok, Err}
use Rattle.meaning_curves.specs.{Limits.most_values, Curve.window_count}
use Rattle.meaning_rows.specs.{declared.Row.Row, declared.Head.Head, Index.Index, Index.lent, Extend.extended}
use Rattle.meaning_entries.specs.{Buffers.IndexBuffers, Buffers.run_room, Buffers.index_in, Answers.Built, Answers.refusal, Answers.held, Answers.head_of, Refusal.Condition, Refusal.first_refusal, Refusal.ill_formed, Refusal.more_windows, Refusal.series_lines, Refusal.room_lines}

-- the whole, longer series, and the old index
pub record ExtendCall : Type 0 where
  pub series : List ℤ
  pub index : Index

-- the call over a lent index
abbrev pub lent_extend : List ℤ → Head → List Row → List ℕ → List ℕ → ExtendCall
lent_extend series head rows left right = record { series = series; index = lent head rows left right }

-- how many windows the series has
abbrev pub extend_windows : ExtendCall → ℕ
extend_windows c = window_count (length c.series) (nat_abs c.index.window)

-- 22 and 23: the old index's windows for a series of n values, and room for so many rows and runs
abbrev pub grow_lines : ℕ → Index → ℕ → ℕ → List Condition
grow_lines n x rows runs = let windows = window_count n (nat_abs x.window) in more_windows x n ∷ room_lines rows windows runs windows

-- the refusals, in order
unfoldable pub extend_table : ExtendCall → IndexBuffers → List Condition
extend_table c b =
    series_lines most_values c.series
    ++ (ill_formed c.index
    ∷ grow_lines (length c.series) c.index (length b.rows) (run_room b))

abbrev pub extend_refusal : ExtendCall → IndexBuffers → Option (ℕ × ℕ)
extend_refusal c b = first_refusal (extend_table c b)

-- what a call that is not refused makes
unfoldable pub extend_index : ExtendCall → Index
extend_index c = extended c.index c.series

unfoldable pub extend_answer : ExtendCall → IndexBuffers → Built
extend_answer c b = elim (extend_refusal c b) [
  | Some r ↦ Err (refusal r)
  | None ↦ Ok (held (head_of (extend_index c)) (length (extend_index c).rows) (length (extend_index c).runs))
]

-- the head of the index that stands in the buffers; a refusal gives none
unfoldable pub extend_head : ExtendCall → IndexBuffers → Option Head
extend_head c b = elim (extend_refusal c b) [ Some r ↦ None | None ↦ Some (head_of (extend_index c)) ]

-- how many rows and runs stand in the buffers; a refusal gives counts 0
unfoldable pub extend_counts : ExtendCall → IndexBuffers → ℕ × ℕ
extend_counts c b = elim (extend_refusal c b) [ Some r ↦ (0, 0) | None ↦ (length (extend_index c).rows, length (extend_index c).runs) ]

-- the buffers afterwards
unfoldable pub extend_after : ExtendCall → IndexBuffers → IndexBuffers
extend_after c b = elim (extend_refusal c b) [ Some r ↦ b | None ↦ index_in (extend_index c) b ]
