-- The entry read: an index text becomes an index in lent buffers.
use Rattle.std.specs.Prelude.{ℕ, pos, length, List, [], ◌∷◌}
use Rattle.std.specs.declared.option.Option.{Option}
use Rattle.std.specs.Prelude.{None, Some, Ok, Err}
use Rattle.meaning_rows.specs.{declared.Head.Head, Index.Index}
use Rattle.meaning_text.specs.{Read.fine, Read.unfit, Read.read_text, Texts.index_form, Texts.index_said}
use Rattle.meaning_entries.specs.{Refusal.Condition, Refusal.first_refusal, Refusal.unreadable, Refusal.ill_formed, Refusal.room_lines, Buffers.IndexBuffers, Buffers.run_room, Buffers.index_in, Answers.Built, Answers.refusal, Answers.held, Answers.head_of}

-- the index that a text gives; of a text that cannot be read nothing is asked
unfoldable pub text_index : List ℕ → Index
text_index t = elim (read_text index_form t) [
  | fine v ↦ index_said v
  | unfit p ↦ record { window = pos 0; width = pos 0; windows = pos 0; rows = []; runs = [] }
]

-- the refusals, in order, where so many rows and runs have room
abbrev pub load_lines : List ℕ → ℕ → ℕ → List Condition
load_lines t rows runs =
    unreadable index_form 0 t
    ∷ ill_formed (text_index t)
    ∷ room_lines rows (length (text_index t).rows) runs (length (text_index t).runs)

unfoldable pub load_table : List ℕ → IndexBuffers → List Condition
load_table t b = load_lines t (length b.rows) (run_room b)

abbrev pub load_refusal : List ℕ → IndexBuffers → Option (ℕ × ℕ)
load_refusal t b = first_refusal (load_table t b)

unfoldable pub load_answer : List ℕ → IndexBuffers → Built
load_answer t b = elim (load_refusal t b) [
  | Some r ↦ Err (refusal r)
  | None ↦ Ok (held (head_of (text_index t)) (length (text_index t).rows) (length (text_index t).runs))
]

-- the head of the index that stands in the buffers; a refusal gives none
unfoldable pub load_head : List ℕ → IndexBuffers → Option Head
load_head t b = elim (load_refusal t b) [ Some r ↦ None | None ↦ Some (head_of (text_index t)) ]

-- how many rows and runs stand in the buffers; a refusal gives counts 0
unfoldable pub load_counts : List ℕ → IndexBuffers → ℕ × ℕ
load_counts t b = elim (load_refusal t b) [ Some r ↦ (0, 0) | None ↦ (length (text_index t).rows, length (text_index t).runs) ]

-- the buffers afterwards
unfoldable pub load_after : List ℕ → IndexBuffers → IndexBuffers
load_after t b = elim (load_refusal t b) [ Some r ↦ b | None ↦ index_in (text_index t) b ]
