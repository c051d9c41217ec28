-- The entry write: a lent index becomes an index text.
use Rattle.std.specs.Prelude.{ℕ, length, List, [], ◌∷◌}
use Rattle.std.specs.declared.option.Option.{Option}
use Rattle.std.specs.Prelude.{None, Some, Ok, Err}
use Rattle.meaning_rows.specs.Index.{Index}
use Rattle.meaning_text.specs.Texts.{index_text}
use Rattle.meaning_entries.specs.{Answers.Written, Answers.refusal, Refusal.Condition, Refusal.first_refusal, Refusal.ill_formed, Refusal.buffer_short, Buffers.filled}

-- the refusals, in order
unfoldable pub write_table : Index → List ℕ → List Condition
write_table x text = ill_formed x ∷ buffer_short (length text) (length (index_text x)) ∷ []

abbrev pub write_refusal : Index → List ℕ → Option (ℕ × ℕ)
write_refusal x text = first_refusal (write_table x text)

unfoldable pub write_answer : Index → List ℕ → Written
write_answer x text = elim (write_refusal x text) [ Some r ↦ Err (refusal r) | None ↦ Ok (length (index_text x)) ]

-- how many bytes were written; a refusal gives count 0
unfoldable pub write_count : Index → List ℕ → ℕ
write_count x text = elim (write_refusal x text) [ Some r ↦ 0 | None ↦ length (index_text x) ]

-- the text buffer afterwards
unfoldable pub write_after : Index → List ℕ → List ℕ
write_after x text = elim (write_refusal x text) [ Some r ↦ text | None ↦ filled 0 (index_text x) text ]
