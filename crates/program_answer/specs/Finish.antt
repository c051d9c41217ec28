-- What is left in the text buffer: the list (`Listed`), the index and the list (`Prints`), and at the end of the input what the program prints (`Finishes`).
use Rattle.std.specs.Prelude.{ℕ, ◌≤◌, ℤ, length, take, List, ◌≡◌}
use Rattle.std.specs.Prelude.{None}
use Rattle.meaning_filter.specs.declared.Pick.{Pick}
use Rattle.meaning_text.specs.Texts.{found_text}
use Rattle.meaning_entries.specs.{Search.SearchCall, Search.SearchBuffers, Search.search_refusal, Search.search_matches, Search.search_candidates, Demand2.ProgramKept}
use Rattle.text_put.specs.Put.{Put}
use Rattle.program_input.specs.{declared.Input.Input, Input.Stands, Input.Open}

-- the list of a search for all matches, where nothing refuses it whatever the buffers of 4,096 entries hold
abbrev pub Listed : SearchCall → List ℕ → ℕ → List ℕ → ℕ → Type 0
Listed d text at new to =
    d.ask.pick ≡ Pick.All
    → ((b : SearchBuffers) → length b.left ≡ 4096 → length b.right ≡ 4096 → length b.scratch ≡ 4096 → length b.offsets ≡ 4096 → length b.distances ≡ 4096 → search_refusal d b ≡ None)
    → Put text at (found_text (length (search_matches d)) (search_candidates d) (search_matches d)) new to

-- the first n bytes of the buffer are the text
pub record Prints (text buffer : List ℕ) (n : ℕ) : Type 0 where
  pub within : n ≤ length buffer
  pub is : take n buffer ≡ text

-- some text has been read
pub record Reached (r : Input) (numbers series query : List ℤ) : Type 0 where
  pub kept : List ℤ
  pub asked : List ℤ
  pub text : List ℕ
  pub stands : Stands kept asked text r numbers series query
  pub opened : Open r 0
  pub long : length kept ≡ 4096
  pub short : length asked ≡ 1024

-- whatever text has been read, the program keeps its promise
pub record Finishes (r : Input) (numbers series query : List ℤ) (buffer : List ℕ) (n : ℕ) : Type 0 where
  pub within : n ≤ length buffer
  pub is : (kept asked : List ℤ) (t : List ℕ) → length kept ≡ 4096 → length asked ≡ 1024 → Stands kept asked t r numbers series query → ProgramKept t (take n buffer)
