-- The runs of an index text in the run buffer, as a pass over its bytes stores them.
use Rattle.std.specs.Prelude.{ℕ, ◌+◌, ℤ, set, Bool, true, false, cond, List, ◌≡◌}
use Rattle.std.proofs.lemmas.List.Edits.{sets}
use Rattle.meaning_text.specs.{Form.Value, Read.fine, Read.read_text, Texts.index_form, Texts.index_said}
use Rattle.numbers.specs.Narrow.{held}
use Rattle.text_index.specs.declared.Field.{Field}
use Rattle.entry_read.specs.Plan.{held_lefts, held_rights}

abbrev pub is_left : Field → Bool
is_left Field.Window = false
is_left Field.Width = false
is_left Field.Windows = false
is_left Field.Low = false
is_left Field.Up = false
is_left Field.Left = true
is_left Field.Right = false

abbrev pub is_right : Field → Bool
is_right Field.Window = false
is_right Field.Width = false
is_right Field.Windows = false
is_right Field.Low = false
is_right Field.Up = false
is_right Field.Left = false
is_right Field.Right = true

-- the left end of the run that is open, how many runs there are, and the two columns
pub record Columns : Type 0 where
  pub left : ℕ
  pub count : ℕ
  pub lefts : List ℕ
  pub rights : List ℕ

-- a number
unfoldable pub tell_columns : Field → ℤ → Columns → Columns
tell_columns p z t = record {
  left = cond (is_left p) (held z) t.left;
  count = cond (is_right p) (t.count + 1) t.count;
  lefts = cond (is_right p) (set t.lefts t.count t.left) t.lefts;
  rights = cond (is_right p) (set t.rights t.count (held z)) t.rights;
}

-- a run is stored at place k, behind the others
abbrev pub run_stored : ℕ → ℕ → ℕ → List ℕ → List ℕ → Columns
run_stored l r k lefts rights = record { left = l; count = k + 1; lefts = set lefts k l; rights = set rights k r }

-- of a text that can be read, the runs stand in the buffer as far as it has room
unfoldable pub FilledRuns : List ℕ → List ℕ → List ℕ → List ℕ → List ℕ → Type 0
FilledRuns t left right left' right' =
    (v : Value index_form) → read_text index_form t ≡ fine v → (left' ≡ sets left 0 (held_lefts (index_said v).runs)) × (right' ≡ sets right 0 (held_rights (index_said v).runs))
