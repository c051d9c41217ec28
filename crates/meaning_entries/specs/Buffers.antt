-- Lent buffers, and what stands in them afterwards: the written entries first, 0 in every unused one (01, after the tables of refusals).
use Rattle.std.specs.Prelude.{ℕ, ◌-◌, min, nat_abs, length, replicate, List, ◌++◌, map}
use Rattle.meaning_rows.specs.{declared.Row.Row, Index.zero_row, Index.Index, Index.Entry}

-- a buffer after it was written: the new entries, and 0 in the others
unfoldable pub filled : {A : Type 0} → A → List A → List A → List A
filled zero new old = new ++ replicate (length old - length new) zero

-- a buffer of pairs is two slices; it holds as many entries as the shorter
abbrev pub pair_room : List ℕ → List ℕ → ℕ
pair_room left right = min (length left) (length right)

-- row and run buffers
pub record IndexBuffers : Type 0 where
  pub rows : List Row
  pub left : List ℕ
  pub right : List ℕ

abbrev pub index_buffers : List Row → List ℕ → List ℕ → IndexBuffers
index_buffers rows left right = record { rows = rows; left = left; right = right }

abbrev pub run_room : IndexBuffers → ℕ
run_room b = pair_room b.left b.right

-- the two columns of run entries
abbrev pub lefts : List Entry → List ℕ
lefts l = map (λ e. nat_abs e.0) l

abbrev pub rights : List Entry → List ℕ
rights l = map (λ e. nat_abs e.1) l

-- an index in its buffers
unfoldable pub index_in : Index → IndexBuffers → IndexBuffers
index_in x b = record {
  rows = filled zero_row x.rows b.rows;
  left = filled 0 (lefts x.runs) b.left;
  right = filled 0 (rights x.runs) b.right;
}
