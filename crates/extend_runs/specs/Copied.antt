-- What copying the old runs of an extension asks and leaves.
use Rattle.std.specs.Prelude.{ℕ, length, List, ◌≡◌}
use Rattle.meaning_rows.specs.declared.Row.{Row}
use Rattle.build_lay.specs.Laid.{Cleared}
use Rattle.extend_parts.specs.Copy.{column_to, Copyable}

-- both columns of old runs can be copied
pub record CopyAsked (old : List Row) (lefts rights : List ℕ) (rows : List Row) (n : ℕ) (left right : List ℕ) : Type 0 where
  pub lefts-fit : Copyable old rows n (length lefts) (length left)
  pub rights-fit : Copyable old rows n (length rights) (length right)

-- they are copied to columns made 0
pub record CopiedAs (old : List Row) (lefts rights : List ℕ) (rows : List Row) (n : ℕ) (left right left' right' : List ℕ) : Type 0 where
  pub l : List ℕ
  pub r : List ℕ
  pub cleared : Cleared left l × Cleared right r
  pub left_is : left' ≡ column_to old lefts rows n l
  pub right_is : right' ≡ column_to old rights rows n r
