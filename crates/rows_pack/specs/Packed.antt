-- The record of a row, from its raised number and the ends of the rows' parts, and the records of all rows.
use Rattle.std.specs.Prelude.{ℕ, zero, suc, ◌+◌, ◌-◌, ◌*◌, ◌<◌, ◌≤◌, eqb, pos, ◌-ℤ◌, length, get_or, set, cond, List, ◌≡◌}
use Rattle.meaning_numbers.specs.Sum.{Σℕ}
use Rattle.meaning_rows.specs.declared.Row.{Row}

-- the first n counts added up
abbrev pub total : List ℕ → ℕ → ℕ
total l n = Σℕ n (λ k. get_or l k 0)

-- in place of each of the first n counts, the sum of the counts up to it
pub record Summed (n : ℕ) (old new : List ℕ) : Type 0 where
  pub long : length new ≡ length old
  pub end : (i : ℕ) → i < n → get_or new i 0 ≡ total old (i + 1)
  pub rest : (i : ℕ) → n ≤ i → get_or new i 0 ≡ get_or old i 0

-- where the part of row i begins
unfoldable pub start_of : List ℕ → ℕ → ℕ
start_of ends i = cond (eqb i 0) 0 (get_or ends (i - 1) 0)

abbrev pub row_from : List ℕ → List ℕ → ℕ → ℕ → ℕ → Row
row_from numbers ends d bias i = record {
  low = pos (get_or numbers i 0 * d) -ℤ pos bias;
  up = pos (get_or numbers i 0 * d + d) -ℤ pos bias;
  first = start_of ends i;
  runs = get_or ends i 0 - start_of ends i;
}

-- row i can be made
pub record RowRoom (numbers ends : List ℕ) (d bias i : ℕ) : Type 0 where
  pub in-numbers : i < length numbers
  pub in-ends : i < length ends
  pub small : get_or numbers i 0 * d + d ≤ 1000000000
  pub low-bias : bias ≤ 1000000000
  pub order : start_of ends i ≤ get_or ends i 0

pub record Packable (numbers ends : List ℕ) (d bias n : ℕ) : Type 0 where
  pub row : (i : ℕ) → i < n → RowRoom numbers ends d bias i

-- the first n records made
unfoldable pub packed : List ℕ → List ℕ → ℕ → ℕ → ℕ → List Row → List Row
packed numbers ends d bias zero rows = rows
packed numbers ends d bias (suc n) rows = set (packed numbers ends d bias n rows) n (row_from numbers ends d bias n)
