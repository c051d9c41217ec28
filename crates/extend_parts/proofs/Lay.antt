-- Laws of specs/Lay.
use Rattle.meaning_numbers.proofs.Prelude.{◌≡◌, refl, ◌∙◌, List, ℕ, zero, suc, ◌+◌, ◌<◌, ◌≤◌, add-one, arith, dec_lt, length, get_or, set, length-set, get_or-set_same, get_or-set_other}
use Rattle.meaning_rows.specs.declared.Row.{Row}
use Rattle.rows_records.specs.Records.{zero_row}
use Rattle.extend_parts.specs.Lay.{with_part, laid_to}

pub laid_none : (ends : List ℕ) (rows : List Row) → laid_to ends 0 rows ≡ rows
unfolding laid_to
laid_none ends rows = refl

pub laid_more : (ends : List ℕ) (n : ℕ) (rows : List Row) → laid_to ends (n + 1) rows ≡ set (laid_to ends n rows) n (with_part (get_or (laid_to ends n rows) n zero_row) ends n)
unfolding laid_to
laid_more ends n rows = rw (add-one n)

pub length-laid : (ends : List ℕ) (n : ℕ) (rows : List Row) → length (laid_to ends n rows) ≡ length rows
unfolding laid_to
length-laid ends zero rows = refl
length-laid ends (suc n) rows = length-set (laid_to ends n rows) n (with_part (get_or (laid_to ends n rows) n zero_row) ends n) ∙ length-laid ends n rows

pub laid-past : (ends : List ℕ) (n : ℕ) (rows : List Row) (i : ℕ) → n ≤ i → get_or (laid_to ends n rows) i zero_row ≡ get_or rows i zero_row
unfolding laid_to
laid-past ends zero rows i h = refl
laid-past ends (suc n) rows i h = get_or-set_other (laid_to ends n rows) n i (with_part (get_or (laid_to ends n rows) n zero_row) ends n) zero_row (λ e. omega arith) ∙ laid-past ends n rows i (omega arith)

-- record i, where it is laid
pub laid-at : (ends : List ℕ) (n : ℕ) (rows : List Row) → n ≤ length rows → (i : ℕ) → i < n → get_or (laid_to ends n rows) i zero_row ≡ with_part (get_or rows i zero_row) ends i
unfolding laid_to
laid-at ends zero rows h i l = absurd (omega arith)
laid-at ends (suc n) rows h i l = elim (dec_lt i n) [
  | yes b ↦ get_or-set_other (laid_to ends n rows) n i (with_part (get_or (laid_to ends n rows) n zero_row) ends n) zero_row (λ e. omega arith) ∙ laid-at ends n rows (omega arith) i b
  | no f ↦ let e : i ≡ n = omega arith in
      rw (e, get_or-set_same (laid_to ends n rows) n _ zero_row (omega (arith, length-laid ends n rows)), laid-past ends n rows n (omega arith))
]
