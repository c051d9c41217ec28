-- Laws of specs/Packed.
use Rattle.meaning_numbers.proofs.Sum.{Σℕ-more}
use Rattle.meaning_numbers.proofs.Prelude.{◌≡◌, refl, sym, ◌∙◌, List, ℕ, zero, suc, ◌+◌, ◌<◌, add-one, arith, length, get_or, set, length-set, get_or-set_same, get_or-set_other, eqb-true, eqb-false, by-test}
use Rattle.meaning_rows.specs.declared.Row.{Row}
use Rattle.rows_pack.specs.Packed.{total, Summed, row_from, packed}

pub summed-start : (l : List ℕ) → Summed 0 l l
summed-start l = record { long = refl; end = λ i h. absurd (omega arith); rest = λ i h. refl }

-- a turn of adding up
pub summed-more : {n : ℕ} {old new : List ℕ} (v : ℕ) → Summed n old new → n < length new → v ≡ total old n + get_or old n 0 → Summed (n + 1) old (set new n v)
summed-more {n} {old} {new} v s h e = record {
  long = length-set new n v ∙ s.long;
  end = λ i l. by-test _
      (λ t. let q = eqb-true i n t in rw q (get_or-set_same new n v 0 h ∙ e ∙ sym (Σℕ-more n (λ k. get_or old k 0))))
      (λ t. let q = eqb-false i n t in get_or-set_other new n i v 0 q ∙ s.end i (omega arith));
  rest = λ i l. get_or-set_other new n i v 0 (λ q. omega arith) ∙ s.rest i (omega arith);
}

pub packed_none : (numbers ends : List ℕ) (d bias : ℕ) (rows : List Row) → packed numbers ends d bias 0 rows ≡ rows
unfolding packed
packed_none numbers ends d bias rows = refl

pub packed_more : (numbers ends : List ℕ) (d bias n : ℕ) (rows : List Row) → packed numbers ends d bias (n + 1) rows ≡ set (packed numbers ends d bias n rows) n (row_from numbers ends d bias n)
unfolding packed
packed_more numbers ends d bias n rows = rw (add-one n)

pub length-packed : (numbers ends : List ℕ) (d bias n : ℕ) (rows : List Row) → length (packed numbers ends d bias n rows) ≡ length rows
unfolding packed
length-packed numbers ends d bias zero rows = refl
length-packed numbers ends d bias (suc n) rows = length-set (packed numbers ends d bias n rows) n (row_from numbers ends d bias n) ∙ length-packed numbers ends d bias n rows
