-- `sum_joined` meets its contract.
use Rattle.meaning_numbers.proofs.Prelude.{rules, ◌≡◌, sym, ap, ◌∙◌, Bool, List, ℕ, ℤ, arith}
use Rattle.meaning_rows.specs.declared.Row.{Row}
use Rattle.meaning_rows.proofs.Grown.{last_ends}
use Rattle.rows_pack.specs.Packed.{total}
use Rattle.extend_new.specs.New.{less_join}
use Rattle.extend_rows.specs.Steps.{first_new, joins_of}
use Rattle.extend_rows.proofs.sum_joined.Goals as goal

module _ (s : List ℤ) (w old : ℕ) (r : Row) (olds : List ℕ) {k : ℕ} {b : Bool} (first : k ≡ first_new s w old) (ends : b ≡ last_ends r olds k) where
  -- whether the run joins, as it is asked
  joins-is : b ≡ joins_of s w old r olds
  unfolding joins_of
  joins-is = ends ∙ ap (last_ends r olds) first

  -- and the counts then
  counts_are : (i : ℕ) (before : List ℕ) {after : List ℕ} → after ≡ less_join b i before → after ≡ less_join (joins_of s w old r olds) i before
  counts_are i before e = e ∙ ap (λ (t : Bool). less_join t i before) joins-is

pub take_join-requires : goal.take_join-requires
take_join-requires c = let a = c.args in λ t. c.requires.2.has (sym (joins-is a.s.now a.w a.old a.r a.olds.now c.first_new.ensures c.last_ends-joins.ensures) ∙ t)

pub sum_up-requires : goal.sum_up-requires
sum_up-requires c =
    let a = c.args in
    let e = counts_are a.s.now a.w a.old a.r a.olds.now c.first_new.ensures c.last_ends-joins.ensures a.i a.counts.now c.take_join.ensures in
    (search rules, omega (arith, ap (λ (m : List ℕ). total m a.count) e, c.requires.2.small))

pub returns : goal.returns
returns c =
    let a = c.args in
    let e = counts_are a.s.now a.w a.old a.r a.olds.now c.first_new.ensures c.last_ends-joins.ensures a.i a.counts.now c.take_join.ensures in
    rw e at c.sum_up.ensures
