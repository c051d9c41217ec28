use Rattle.std.specs.List.{between}
use Rattle.std.proofs.lemmas.List.Edits.{get_or-between, length-between}
use Rattle.meaning_numbers.proofs.Count.{count_none, count-more, bit-true, bit-false}
use Rattle.meaning_numbers.proofs.Prelude.{◌≡◌, sym, ap, ◌∙◌, ◌+◌, ◌<◌, arith, List, ℕ, Bool, get_or}
use Rattle.sums_slide.specs.Levels.{within}
use Rattle.build_merge.specs.Names.{names_of}
use Rattle.build_merge.proofs.count_names.Goals as goal
use Rattle.build_merge.proofs.count_names.Goals.{then-in_range, else-in_range}

pub loop-name-init : goal.loop-name-init
loop-name-init c = (omega arith, sym (count_none _))

-- name number t of those from `first` on
name-is : (names : List ℕ) (first n lo hi t : ℕ) {b : Bool} → t < n → b ≡ within lo hi (get_or (between first (first + n) names) t 0) → names_of names first lo hi t ≡ b
unfolding names_of
name-is names first n lo hi t l e = sym (e ∙ ap (within lo hi) (get_or-between names first (first + n) t 0 (omega arith)))

pub loop-name-preserved : goal.loop-name-preserved
loop-name-preserved c =
    let a = c.args in
    let i = c.loop-name.name-index in
    let l : i < a.n = omega (arith, length-between a.names.now a.first (a.first + a.n) c.requires, c.loop-name-test.true) in
    let is = name-is a.names.now a.first a.n a.lo a.hi i l c.in_range.ensures in
    let more = count-more (names_of a.names.now a.first a.lo a.hi) i in
    elim c.if-in_range.branch [
      | then-in_range w ↦ (omega arith, omega (arith, more, bit-true (is ∙ w.if-in_range.true)))
      | else-in_range w ↦ (omega arith, omega (arith, more, bit-false (is ∙ w.if-in_range.false)))
    ]
