use Rattle.meaning_numbers.proofs.Prelude.{◌≡◌, refl, ap, ◌∙◌, List, ℕ, ◌/◌, arith, ℤ, length}
use Rattle.sums_slide.specs.Levels.{level, row_of, level-small}
use Rattle.sums_slide.proofs as own
use own.Marks.{flags-start, flags-run, length-flagged}
use Rattle.sums_slide.proofs.mark.Goals as goal

-- the row number of the window at hand
is-row : (s : List ℤ) (w e d j : ℕ) {k n : ℕ} → k ≡ n / d → n ≡ level s w e j → k ≡ row_of (level s w e) d j
unfolding row_of
is-row s w e d j p q = p ∙ ap (λ (x : ℕ). x / d) q

pub loop-at-init : goal.loop-at-init
loop-at-init c = rw c.first_place-at.ensures (omega arith, refl, flags-start _ _ _ c.requires.by_index, refl)

pub row_of_level-k-requires-clause-n_bound : goal.row_of_level-k-requires-clause-n_bound
row_of_level-k-requires-clause-n_bound c = omega (arith, c.loop-at.invariant.1, level-small c.loop-at.at.offset c.requires.lent)

pub next_row-at-requires-clause-level_value : goal.next_row-at-requires-clause-level_value
next_row-at-requires-clause-level_value c =
    let a = c.args in
    let v = c.loop-at.invariant in
    (v.1, is-row a.s.now a.w a.e a.d c.loop-at.at.offset c.row_of_level-k.ensures v.1)

pub loop-at-preserved : goal.loop-at-preserved
loop-at-preserved c =
    let a = c.args in
    let v = c.loop-at.invariant in
    let r = c.next_row-at.ensures in
    let e = c.set_flag.ensures in (
      r.run.below,
      r.sum,
      rw (e, is-row a.s.now a.w a.e a.d c.loop-at.at.offset c.row_of_level-k.ensures v.1) (flags-run _ _ c.loop-at.at.offset c.next_row-at.result.offset r.run a.base c.loop-at.flags v.2),
      ap length e ∙ length-flagged c.loop-at.flags a.base _ ∙ v.3,
    )
