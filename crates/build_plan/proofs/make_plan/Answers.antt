-- `make_plan`: refused, or the bias by the row width.
use Rattle.std.specs.Prelude.{Ok, Err}
use Rattle.std.specs.declared.result.Result.{Result}
use Rattle.meaning_numbers.proofs.Prelude.{◌≡◌, refl, sym, ap, ◌∙◌, List, ℕ, ◌*◌, min, arith, rules, ℤ}
use Rattle.meaning_entries.specs.{declared.Refusal.Refusal, Build.lent_build, Build.build_lines}
use Rattle.refusals.specs.Refusal.{verdict, passes}
use Rattle.build_plan.specs.Plan.{planned_lines}
use Rattle.build_plan.proofs as own
use own.PlanLaws.{Goes, goes}
use Rattle.build_plan.proofs.make_plan.Goals as goal

-- what refuses, told with the room for runs
module _ (s : List ℤ) (w d g rows left right : ℕ) {room : ℕ} (m : room ≡ min left right) {r : Result (Unit {0}) Refusal} (e : r ≡ verdict (build_lines (lent_build s w d g) rows room)) where
  told : r ≡ verdict (planned_lines s w d g rows left right)
  told = e ∙ ap (λ (n : ℕ). verdict (build_lines (lent_build s w d g) rows n)) m

  in-limits : r ≡ Ok tt → Goes s w d g rows (min left right)
  in-limits z = goes s w d g rows _ (passes _ told z)

pub returns-in_err-refuse_build : goal.returns-in_err-refuse_build
returns-in_err-refuse_build c =
    let a = c.args in
    let e : c.from_residual.result ≡ Err c.in_err-refuse_build.field-0.0 = search rules in
    rw e (sym (told a.series.now a.w a.d a.g a.rows a.left a.right c.min.ensures c.refuse_build.ensures) ∙ c.in_err-refuse_build.was)

pub raised_rows-requires : goal.raised_rows-requires
raised_rows-requires c =
    let a = c.args in
    let g = in-limits a.series.now a.w a.d a.g a.rows a.left a.right c.min.ensures c.refuse_build.ensures c.in_ok-refuse_build.was in
    record { w_le_longest_window = omega (arith, g.most); le_d = (omega (arith, g.least-width), omega (arith, g.most-width)) }

pub returns : goal.returns
returns c =
    let a = c.args in
    let r = c.raised_rows in
    let g = in-limits a.series.now a.w a.d a.g a.rows a.left a.right c.min.ensures c.refuse_build.ensures c.in_ok-refuse_build.was in (
      sym (told a.series.now a.w a.d a.g a.rows a.left a.right c.min.ensures c.refuse_build.ensures) ∙ c.in_ok-refuse_build.was,
      record {
        window = refl;
        width = c.from-width.ensures;
        rows = r.result;
        multiple = ap (λ (n : ℕ). r.result * n) c.from-width.ensures;
        is = omega (arith, r.ensures, c.from-long.ensures);
        small = omega (arith, r.ensures, c.from-width.ensures, g.most-width);
      },
    )
