-- `window_sum`: the raised sum less the bias (`window-raised`).
use Rattle.meaning_numbers.proofs.Sum.{Σℕ-le}
use Rattle.meaning_numbers.proofs.Prelude.{◌∙◌, ap, ◌*◌, arith, pos, ◌-ℤ◌, w32, to_z-of_z}
use Rattle.meaning_curves.specs.Curve.{stretch}
use Rattle.numbers.specs.Raised.{raised, raised-le}
use Rattle.values.proofs as own
use own.Window.{window-raised}
use Rattle.values.proofs.window_sum.Goals as goal

pub lower-requires-clause-n_bound : goal.lower-requires-clause-n_bound
lower-requires-clause-n_bound c =
    let a = c.args in
    omega (arith, c.raised_sum-sum.ensures, Σℕ-le a.w 20000 (λ k. raised (stretch a.s.now a.j k)) (λ k l. raised-le (c.requires.all_in.at _)))

pub returns : goal.returns
returns c =
    to_z-of_z w32 _ (record { sfits = c.lower.type_inv }) ∙ c.lower.ensures
    ∙ ap (λ n. pos n -ℤ pos (10000 * c.args.w)) c.raised_sum-sum.ensures ∙ window-raised _ _ c.requires.all_in
