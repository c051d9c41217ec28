-- `move_on` (`level-next`).
use Rattle.meaning_numbers.proofs.Prelude.{◌≡◌, ◌∙◌, List, ℕ, ◌+◌, arith, ℤ, w32, to_z, of_z}
use Rattle.meaning_curves.specs.Curve.{at}
use Rattle.meaning_curves.proofs.Values.{AllIn}
use Rattle.numbers.specs.Raised.{raised, raised-le}
use Rattle.numbers.proofs.Back.{raised-back}
use Rattle.sums_slide.specs.Levels.{level, level-small}
use Rattle.sums_slide.proofs as own
use own.Levels.{level-next}
use Rattle.sums_slide.proofs.move_on.Goals as goal

-- a value of the series, raised
is-raised : {s : List ℤ} (j : ℕ) {n : ℕ} → AllIn s → n ≡ raised (to_z w32 (of_z w32 (at s j))) → n ≡ raised (at s j)
is-raised j h e = e ∙ raised-back (h.at j)

pub overflow_add-result : goal.overflow_add-result
overflow_add-result c =
    let a = c.args in
    let h = c.requires.lent in
    omega (arith, is-raised (a.j + a.w) h.all c.raise.ensures, raised-le (h.all.at (a.j + a.w)), level-small a.j h)

slid : (c : goal.After-raise-2) → level c.args.s.now c.args.w c.args.e (c.args.j + 1) + c.raise-2.result ≡ c.args.n + c.raise.result
slid c =
    let a = c.args in
    let h = c.requires.lent in
    omega (arith, level-next a.s.now a.w a.e a.j, is-raised a.j h.all c.raise-2.ensures, is-raised (a.j + a.w) h.all c.raise.ensures, c.requires.n_value)

pub overflow_sub-result : goal.overflow_sub-result
overflow_sub-result c = omega (arith, slid c)

pub returns : goal.returns
returns c = omega (arith, slid c)
