-- `count_row`. Its range, its runs and its end, one after the other.
use Rattle.meaning_numbers.proofs.Prelude.{rules, ℤ, length, ◌≡◌, ap, SFits, w32, to_z, of_z, to_z-of_z, arith}
use Rattle.meaning_text.specs.Number.{spellℤ}
use Rattle.text_count.proofs as own
use own.Count.{row-counted}
use Rattle.text_count.proofs.count_row.Goals as goal

pub returns : goal.returns
returns c =
    let fits_low : SFits w32 c.args.r.low = search rules in
    let fits_up : SFits w32 c.args.r.up = search rules in
    let low : to_z w32 (of_z w32 c.args.r.low) ≡ c.args.r.low = to_z-of_z w32 _ fits_low in
    let up : to_z w32 (of_z w32 c.args.r.up) ≡ c.args.r.up = to_z-of_z w32 _ fits_up in
    row-counted c.args.limit c.args.r c.args.left.now c.args.right.now
    (omega (arith, c.advance-to.ensures, c.number_length.ensures.0, c.number_length-2.ensures.0, ap (λ (z : ℤ). length (spellℤ z)) low, ap (λ (z : ℤ). length (spellℤ z)) up))
    c.count_runs-to.ensures c.advance.ensures
