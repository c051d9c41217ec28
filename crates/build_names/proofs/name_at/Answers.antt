-- `name_at`: the sum of the place is told, the place of its row found, and that row named.
use Rattle.meaning_numbers.proofs.Prelude.{rules, ap, ◌∙◌, w32, to_z-of_z, SFits}
use Rattle.build_names.specs.Places.{name_for}
use Rattle.build_names.proofs.Named.{place_is}
use Rattle.build_names.proofs.name_at.Goals as goal

pub returns : goal.returns
returns c =
    let fits : SFits w32 c.sum_of-sum.result = search rules in
    c.name_of.ensures ∙ ap (name_for c.args.len c.args.w c.args.at.offset) (place_is c.requires (to_z-of_z w32 _ fits ∙ c.sum_of-sum.ensures) c.find_row-i.ensures)
