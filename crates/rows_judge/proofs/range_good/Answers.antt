-- `range_good`: its tests are those of the definition in another order, on numbers that the machine reads back as they are.
use Rattle.meaning_numbers.proofs.Prelude.{◌≡◌, refl, Bool, true, false, ◌&&◌, w32, to_z-of_z, rules}
use Rattle.meaning_rows.specs.Judge.{range_good}
use Rattle.rows_judge.proofs.range_good.Goals as goal

sorted : (m n o e : Bool) → ((m && n) && (o && e)) ≡ (o && (m && (n && e)))
sorted true true o e = refl
sorted true false true e = refl
sorted true false false e = refl
sorted false n true e = refl
sorted false n false e = refl

pub returns : goal.returns
unfolding range_good
returns c =
    cc (to_z-of_z w32 c.args.r.low (record { sfits = (search rules) }), to_z-of_z w32 c.args.r.up (record { sfits = (search rules) }), to_z-of_z w32 _ c.ranges.least, c.are_multiples.ensures, c.ends_good.ensures, sorted _ _ _ _)
