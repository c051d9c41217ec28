-- `clamp` meets its contract: what was clamped fits 32 bits.
use Rattle.std.specs.Int.{int_min, int_max}
use Rattle.std.proofs.lemmas.Int.{ints}
use Rattle.meaning_numbers.proofs.Prelude.{◌≡◌, ◌∙◌, ap, ℤ, pos, negsuc, arith, w32, w64, SFits, to_z-of_z, zmach, to-sfits32}
use Rattle.candidate_met.specs.Met.{clamp_of}
use Rattle.candidate_met.proofs.clamp.Goals as goal

clamp-is : (z : ℤ) → int_max (negsuc 4000000) (int_min z (pos 4000001)) ≡ clamp_of z
unfolding clamp_of
clamp-is z = grind (arith, ints)

small : (c : goal.After-clamp) → SFits w32 c.clamp.result
small c = omega (to-sfits32, zmach, c.clamp.ensures.lower_bound, c.clamp.ensures.upper_bound)

pub returns : goal.returns
returns c = rw (to_z-of_z w64 _ (record { sfits = c.clamp.type_inv }), to_z-of_z w32 _ (small c)) (c.clamp.ensures.value ∙ clamp-is _ ∙ ap clamp_of (to_z-of_z w64 c.args.z c.ranges.z))
