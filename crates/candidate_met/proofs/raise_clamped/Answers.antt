-- `raise_clamped` (`clamp-in`).
use Rattle.meaning_numbers.proofs.Prelude.{◌≡◌, ap, ◌∙◌, w32, w64, to_z, of_z, to_z-of_z}
use Rattle.candidate_met.specs.{Met.clamp_of, Stored.raised_end}
use Rattle.candidate_met.proofs.Stored.{clamp-in}
use Rattle.candidate_met.proofs.raise_clamped.Goals as goal

-- the clamped end, passed on
pub raise_by-requires : goal.raise_by-requires
raise_by-requires c =
    let passed : to_z w32 (of_z w32 c.clamp.result) ≡ clamp_of c.args.z = to_z-of_z w32 _ (record { sfits = c.clamp.type_inv }) ∙ c.clamp.ensures ∙ ap clamp_of (to_z-of_z w64 _ c.ranges.z) in
    rw passed (clamp-in c.args.z)

pub returns : goal.returns
unfolding raised_end
returns c =
    let passed : to_z w32 (of_z w32 c.clamp.result) ≡ clamp_of c.args.z = to_z-of_z w32 _ (record { sfits = c.clamp.type_inv }) ∙ c.clamp.ensures ∙ ap clamp_of (to_z-of_z w64 _ c.ranges.z) in
    c.raise_by.ensures ∙ rw passed
