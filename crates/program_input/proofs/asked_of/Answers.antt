-- `asked_of`: each number fits its type, and is handed on as it is.
use Rattle.meaning_numbers.proofs.Prelude.{◌≡◌, ap, ◌∙◌, ℤ, nat_abs, w64, SFits, rules, of_z, to_z, to_z-of_z}
use Rattle.meaning_filter.specs.declared.Pick.{Pick}
use Rattle.program_input.specs.Tables.{asked_of, kind_of}
use Rattle.program_input.proofs.asked_of.Goals as goal

same : (z : ℤ) → SFits w64 z → nat_abs (to_z w64 (of_z w64 z)) ≡ nat_abs z
same z f = ap nat_abs (to_z-of_z w64 z f)

pub returns : goal.returns
unfolding asked_of
returns c =
    let x = c.args.x in
    let raw = c.kind_of-kind.ensures ∙ ap kind_of (to_z-of_z w64 x.raw (search rules)) in
    let band = c.held.ensures ∙ same x.band (search rules) in
    let threshold = c.held_long.ensures ∙ same x.threshold (search rules) in
    let scale = c.held-2.ensures ∙ same x.scale (search rules) in
    let shift = c.held-3.ensures ∙ same x.shift (search rules) in
    let window = c.held-4.ensures ∙ same x.window (search rules) in
    let width = c.held-5.ensures ∙ same x.width (search rules) in
    let merge = c.held-6.ensures ∙ same x.merge (search rules) in
    λ i. record {
      window = window i;
      width = width i;
      merge = merge i;
      ask = record {
        kind = raw i;
        limits = record { band = band i; threshold = threshold i; scale = scale i; shift = shift i };
        pick = Pick.All;
      };
    }
