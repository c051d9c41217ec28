-- `refuse_room`: a line for each buffer.
use Rattle.meaning_numbers.proofs.Prelude.{◌≡◌, refl, sym, ◌∙◌, ◌+◌, ◌-◌, [], ◌∷◌, rules}
use Rattle.std.specs.Prelude.{Err}
use Rattle.meaning_entries.specs.Refusal.{buffer_short}
use Rattle.refusals.proofs as own
use own.RefusalLaws.{line, goes-on, stops}
use Rattle.refusals.proofs.refuse_room.Goals as goal

pub returns-in_err-refuse_if : goal.returns-in_err-refuse_if
unfolding buffer_short
returns-in_err-refuse_if c =
    let e : c.from_residual.result ≡ Err c.in_err-refuse_if.field-0.0 = search rules in
    e ∙ sym (stops (buffer_short c.args.one (c.args.n + 1 - c.args.w) ∷ []) _ refl (line 23 c.too_short.ensures c.refuse_if.ensures) c.in_err-refuse_if.was)

pub returns : goal.returns
unfolding buffer_short
returns c =
    line 23 c.too_short-2.ensures c.refuse_if-2.ensures
    ∙ sym (goes-on (buffer_short c.args.one (c.args.n + 1 - c.args.w) ∷ []) _ refl (line 23 c.too_short.ensures c.refuse_if.ensures) c.in_ok-refuse_if.was)
