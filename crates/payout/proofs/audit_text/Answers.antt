-- `audit_text`: its number is the answer packed, which fits.
use Rattle.meaning_numbers.proofs.Prelude.{ap, ◌∙◌, arith}
use Rattle.meaning_entries.specs.AuditText.{pack, audit_text}
use Rattle.meaning_entries.proofs.Demand2.{audit-text-kept}
use Rattle.payout.proofs.Small.{number_small}
use Rattle.payout.proofs.audit_text.Goals as goal

pub number_of-requires : goal.number_of-requires
number_of-requires c = rw c.audit_pair.ensures (number_small c.args.index.now c.args.series.now (omega arith))

pub returns : goal.returns
unfolding audit_text
returns c = audit-text-kept _ _ _ (c.number_of.ensures ∙ ap pack c.audit_pair.ensures)
