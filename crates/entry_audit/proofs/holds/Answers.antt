-- `holds`: its two tests are those of the definition.
use Rattle.meaning_numbers.proofs.Prelude.{rules}
use Rattle.meaning_rows.specs.Range.{inside}
use Rattle.entry_audit.proofs.holds.Goals as goal

pub returns : goal.returns
unfolding inside
returns c = search rules
