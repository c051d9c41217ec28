-- `audit_covered`: the index is audited against the beginning of the series that it covers.
use Rattle.entry_audit.proofs.Covered.{covered-kept}
use Rattle.entry_audit.proofs.audit_covered.Goals as goal

pub returns : goal.returns
returns c = let a = c.args in covered-kept a.series.now a.head a.rows.now a.left.now a.right.now c.covered_length-n.ensures c.audit.ensures
