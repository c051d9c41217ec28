-- `audit_run`: the run as a row of one run.
use mir.Val.{SFits}
use Rattle.meaning_numbers.proofs.Prelude.{sym, ◌∙◌, w32, to_z-of_z, rules}
use Rattle.payout_walk.specs.Walk.{one_run}
use Rattle.payout_walk.proofs.Run.{run-found, run-ready, run-off, run_on}
use Rattle.payout_walk.proofs.audit_run.Goals as goal

pub returns-then-is_some : goal.returns-then-is_some
returns-then-is_some c = run-found _ _ _ _ (sym c.is_some.ensures ∙ c.if-is_some.true)

pub returns-then-not-run_reads : goal.returns-then-not-run_reads
returns-then-not-run_reads c = run-off _ _ _ _ (sym c.is_some.ensures ∙ c.if-is_some.false) (sym c.run_reads.ensures ∙ c.if-not-run_reads.true)

pub audit_chunk-requires : goal.audit_chunk-requires
unfolding one_run
audit_chunk-requires c =
    let low_fits : SFits w32 c.args.t.low = search rules in
    let up_fits : SFits w32 c.args.t.up = search rules in
    rw (to_z-of_z w32 c.args.t.low low_fits, to_z-of_z w32 c.args.t.up up_fits) (run-ready _ _ c.args.t _ c.requires.sized c.requires.rows_bound (sym c.run_reads.ensures ∙ c.if-not-run_reads.false))

pub returns : goal.returns
unfolding one_run
returns c =
    let low_fits : SFits w32 c.args.t.low = search rules in
    let up_fits : SFits w32 c.args.t.up = search rules in
    (rw (to_z-of_z w32 c.args.t.low low_fits, to_z-of_z w32 c.args.t.up up_fits) at c.audit_chunk.ensures)
    ∙ run_on _ _ _ _ (sym c.is_some.ensures ∙ c.if-is_some.false) (sym c.run_reads.ensures ∙ c.if-not-run_reads.false)
