-- `put_ranges` meets its contract.
use Rattle.meaning_curves.proofs.Values.{front_long}
use Rattle.candidate_spans.proofs.put_ranges.Goals as goal

pub put_prepared-requires : goal.put_prepared-requires
put_prepared-requires c =
    let few = c.requires.few in
    record { ranges_ready = c.requires; curve_len = (front_long _ _ few, front_long _ _ few, front_long _ _ few) }
