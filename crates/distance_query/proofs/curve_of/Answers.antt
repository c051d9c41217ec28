-- `curve_of`, by the kind.
use Rattle.meaning_numbers.proofs.Prelude.{◌≡◌}
use Rattle.meaning_filter.specs.declared.Kind.TheVariants.{Normal}
use Rattle.distance_query.proofs as own
use own.Ready.{normal-curve}
use Rattle.distance_query.proofs.curve_of.Goals as goal

normal : (c : goal.After-out-in-Normal-1) → c.args.kind ≡ Normal
normal c = c.in-Normal.is

pub returns-in-Normal : goal.returns-in-Normal
returns-in-Normal c =
    rw (normal c) (normal-curve c.requires.q_len_bound c.requires.a_value (c.requires.a_nonzero (normal c)) (rw c.requires.out_as_long at c.normalise.ensures))
