-- `slide_sums`: a raw query asks for no sums (`raw-sums`), and there is no stretch past the last.
use Rattle.meaning_numbers.proofs.Prelude.{arith}
use Rattle.check_list.proofs.Found.{raw-sums}
use Rattle.check_list.proofs.slide_sums.Goals as goal

pub returns-in-Raw : goal.returns-in-Raw
returns-in-Raw c = raw-sums c.in-Raw.is

pub next_sums-requires : goal.next_sums-requires
next_sums-requires c =
    let p = c.requires.m_in_bounds in
    record { m_in_bounds = omega (arith, c.if-from-m.true); m_le_longest_query = p.1; all_in = p.2; are_sums = c.requires.sums_for c.in-Normal.is p.0 }
