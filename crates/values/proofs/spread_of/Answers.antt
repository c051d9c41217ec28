-- `spread_of` (`spread-raised`).
use Rattle.meaning_numbers.proofs.Prelude.{arith}
use Rattle.values.proofs as own
use own.SumsLaws.{spread-small, spread-raised}
use Rattle.values.proofs.spread_of.Goals as goal

pub overflow_mul-result : goal.overflow_mul-result
overflow_mul-result c = let l = spread-small c.requires.all_in c.requires.are_sums c.requires.m_le_longest_query in omega arith

pub overflow_mul-result-2 : goal.overflow_mul-result-2
overflow_mul-result-2 c = let l = spread-small c.requires.all_in c.requires.are_sums c.requires.m_le_longest_query in omega arith

pub overflow_sub-result : goal.overflow_sub-result
overflow_sub-result c = omega (arith, spread-raised c.requires.all_in c.requires.are_sums)

pub returns : goal.returns
returns c = omega (arith, spread-raised c.requires.all_in c.requires.are_sums)
