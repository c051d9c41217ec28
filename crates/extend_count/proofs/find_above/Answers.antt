-- `find_above`: the ends that are at most the number come first, and how many they are is the rank.
use Rattle.std.proofs.Common.{rules}
use Rattle.std.proofs.lemmas.List.Sorted.{IsPartitionPoint-from_clause}
use Rattle.meaning_numbers.proofs.Prelude.{leb}
use Rattle.extend_count.proofs as own
use own.Rank.{parted, ranked}
use Rattle.extend_count.proofs.find_above.Goals as goal

pub returns : goal.returns
returns c =
    let a = c.args in
    let point = IsPartitionPoint-from_clause (λ y. leb y a.n) _ _ c.partition_point.ensures.partitioned (parted a.ups.now a.count a.n c.requires.count_in_bounds c.requires.climbing) (λ x r q k. search rules) in
    ranked a.ups.now a.count a.n c.requires.count_in_bounds c.partition_point.result c.partition_point.ensures.bound point
