-- Every definition of this crate that stays shut until it is named, under one name: a proof that computes a case says `unfolding open_numbers`.
use Rattle.meaning_numbers.specs.{Sum.Σℤ, Sum.Σℕ, Sum.bit, Sum.count, Root.next_bit, Root.root_within, Root.root, Quotient.floorℤ, Quotient.ceilℤ, Quotient.multiple, Order.minℤ, Order.maxℤ, Order.within, Place.place_from, Place.any, Place.keep, Place.numbers_from}
use Rattle.meaning_numbers.proofs.{Member.every, Table.holds, Table.sameℤ, Table.same_list}

unfoldable pub open_numbers : Unit {0}
unfolding Σℤ Σℕ bit count next_bit root_within root floorℤ ceilℤ multiple minℤ maxℤ within place_from every any keep numbers_from holds sameℤ same_list
open_numbers = tt
