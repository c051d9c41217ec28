-- Ends of ranges raised by a bias, 0 where that is negative: a raised range holds a raised sum exactly if the range holds the sum; so for one end.
use Rattle.std.specs.Prelude.{ℕ, ◌+◌, ◌-◌, ℤ}
use Rattle.meaning_numbers.proofs.Rep.{up, dn}

-- an end of a range plus a bias, and 0 where that is negative
abbrev pub raised_end : ℕ → ℤ → ℕ
raised_end k x = (up x + k) - dn x
