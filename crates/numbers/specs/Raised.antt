-- A value raised by 10,000, which leaves nothing signed.
use Rattle.std.specs.Prelude.{ℕ, ◌+◌, ◌-◌, ◌≤◌, ℤ}
use Rattle.meaning_numbers.proofs.Rep.{up, dn, zarith}
use Rattle.meaning_curves.proofs.Values.{InLimits}

abbrev pub raised : ℤ → ℕ
raised x = (up x + 10000) - dn x

pub raised-le : {x : ℤ} → InLimits x → raised x ≤ 20000
raised-le {x} h = omega (zarith, h.low, h.high)
