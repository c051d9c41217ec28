-- Numbers as narrower ones hold them.
use Rattle.std.specs.Prelude.{ℕ, ℤ, pos, negsuc, nat_abs, cond}
use Rattle.std.specs.Int.Signed.{lt_z}

-- the nearest number that an i32 holds
abbrev pub clamp : ℤ → ℤ
clamp z = cond (lt_z z (negsuc 2147483647)) (negsuc 2147483647) (cond (lt_z (pos 2147483647) z) (pos 2147483647) z)

-- a number as a u32 holds it; one that it does not hold becomes the greatest
unfoldable pub held : ℤ → ℕ
held z = cond (lt_z z (pos 0)) 4294967295 (cond (lt_z (pos 4294967295) z) 4294967295 (nat_abs z))
