-- The ends of a range are clamped, raised and lowered again.
use Rattle.meaning_numbers.proofs.Between.{Between}
use Rattle.meaning_numbers.proofs.Prelude.{◌≡◌, ◌≤◌, ℤ, pos, negsuc, nat_abs, ◌+ℤ◌, ◌-ℤ◌, lt_z, zarith, z-add, z-sub, to-eq, z-abs, lt_z-false, le-lt_z, by-test}
use Rattle.candidate_met.specs.{Met.clamp_of, Stored.raised_end}

-- a clamped end lies in its limits
pub clamp-in : (z : ℤ) → Between (negsuc 4000000) (clamp_of z) (pos 4000001)
unfolding clamp_of
clamp-in z = by-test (lt_z z (negsuc 4000000)) (λ t. rw t (record { low = omega zarith; high = omega zarith }))
    (λ f. rw f (by-test (lt_z (pos 4000001) z) (λ t. rw t (record { low = omega zarith; high = omega zarith })) (λ g. rw g (record { low = lt_z-false f; high = lt_z-false g }))))

-- an end that lies in its limits is its own clamped end
clamp-same : (z : ℤ) → Between (negsuc 4000000) z (pos 4000001) → clamp_of z ≡ z
unfolding clamp_of
clamp-same z b = rw (le-lt_z b.low, le-lt_z b.high)

pub raised-most : (z : ℤ) → raised_end z ≤ 8000002
unfolding raised_end
raised-most z = let b = clamp-in z in omega (zarith, z-add (clamp_of z) (pos 4000001), z-abs (clamp_of z +ℤ pos 4000001), b.low, b.high)

-- a raised end lowered again is the clamped end
pub lowered : (z : ℤ) → clamp_of (pos (raised_end z) -ℤ pos 4000001) ≡ clamp_of z
unfolding raised_end
lowered z =
    let b = clamp-in z in
    let e : pos (nat_abs (clamp_of z +ℤ pos 4000001)) -ℤ pos 4000001 ≡ clamp_of z = to-eq (omega (zarith, z-add (clamp_of z) (pos 4000001), z-abs (clamp_of z +ℤ pos 4000001), z-sub (pos (nat_abs (clamp_of z +ℤ pos 4000001))) (pos 4000001), b.low, b.high)) in
    rw e (clamp-same (clamp_of z) b)
