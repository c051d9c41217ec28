-- `are_multiples`: what lies d above a multiple is one (`next_multiple`); in 64 bits no sum wraps.
use Rattle.meaning_numbers.specs.Quotient.{multiple}
use Rattle.meaning_numbers.proofs.Prelude.{◌≡◌, refl, sym, ◌∙◌, ap, ◌&&◌, ℕ, ◌<◌, ◌^◌, arith, ℤ, pos, negsuc, ◌+ℤ◌, w32, w64, SFits, to_z, of_z, to_z-of_z, to_z_pos, z-add, zmach, by-test}
use Rattle.meaning_rows.proofs.Range.{multiple-is, multiple-of, up_is}
use Rattle.rows_judge.proofs.are_multiples.Goals as goal

next_multiple : (d : ℕ) (low up : ℤ) → low +ℤ pos d ≡ up → multiple d low ≡ (multiple d low && multiple d up)
next_multiple d low up s =
    by-test
    (multiple d low)
    (λ e. let k = multiple-is d low e in
    let m = ap (multiple d) (sym s ∙ ap (λ z. z +ℤ pos d) k.1 ∙ sym (up_is d k.0)) ∙ multiple-of d (k.0 +ℤ pos 1) in
    rw (e, m) refl)
    (λ e. rw e refl)

wide : {z : ℤ} → SFits w32 z → SFits w64 z
wide {z = pos n} h = record { sfits = omega arith }
wide {z = negsuc n} h = record { sfits = omega arith }

wide-sum : {z : ℤ} (n : ℕ) → SFits w32 z → n < 2 ^ 32 → SFits w64 (z +ℤ pos n)
wide-sum {z = pos m} n h k = omega zmach
wide-sum {z = negsuc m} n h k = omega (zmach, z-add (negsuc m) (pos n), h.sfits)

-- the test of the code, as the machine makes it
reached : (low up : ℤ) (d : ℕ) → SFits w32 low → SFits w32 up → d < 2 ^ 32
    → of_z w64 (to_z w64 (of_z w64 (to_z w32 (of_z w32 low))) +ℤ to_z w64 d) ≡ of_z w64 (to_z w32 (of_z w32 up)) → low +ℤ pos d ≡ up
reached low up d f g h e =
    let r : of_z w64 (low +ℤ pos d) ≡ of_z w64 up = rw (to_z-of_z w32 low f, to_z-of_z w32 up g, to_z-of_z w64 low (wide f), to_z_pos w64 d (omega arith)) at e in
    sym (to_z-of_z w64 _ (wide-sum d f h)) ∙ ap (to_z w64) r ∙ to_z-of_z w64 up (wide g)

pub returns-then-low-d : goal.returns-then-low-d
returns-then-low-d c =
    let a = c.args in
    c.is_multiple-first.ensures ∙ ap (multiple a.d) (to_z-of_z w32 _ c.ranges.low)
    ∙ next_multiple a.d _ a.up (reached _ a.up a.d c.ranges.low c.ranges.up (omega arith) c.if-low-d.true)
