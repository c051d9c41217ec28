-- Laws of specs/Ends.
use Rattle.meaning_numbers.proofs.Prelude.{◌≡◌, ℕ, ◌<◌, ◌≤◌, ℤ, ◌≤ℤ◌, ◌<ℤ◌, le-leb, lt-leb, lt-ltb, le-ltb, Rep, zarith}
use Rattle.meaning_rows.specs.Range.{inside}
use Rattle.meaning_rows.proofs.Range.{where-is, inside-yes, inside-below, inside-above}
use Rattle.sums_slide.specs.{Levels.within, Ends.raised_end}

-- n is the raised sum of y
pub raised-le : (x y : ℤ) (k n : ℕ) → Rep y n k → x ≤ℤ y → raised_end k x ≤ n
raised-le x y k n h l = omega zarith

pub raised-gt : (x y : ℤ) (k n : ℕ) → Rep y n k → y <ℤ x → n < raised_end k x
raised-gt x y k n h l = omega zarith

pub raised-mono : (x y : ℤ) (k : ℕ) → x ≤ℤ y → raised_end k x ≤ raised_end k y
raised-mono x y k l = omega zarith

pub within-is : {z : ℤ} {n k : ℕ} (low high : ℤ) → Rep z n k → within (raised_end k low) (raised_end k high) n ≡ inside low high z
unfolding within
within-is {z} {n} {k} low high h = where-is low high z
    (λ a. rw (lt-leb (raised_end k low) n (omega (zarith, h, a)), inside-below low high z a))
    (λ a b. rw (le-leb (raised_end k low) n (omega (zarith, h, a)), lt-ltb n (raised_end k high) (omega (zarith, h, b)), inside-yes low high z a b))
    (λ a b. rw (le-leb (raised_end k low) n (omega (zarith, h, a)), le-ltb n (raised_end k high) (omega (zarith, h, b)), inside-above low high z b))
