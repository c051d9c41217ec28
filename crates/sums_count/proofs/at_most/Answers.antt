-- `at_most`: k + 2^32 - x is from 2^32 up to below twice that exactly if x is at most k.
use Rattle.meaning_numbers.specs.Sum.{bit}
use Rattle.meaning_numbers.proofs.Prelude.{leb-true, leb-false, ◌≡◌, ℕ, ◌+◌, ◌-◌, ◌/◌, ◌<◌, arith, leb, by-test}
use Rattle.sums_count.proofs.at_most.Goals as goal

told : (x k : ℕ) → x < 4294967296 → k < 4294967296 → (k + 4294967296 - x) / 4294967296 ≡ bit (leb x k)
unfolding bit
told x k a b = by-test (leb x k) (λ y. rw y (let h = leb-true x k y in omega arith)) (λ y. rw y (let h = leb-false x k y in omega arith))

pub returns : goal.returns
returns c = told _ _ c.ranges.x.fits c.requires
