-- The two halves of a search by what is promised of them. Finding candidates (`SoughtKept`): the plan's refusal, or the candidates as the search leaves them. Checking them (`Finished`). And the last step of finding, over what its code has: the stretches of runs of the query's parts (`HandReady`, `HandedOut`).
use Rattle.meaning_numbers.proofs.Prelude.{Bool, List, map, ℕ, ◌-◌, ◌≤◌, arith, length, replicate, length-map, length-append}
use Rattle.meaning_rows.specs.Runs.{runs}
use Rattle.meaning_rows.proofs.Runs.{runs-apart}
use Rattle.meaning_entries.specs.Buffers.{filled}
use Rattle.check_list.specs.Found.{RunsLent}
use Rattle.check_list.proofs.Candidates.{runs-first}

filled-long : (l a : List ℕ) → length l ≤ length (filled 0 l a)
unfolding filled
filled-long l a = omega (arith, length-append l (replicate (length a - length l) 0))

-- runs that are handed out are lent to be checked
pub runs-lent : (set : ℕ → Bool) (n : ℕ) (left right : List ℕ) → RunsLent n (filled 0 (map (λ x. x.0) (runs set n)) left) (filled 0 (map (λ x. x.1) (runs set n)) right) (length (runs set n))
runs-lent set n left right =
    let r = runs set n in
    record {
      in_left = omega (arith, filled-long (map (λ x. x.0) r) left, length-map r (λ x. x.0));
      in_right = omega (arith, filled-long (map (λ x. x.1) r) right, length-map r (λ x. x.1));
      apart = rw (runs-first r left right) (runs-apart set n);
    }
