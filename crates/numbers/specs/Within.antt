-- What a function that may be left early answers: the number d where it is at most the limit, and otherwise some number above the limit.
-- It is shown by its two ways out: with the whole number, or above the limit with a part of it.
use Rattle.std.specs.Prelude.{ℕ, ◌<◌, ◌≤◌, ◌≡◌}

pub record Within (d limit r : ℕ) : Type 0 where
  pub exact : d ≤ limit → r ≡ d
  pub above : limit < d → limit < r
