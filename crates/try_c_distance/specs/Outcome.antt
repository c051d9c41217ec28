-- What a call leaves: a buffer whose first entries are written (`Written`), and an answer that tells an input that was taken from one that was refused (`Outcome`).
use Rattle.std.specs.Prelude.{ℕ, ◌<◌, ◌≤◌, length, get_or, List, ◌≡◌}

-- P holds of each of the first n entries, at its place, and those past them are as they were; x is what is read past the end
pub record Written {A : Type 0} (x : A) (P : ℕ → A → Type 0) (n : ℕ) (old new : List A) : Type 0 where
  pub long : length new ≡ length old
  pub made : (j : ℕ) → j < n → P j (get_or new j x)
  pub rest : (j : ℕ) → n ≤ j → get_or new j x ≡ get_or old j x

-- an input that is as asked is answered `yes`, and what is done holds; any other is answered `no`, and all is kept
pub record Outcome {A : Type 0} (asked : Type 0) (yes no r : A) (done kept : Type 0) : Type 0 where
  pub taken : asked → (r ≡ yes) × done
  pub refused : (asked → ⊥) → (r ≡ no) × kept
