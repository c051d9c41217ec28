-- What is printed of a number that counts something.
use Rattle.std.specs.Prelude.{ℕ, cond, eqb, List, ◌∷◌, ◌++◌}
use Rattle.std.specs.Prelude.{decimal}
use Rattle.try_print.specs.declared.Count.{Count}

-- the number, a blank, and what it counts
unfoldable pub count_text : Count → List ℕ
count_text c = decimal c.n ++ (32 ∷ cond (eqb c.n 1) c.one.now c.many.now)
