-- Texts are lists of bytes.
use Prim.Native.Char.{code}
use Rattle.std.specs.Prelude.{ℕ, suc, eqb, cond, List, [], ◌∷◌}
use Prim.Native.String.{String, [] as empty, ◌∷◌ as ◌before◌}

-- the bytes of a quoted text, one for each of its characters
unfoldable pub bytes : String → List ℕ
bytes empty = []
bytes (c before s) = code c ∷ bytes s

-- how many newlines a text has
unfoldable pub newlines : List ℕ → ℕ
newlines [] = 0
newlines (b ∷ t) = cond (eqb b 10) (suc (newlines t)) (newlines t)
