-- The closest few (02, item 2): the order of matches, and the first k of them in that order. Entries are offset and distance.
use Rattle.std.specs.Prelude.{ℕ, eqb, ltb, take, Bool, ◌&&◌, ◌||◌, List}
use Rattle.meaning_filter.specs.{declared.Pick.Pick, Ordered.in_order, Ordered.IsFirst}

-- x comes before y: by distance and then by earlier offset
abbrev pub closer : ℕ × ℕ → ℕ × ℕ → Bool
closer x y = ltb x.1 y.1 || (eqb x.1 y.1 && ltb x.0 y.0)

-- the closest few of a list: the beginning of the whole list put in that order, k entries, or all if there are fewer (laws: `closest-is`, `closest-only`)
abbrev pub closest : ℕ → List (ℕ × ℕ) → List (ℕ × ℕ)
closest k l = take k (in_order closer l)

-- r are the k closest of l
abbrev pub IsClosest : ℕ → List (ℕ × ℕ) → List (ℕ × ℕ) → Type 0
IsClosest k l r = IsFirst closer k l r

-- what is handed out of the matches
unfoldable pub handed : Pick → List (ℕ × ℕ) → List (ℕ × ℕ)
handed Pick.All l = l
handed (Pick.Closest k) l = closest k l

-- how many entries the list must hold, however many match
unfoldable pub fewest : Pick → ℕ
fewest Pick.All = 0
fewest (Pick.Closest k) = k
