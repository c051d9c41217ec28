-- A list put in an order, and its beginning, for any test `before` that says of two entries whether the first comes before the other.
use Rattle.std.specs.Prelude.{ℕ, min, T, length, Bool, cond, ◌≡◌}
use mathlib.Core.List.{List, [], ◌∷◌, Memᴰ as Mem}

-- an entry put into its place: before the first that it comes before
unfoldable pub place : {A : Type 0} → (A → A → Bool) → A → List A → List A
place before x [] = x ∷ []
place before x (y ∷ l) = cond (before x y) (x ∷ y ∷ l) (y ∷ place before x l)

-- the entries of a list put into their places one after the other, among what is in order already
unfoldable pub placed : {A : Type 0} → (A → A → Bool) → List A → List A → List A
placed before done [] = done
placed before done (x ∷ l) = placed before (place before x done) l

-- a list put in order (laws: `order-mem`, `mem-order`, `order-often`, it has the list's entries, each as often; `order-ordered`; `order-only`)
abbrev pub in_order : {A : Type 0} → (A → A → Bool) → List A → List A
in_order before l = placed before [] l

-- ---- what is meant

-- a test that tells of any two entries which one comes first
pub record Total {A : Type 0} (before : A → A → Bool) : Type 0 where
  pub never : (x : A) → T (before x x) → ⊥
  pub on : (x y z : A) → T (before x y) → T (before y z) → T (before x z)
  pub told : (x y : A) → (T (before x y) → ⊥) → (T (before y x) → ⊥) → x ≡ y

-- every entry comes before all that stand behind it
pub data Ordered {A : Type 0} (before : A → A → Bool) : List A → Type 0 where
  nothing : Ordered before []
  ahead : {x : A} {l : List A} → ((y : A) → Mem y l → T (before x y)) → Ordered before l → Ordered before (x ∷ l)

-- no entry stands twice
pub data Different {A : Type 0} : List A → Type 0 where
  empty : Different []
  new : {x : A} {l : List A} → (Mem x l → ⊥) → Different l → Different (x ∷ l)

-- r are the first k of l in that order, all of them if there are fewer: they are of l, in order, and what is left out comes after all of them (law: `first-only`, of a list in which no entry stands twice, in such an order, there is one)
pub record IsFirst {A : Type 0} (before : A → A → Bool) (k : ℕ) (l r : List A) : Type 0 where
  pub many : length r ≡ min k (length l)
  pub of : (x : A) → Mem x r → Mem x l
  pub ordered : Ordered before r
  pub least : (x y : A) → Mem x r → Mem y l → (Mem y r → ⊥) → T (before x y)
