-- Laws of specs/Table.
use Rattle.meaning_numbers.proofs.Prelude.{◌≡◌, sym, ap, ◌∙◌, Bool, List, [], ◌++◌, append-nil, ℕ, ◌+◌, ◌-◌, ◌/◌, ◌<◌, ◌≤◌, arith, dec_le, div-le_self, le-div_iff_mul-le, div-mul-le_self, div-lt_iff_lt-mul, ℤ, length, length-append}
use Rattle.sums_slide.specs.{Picked.picked, Picked.Appended, Marks.met, Table.top, Table.table, Levels.level, Levels.row_of, Levels.windows_of, Levels.Lent, Levels.Bounds, Levels.level-small}
use Rattle.sums_slide.proofs.{Picked.append-on, Picked.picked-on, Picked.picked_none, Picked.picked_more, Marks.met-none}

-- numbers from m on that no window has add nothing
stays : (row : ℕ → ℕ) (n m k : ℕ) → ((j : ℕ) → j < n → row j < m) → picked (met row n) 0 (m + k) ≡ picked (met row n) 0 m
stays row n m k h =
    let p = met row n in
    let z : 0 + m ≡ m = omega arith in
    picked-on p 0 m k ∙ rw (z, picked_none p m k (λ x l. met-none row n (m + x) (λ j b e. omega (arith, h j b)))) (append-nil _)

same-beyond : (row : ℕ → ℕ) (n a b : ℕ) → a ≤ b → ((j : ℕ) → j < n → row j < a) → picked (met row n) 0 b ≡ picked (met row n) 0 a
same-beyond row n a b l h = let e : b ≡ a + (b - a) = omega arith in rw e (stays row n a (b - a) h)

at_most : (row : ℕ → ℕ) (n m t : ℕ) → ((j : ℕ) → j < n → row j < t) → length (picked (met row n) 0 m) ≤ length (picked (met row n) 0 t)
at_most row n m t h = elim (dec_le m t) [
  | yes l ↦ let e : t ≡ m + (t - m) = omega arith in rw e (picked_more _ 0 m (t - m))
  | no f ↦ rw (same-beyond row n t m (omega arith) h) (omega arith)
]

module _ {s : List ℤ} {w e : ℕ} (d : ℕ) (h : Lent s w e) where
  pub below_top : (j : ℕ) → row_of (level s w e) d j < top
  unfolding row_of top
  below_top j = omega (arith, div-le_self (level s w e j) d, level-small j h)

  -- there is room for what is listed so far, however far
  pub table-room : (m : ℕ) → length (picked (met (row_of (level s w e) d) (windows_of s w)) 0 m) ≤ length (table s w e d)
  unfolding table
  table-room m = at_most _ _ m top (λ j b. below_top j)

  module _ {least greatest : ℕ} (one : 0 < d) (b : Bounds (level s w e) (windows_of s w) least greatest) where
    pub table-start : picked (met (row_of (level s w e) d) (windows_of s w)) 0 (least / d) ≡ []
    unfolding row_of
    table-start = picked_none _ 0 _ (λ x l. met-none _ _ (0 + x) (λ j k q.
        let m : least / d ≤ level s w e j / d = (le-div_iff_mul-le one).1 (omega (arith, div-mul-le_self least d, b.bound j k)) in omega arith))

    in-few : (m : ℕ) → greatest / d < m → (j : ℕ) → j < windows_of s w → row_of (level s w e) d j < m
    unfolding row_of
    in-few m l j k = (div-lt_iff_lt-mul one).1 (omega (arith, b.bound j k, (div-lt_iff_lt-mul one).0 l))

    pub table-end : (m : ℕ) → greatest / d < m → picked (met (row_of (level s w e) d) (windows_of s w)) 0 m ≡ table s w e d
    unfolding table
    table-end m l =
        let row = row_of _ d in
        let n = windows_of s w in
        elim (dec_le m top) [
          | yes o ↦ sym (same-beyond row n m top o (in-few m l))
          | no o ↦ same-beyond row n top m (omega arith) (λ j k. below_top j)
        ]

-- ---- one chunk more

pub chunk_next : (p : ℕ → Bool) (base m : ℕ) {old mid new : List ℕ} {k r : ℕ} → Appended (picked p 0 base) 0 k old mid → Appended (picked p base m) k r mid new
    → Appended (picked p 0 (base + m)) 0 r old new
chunk_next p base m a b = let z : 0 + base ≡ base = omega arith in rw (picked-on p 0 base m, z) (append-on a b)

pub chunk-room : {s : List ℤ} {w e : ℕ} (d : ℕ) → Lent s w e → (base m : ℕ) {old mid : List ℕ} {k : ℕ}
    → Appended (picked (met (row_of (level s w e) d) (windows_of s w)) 0 base) 0 k old mid → length (table s w e d) ≤ length old
    → k + length (picked (met (row_of (level s w e) d) (windows_of s w)) base m) ≤ length mid
chunk-room {s} {w} {e} d h base m a room =
    let p = met (row_of (level s w e) d) (windows_of s w) in
    let z : 0 + base ≡ base = omega arith in
    let split : picked p 0 (base + m) ≡ picked p 0 base ++ picked p base m = rw z at (picked-on p 0 base m) in
    omega (arith, a.long, table-room d h (base + m), ap length split, length-append (picked p 0 base) (picked p base m))
