-- Rows laid out in order, by place: record i begins where the parts before end (`records-at`), all parts together are as long as their sizes added up (`runs-total`), and a column of a run buffer whose parts hold the runs of the rows has the rows' run entries in order (`column-at`).
use Rattle.meaning_numbers.specs.Sum.{Σℕ}
use Rattle.meaning_numbers.proofs.Sum.{Σℕ-none}
use Rattle.meaning_numbers.proofs.Prelude.{◌≡◌, refl, sym, ap, ◌∙◌, List, [], ◌∷◌, ◌++◌, map, ℕ, zero, suc, ◌+◌, ◌-◌, ◌<◌, arith, dec_lt, length, get_or, length-append, length-map, List·get_d-append, get_or-append-add}
use Rattle.meaning_rows.specs.{declared.Row.Row, Index.Entry, Index.RangeRow, Index.records, Index.all_runs}

-- the first summand taken out
pub Σℕ-shift : (n : ℕ) (f : ℕ → ℕ) → Σℕ (suc n) f ≡ f 0 + Σℕ n (λ k. f (suc k))
unfolding Σℕ
Σℕ-shift zero f = omega arith
Σℕ-shift (suc n) f = omega (arith, Σℕ-shift n f)

map-append : (f : Entry → ℕ) (a b : List Entry) → map f (a ++ b) ≡ map f a ++ map f b
map-append f [] b = refl
map-append f (x ∷ a) b = rw (map-append f a b)

-- the rows are made of the entries of a list
module _ {X : Type 0} (x₀ : X) (G : X → RangeRow) where
  abbrev size : X → ℕ
  size x = length (G x).runs

  -- where the part of row i begins
  abbrev start : List X → ℕ → ℕ
  start t i = Σℕ i (λ y. size (get_or t y x₀))

  pub records-at : (o : Row) (k : ℕ) (t : List X) (i : ℕ) → i < length t
      → get_or (records k (map G t)) i o ≡ record { low = (G (get_or t i x₀)).low; up = (G (get_or t i x₀)).up; first = k + start t i; runs = size (get_or t i x₀) }
  unfolding records
  records-at o k [] i h = absurd (omega arith)
  records-at o k (x ∷ t) zero h = let e : k ≡ k + start (x ∷ t) 0 = omega (arith, Σℕ-none (λ y. size (get_or (x ∷ t) y x₀))) in
      λ j. record { low = (G x).low; up = (G x).up; first = e j; runs = size x }
  records-at o k (x ∷ t) (suc i) h =
      let e : k + size x + start t i ≡ k + start (x ∷ t) (suc i) = omega (arith, Σℕ-shift i (λ y. size (get_or (x ∷ t) y x₀))) in
      records-at o (k + size x) t i (omega arith) ∙ (λ j. record { low = (G (get_or t i x₀)).low; up = (G (get_or t i x₀)).up; first = e j; runs = size (get_or t i x₀) })

  pub runs-total : (t : List X) → length (all_runs (map G t)) ≡ start t (length t)
  unfolding all_runs
  runs-total [] = sym (Σℕ-none (λ y. size _))
  runs-total (x ∷ t) = omega (arith, length-append (G x).runs (all_runs (map G t)), runs-total t, Σℕ-shift (length t) (λ y. size (get_or (x ∷ t) y x₀)))

  module _ (f : Entry → ℕ) (column : List ℕ) where
    column-from : (k : ℕ) (t : List X)
        → ((i u : ℕ) → i < length t → u < size (get_or t i x₀) → get_or column (k + start t i + u) 0 ≡ get_or (map f (G (get_or t i x₀)).runs) u 0)
        → (x : ℕ) → x < length (all_runs (map G t)) → get_or column (k + x) 0 ≡ get_or (map f (all_runs (map G t))) x 0
    unfolding all_runs
    column-from k [] h x l = absurd (omega arith)
    column-from k (y ∷ t) h x l =
        let a = (G y).runs in
        let b = all_runs (map G t) in
        let n = length-append a b in
        let m = length-map a f in
        rw (map-append f a b) (elim (dec_lt x (length a)) [
          | yes s ↦ let e : k + x ≡ k + start (y ∷ t) 0 + x = omega (arith, Σℕ-none (λ z. size (get_or (y ∷ t) z x₀))) in
              ap (λ z. get_or column z 0) e ∙ h 0 x (omega arith) s ∙ sym (List·get_d-append (map f a) _ 0 x (omega (arith, m)))
          | no s ↦ let e : k + x ≡ k + size y + (x - size y) = omega arith in
              let q : length (map f a) + (x - size y) ≡ x = omega (arith, m) in
              ap (λ z. get_or column z 0) e
              ∙ column-from (k + size y) t (λ i u p r. let g : k + size y + start t i + u ≡ k + start (y ∷ t) (suc i) + u = omega (arith, Σℕ-shift i (λ z. size (get_or (y ∷ t) z x₀))) in ap (λ z. get_or column z 0) g ∙ h (suc i) u (omega arith) r) (x - size y) (omega arith)
              ∙ sym (get_or-append-add (map f a) (map f b) (x - size y) 0) ∙ rw q
        ])

    pub column-at : (t : List X) → ((i u : ℕ) → i < length t → u < size (get_or t i x₀) → get_or column (start t i + u) 0 ≡ get_or (map f (G (get_or t i x₀)).runs) u 0)
        → (x : ℕ) → x < length (all_runs (map G t)) → get_or column x 0 ≡ get_or (map f (all_runs (map G t))) x 0
    column-at t h x l =
        let e : x ≡ 0 + x = omega arith in
        ap (λ z. get_or column z 0) e ∙ column-from 0 t (λ i u p r. let q : 0 + start t i + u ≡ start t i + u = omega arith in ap (λ z. get_or column z 0) q ∙ h i u p r) x l
