-- A column from some place on, lent to a writer and put back: what is written into it is written into the column that much further on.
use Rattle.meaning_numbers.proofs.Prelude.{◌≡◌, sym, ap, ◌∙◌, List, [], ◌++◌, append-nil, ℕ, ◌+◌, ◌-◌, zero-add, arith, ltb, length, get_or, set, take, drop, length-drop, drop_of_length-le, take-append-drop, take_all, take-set-le, drop-set-add, get_or-drop, ltb-true, by-test}
use Rattle.meaning_rows.specs.declared.Row.{Row}
use Rattle.meaning_rows.proofs.Cursors.{file_right}
use Rattle.build_parts.specs.Part.{written_in, EntryRoom, written, PartRoom}

-- what is lent of a column from b on
abbrev pub lent_from : ℕ → List ℕ → List ℕ
lent_from b l = take (length l - b) (drop b l)

-- the column after it came back as `last`
abbrev pub back_at : ℕ → List ℕ → List ℕ → List ℕ
back_at b l last = take b l ++ (last ++ drop (length l - b) (drop b l))

pub lent_is : (b : ℕ) (l : List ℕ) → lent_from b l ≡ drop b l
lent_is b l = take_all (length l - b) (drop b l) (omega (arith, length-drop b l))

-- what a writer made of it, it made of the column from there on
pub back-made : (b : ℕ) (l last : List ℕ) (f : List ℕ → List ℕ) → last ≡ f (lent_from b l) → back_at b l last ≡ take b l ++ f (drop b l)
back-made b l last f e =
    let none : drop (length l - b) (drop b l) ≡ [] = drop_of_length-le (drop b l) {i = length l - b} (omega (arith, length-drop b l)) in
    ap (λ (k : List ℕ). take b l ++ k) (ap (λ (k : List ℕ). last ++ k) none ∙ append-nil last ∙ e ∙ ap f (lent_is b l))

-- nothing written
pub back-same : (b : ℕ) (l last : List ℕ) → last ≡ lent_from b l → back_at b l last ≡ l
back-same b l last e = back-made b l last (λ k. k) e ∙ take-append-drop b l

-- a number written
rest-set : (b : ℕ) (l : List ℕ) (t v : ℕ) → take b l ++ set (drop b l) t v ≡ set l (b + t) v
rest-set b l t v =
    let m = set l (b + t) v in
    ap (λ (k : List ℕ). take b l ++ k) (sym (drop-set-add b l t v)) ∙ ap (λ (k : List ℕ). k ++ drop b m) (sym (take-set-le b l (b + t) v (omega arith))) ∙ take-append-drop b m

pub back-set : (b : ℕ) (l last : List ℕ) (t v : ℕ) → last ≡ set (lent_from b l) t v → back_at b l last ≡ set l (b + t) v
back-set b l last t v e = back-made b l last (λ k. set k t v) e ∙ rest-set b l t v

-- a right end written, and the count while the part is not full
rest-file : (b : ℕ) (l : List ℕ) (n t v : ℕ) → take b l ++ file_right (drop b l) 0 n t v ≡ file_right l b n t v
unfolding file_right
rest-file b l n t v = by-test (ltb (t + 1) n)
    (λ h.
    let m = set l (b + t) v in
    let e : b + (n - 1) ≡ b + n - 1 = omega (arith, ltb-true (t + 1) n h) in
    rw (h, zero-add t, zero-add n, ← drop-set-add b l t v, ← take-set-le b l (b + t) v (omega arith)) (rest-set b m (n - 1) (t + 1) ∙ ap (λ (k : ℕ). set m k (t + 1)) e))
    (λ h. rw (h, zero-add t) (rest-set b l t v))

-- the part of a row that is not full
module _ (r : Row) (left right : List ℕ) (h : PartRoom r left right) where
  -- as many of its entries are written as the column says
  written_is : written_in r.runs (lent_from r.first right) ≡ written r right
  written_is =
      let e : r.first + (r.runs - 1) ≡ r.first + r.runs - 1 = omega (arith, h.more) in
      ap (written_in r.runs) (lent_is r.first right) ∙ get_or-drop r.first right (r.runs - 1) 0 ∙ ap (λ (k : ℕ). get_or right k 0) e

  pub entry-room : EntryRoom r.runs (lent_from r.first left) (lent_from r.first right)
  entry-room = record {
    in_left = omega (arith, h.in_left, ap length (lent_is r.first left), length-drop r.first left);
    in_right = omega (arith, h.in_right, ap length (lent_is r.first right), length-drop r.first right);
    more = rw written_is h.more;
  }

  pub left_back : (x : ℕ) (last : List ℕ) → last ≡ set (lent_from r.first left) (written_in r.runs (lent_from r.first right)) x → back_at r.first left last ≡ set left (r.first + written r right) x
  left_back x last e = back-set r.first left last (written r right) x (e ∙ rw written_is)

  pub right-back : (y : ℕ) (last : List ℕ) → last ≡ file_right (lent_from r.first right) 0 r.runs (written_in r.runs (lent_from r.first right)) y → back_at r.first right last ≡ file_right right r.first r.runs (written r right) y
  right-back y last e = back-made r.first right last (λ k. file_right k 0 r.runs (written r right) y) (e ∙ rw written_is) ∙ rest-file r.first right r.runs (written r right) y
