-- Laws of specs/Write.
use Prim.Native.Nat.{ℕ, zero, suc, ◌+◌, ◌-◌, ◌<◌, ◌≤◌, min}
use lib.IntN.{pos}
use lib.ListN.{length, get_or, take, drop, length-take, length-drop}
use lib.Seq.{take-suc, take_all, get_or-take, get_or-drop}
use mathlib.Core.List.{List, [], ◌∷◌, ◌++◌, append_assoc, append-nil, map}
use mathlib.Core.Path.{◌≡◌, refl, ◌∙◌}
use native.Mathlib.Numerals.{add-one}
use native.Mathlib.Omega.{arith}
use Rattle.meaning_rows.specs.{Index.Index, Index.lent, Index.entries, Index.range_row, declared.Row.Row, declared.Head.Head}
use Rattle.meaning_text.specs.{Form.spell, Form.spell_many, Texts.row_form, Texts.run_form, Texts.say_row, Texts.say_index, Texts.index_text}
use Rattle.text_put.specs.Put.{Put}
use Rattle.text_put.proofs.Put.{put_then}
use Rattle.text_write.specs.Write.{head_text, end_text, part_of, runs_text, row_text}

-- ---- the parts

-- rows one after the other
unfoldable pub rows_text : List Row → List ℕ → List ℕ → List ℕ
rows_text rows left right = spell_many (λ r. row_text r left right) rows

-- ---- together

rows-said : (rows : List Row) (x : Index) (left right : List ℕ) → x.runs ≡ entries left right → spell_many (spell row_form) (map say_row (map (range_row x) rows)) ≡ rows_text rows left right
unfolding rows_text row_text spell_many
rows-said [] x left right e = refl
rows-said (r ∷ rows) x left right e = rw (rows-said rows x left right e, e)

-- the text of a lent index is its head, its rows and its end
pub index-parts : (h : Head) (rows : List Row) (left right : List ℕ) → (head_text (pos h.window) (pos h.width) (pos h.windows) ++ rows_text rows left right) ++ end_text ≡ index_text (lent h rows left right)
unfolding head_text end_text index_text say_index spell
index-parts h rows left right = rw (rows-said rows (lent h rows left right) left right refl) (simp append_assoc)

-- ---- one more

pub many-both : {A : Type 0} (one : A → List ℕ) (l m : List A) → spell_many one (l ++ m) ≡ spell_many one l ++ spell_many one m
unfolding spell_many
many-both one [] m = refl
many-both one (y ∷ l) m = rw (many-both one l m, append_assoc)

pub many-turn : {A : Type 0} (one : A → List ℕ) (l : List A) (d : A) (i : ℕ) → i < length l → spell_many one (take (i + 1) l) ≡ spell_many one (take i l) ++ one (get_or l i d)
unfolding spell_many
many-turn one l d i h = rw (add-one, take-suc l i d h, many-both one (take i l) (get_or l i d ∷ []), append-nil)

pub rows-turn : (rows : List Row) (left right : List ℕ) (d : Row) (i : ℕ) → i < length rows → rows_text (take (i + 1) rows) left right ≡ rows_text (take i rows) left right ++ row_text (get_or rows i d) left right
unfolding rows_text
rows-turn rows left right d i h = many-turn (λ r. row_text r left right) rows d i h

-- ---- the run entries of two slices

pub entries-length : (left right : List ℕ) → length (entries left right) ≡ min (length left) (length right)
unfolding entries
entries-length [] right = omega arith
entries-length (x ∷ left) [] = omega arith
entries-length (x ∷ left) (y ∷ right) = omega (arith, entries-length left right)

entry_at : (left right : List ℕ) (i : ℕ) → i < length left → i < length right → get_or (entries left right) i (pos 0, pos 0) ≡ (pos (get_or left i 0), pos (get_or right i 0))
unfolding entries
entry_at [] right i h g = absurd (omega arith)
entry_at (x ∷ left) [] i h g = absurd (omega arith)
entry_at (x ∷ left) (y ∷ right) zero h g = refl
entry_at (x ∷ left) (y ∷ right) (suc i) h g = entry_at left right i (omega arith) (omega arith)

part-is : (first runs : ℕ) (left right : List ℕ) → length (part_of first runs left right) ≡ min runs (min (length left) (length right) - first)
part-is first runs left right = simp (length-take, length-drop) (rw (entries-length left right) (omega arith))

-- ---- a row's runs one after the other

module _ (first runs : ℕ) (left right : List ℕ) (n : ℕ) (room : n ≡ min runs (min (length left) (length right) - first)) where
  pub runs-more : (i : ℕ) → i < n
      → runs_text (take (i + 1) (part_of first runs left right)) ≡ runs_text (take i (part_of first runs left right)) ++ spell run_form (pos (get_or left (first + i) 0), pos (get_or right (first + i) 0))
  unfolding runs_text
  runs-more i h =
      let l : i < length (part_of first runs left right) = omega (arith, part-is first runs left right) in
      let e : get_or (part_of first runs left right) i (pos 0, pos 0) ≡ (pos (get_or left (first + i) 0), pos (get_or right (first + i) 0)) =
      get_or-take runs (drop first (entries left right)) i (pos 0, pos 0) (omega arith)
      ∙ get_or-drop first (entries left right) i (pos 0, pos 0)
      ∙ entry_at left right (first + i) (omega arith) (omega arith) in
      rw (many-turn (spell run_form) (part_of first runs left right) (pos 0, pos 0) i l, e)

  pub runs-all : (i : ℕ) → n ≤ i → take i (part_of first runs left right) ≡ part_of first runs left right
  runs-all i h = take_all i _ (omega (arith, part-is first runs left right))

-- ---- the loop over a row's runs

-- after i of n runs
pub record Runs (old : List ℕ) (at first runs : ℕ) (left right : List ℕ) (n : ℕ) (buf : List ℕ) (to i : ℕ) : Type 0 where
  pub put : Put old at (runs_text (take i (part_of first runs left right))) buf to
  pub within : i ≤ n
  pub room : n ≡ min runs (min (length left) (length right) - first)

pub runs-start : (old : List ℕ) (at first runs : ℕ) (left right : List ℕ) (n : ℕ) (buf : List ℕ) (to : ℕ) → n ≡ min runs (min (length left) (length right) - first) → Put old at [] buf to → Runs old at first runs left right n buf to 0
unfolding runs_text spell_many
runs-start old at first runs left right n buf to e p = record { put = p; within = omega arith; room = e }

module _ {old : List ℕ} {at first runs : ℕ} {left right : List ℕ} {n : ℕ} {buf : List ℕ} {to i : ℕ} (r : Runs old at first runs left right n buf to i) where
  pub runs-turn : i < n → {new : List ℕ} {next : ℕ} → Put buf to (spell run_form (pos (get_or left (first + i) 0), pos (get_or right (first + i) 0))) new next → Runs old at first runs left right n new next (i + 1)
  runs-turn h p = record { put = rw (runs-more first runs left right n r.room i h) (put_then r.put p); within = omega arith; room = r.room }

  pub runs-end : n ≤ i → Put old at (runs_text (part_of first runs left right)) buf to
  runs-end h = rw (runs-all first runs left right n r.room i h) at r.put
