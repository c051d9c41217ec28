-- An index text part by part, counted and put into a buffer, and what stands in the buffer where the rest was cleared.
use Rattle.meaning_numbers.proofs.Prelude.{◌≡◌, refl, sym, ap, ◌∙◌, List, ◌++◌, append-nil, append_assoc, ℕ, ◌+◌, ◌-◌, ◌<◌, ◌≤◌, arith, pos, length, get_or, take, take_all, length-sets, sets, leb, leb-true, leb-false, by-test}
use Rattle.meaning_rows.specs.{declared.Row.Row, declared.Head.Head, Index.lent}
use Rattle.meaning_text.specs.{Form.spell_many, Texts.index_text}
use Rattle.clear.specs.Clear.{cleared_to, cleared_from}
use Rattle.text_put.specs.Put.{Put}
use Rattle.text_put.proofs.Put.{put_then}
use Rattle.text_write.specs.Write.{head_text, end_text, row_text}
use Rattle.text_write.proofs.Write.{rows_text, rows-turn, index-parts}
use Rattle.text_count.specs.Count.{Counted}
use Rattle.text_count.proofs.Count.{counted-then}
use Rattle.entry_write.specs.Spell.{spelled}

-- the head and the first k rows
abbrev pub begun : Head → List Row → List ℕ → List ℕ → ℕ → List ℕ
begun h rows left right k = head_text (pos h.window) (pos h.width) (pos h.windows) ++ rows_text (take k rows) left right

module _ (h : Head) (rows : List Row) (left right : List ℕ) where
  begun-0 : head_text (pos h.window) (pos h.width) (pos h.windows) ≡ begun h rows left right 0
  unfolding rows_text spell_many
  begun-0 = sym (append-nil _)

  begun-more : (d : Row) (k : ℕ) → k < length rows → begun h rows left right k ++ row_text (get_or rows k d) left right ≡ begun h rows left right (k + 1)
  begun-more d k l = rw (rows-turn rows left right d k l) (append_assoc (head_text (pos h.window) (pos h.width) (pos h.windows)) (rows_text (take k rows) left right) (row_text (get_or rows k d) left right))

  begun_all : (k : ℕ) → length rows ≤ k → begun h rows left right k ++ end_text ≡ index_text (lent h rows left right)
  begun_all k l = let e : take k rows ≡ rows = take_all k rows l in rw e (index-parts h rows left right)

  -- counted
  pub count-begins : {limit to : ℕ} → Counted limit 0 (head_text (pos h.window) (pos h.width) (pos h.windows)) to → Counted limit 0 (begun h rows left right 0) to
  count-begins p = rw begun-0 at p

  pub count-turn : {limit k at to : ℕ} (d : Row) → k < length rows → Counted limit 0 (begun h rows left right k) at → Counted limit at (row_text (get_or rows k d) left right) to → Counted limit 0 (begun h rows left right (k + 1)) to
  count-turn {k = k} d l p q = rw (begun-more d k l) at (counted-then p q)

  pub count-ends : {limit k at to : ℕ} → length rows ≤ k → Counted limit 0 (begun h rows left right k) at → Counted limit at end_text to → Counted limit 0 (index_text (lent h rows left right)) to
  count-ends {k = k} l p q = rw (begun_all k l) at (counted-then p q)

  -- put
  pub put-begins : {old new : List ℕ} {to : ℕ} → Put old 0 (head_text (pos h.window) (pos h.width) (pos h.windows)) new to → Put old 0 (begun h rows left right 0) new to
  put-begins p = rw begun-0 at p

  pub put_turn : {old now new : List ℕ} {k at to : ℕ} (d : Row) → k < length rows → Put old 0 (begun h rows left right k) now at → Put now at (row_text (get_or rows k d) left right) new to → Put old 0 (begun h rows left right (k + 1)) new to
  put_turn {k = k} d l p q = rw (begun-more d k l) at (put_then p q)

  pub put-ends : {old now new : List ℕ} {k at to : ℕ} → length rows ≤ k → Put old 0 (begun h rows left right k) now at → Put now at end_text new to → Put old 0 (index_text (lent h rows left right)) new to
  put-ends {k = k} l p q = rw (begun_all k l) at (put_then p q)

-- the rest cleared; past the end there is none
cleared-past : (n : ℕ) (l : List ℕ) → length l ≤ n → cleared_from n l ≡ l
unfolding cleared_to
cleared-past n l h = let e : length l - n ≡ 0 = omega arith in rw (e, take_all n l h) (append-nil l)

pub put-spelled : {old now new : List ℕ} {to : ℕ} (l : List ℕ) → Put old 0 l now to → new ≡ cleared_from to now → new ≡ spelled l old
put-spelled {old} {now} {new} {to} l p c =
    c ∙ ap (cleared_from to) p.holds
    ∙ by-test (leb (length l) (length old))
    (λ t. let e : to ≡ length l = omega (arith, p.ends, leb-true (length l) (length old) t) in rw e refl)
    (λ f.
    let long = length-sets old 0 l in
    let less = leb-false (length l) (length old) f in
    cleared-past to (sets old 0 l) (omega (arith, p.ends, long, less)) ∙ sym (cleared-past (length l) (sets old 0 l) (omega (arith, long, less))))
