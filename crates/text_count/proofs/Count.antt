-- Laws of specs/Count.
use Rattle.meaning_numbers.proofs.Prelude.{ℕ, suc, ◌+◌, ◌-◌, ◌<◌, ◌≤◌, min, pos, length, get_or, take, drop, length-append, take-append-drop, List, ◌++◌, ◌≡◌, sym, ap, ◌∙◌, arith}
use Rattle.meaning_rows.specs.declared.Row.{Row}
use Rattle.meaning_text.specs.{Bytes.bytes, Number.spellℕ, Number.spellℤ, Form.spell, Form.spell_many, Texts.run_form}
use Rattle.text_write.specs.Write.{head_text, part_of, runs_text, row_text}
use Rattle.text_write.proofs.Write.{runs-more, runs-all, many-both}
use Rattle.text_count.specs.Count.{Counted}

pub counted-then : {limit : ℕ} {l m : List ℕ} {i j k : ℕ} → Counted limit i l j → Counted limit j m k → Counted limit i (l ++ m) k
counted-then {l = l} {m = m} p q = record { ends = omega (arith, p.ends, q.ends, length-append l m) }

-- a text behind whose beginning the limit is passed
pub counted-past : {limit : ℕ} {l : List ℕ} {i j : ℕ} (m : List ℕ) → Counted limit i l j → limit < j → Counted limit i (l ++ m) j
counted-past {l = l} m p h = record { ends = omega (arith, p.ends, length-append l m) }

pub counted_is : {limit at to : ℕ} (l : List ℕ) (n : ℕ) → length l ≡ n → to ≡ min (at + n) (suc limit) → Counted limit at l to
counted_is l n e h = record { ends = omega arith }

-- ---- lengths

pub head-length : (w d n : ℕ) → length (head_text (pos w) (pos d) (pos n)) ≡ length (spellℕ w) + length (spellℕ d) + length (spellℕ n) + 37
unfolding head_text bytes spellℤ
head-length w d n = simp length-append (omega arith)

pub run_length : (l r : ℕ) → length (spell run_form (pos l, pos r)) ≡ length (spellℕ l) + length (spellℕ r) + 4
unfolding spell bytes spellℤ
run_length l r = simp length-append (omega arith)

pub row-counted : (limit : ℕ) (r : Row) (left right : List ℕ) {i j k to : ℕ} → j ≡ min (i + (length (spellℤ r.low) + length (spellℤ r.up) + 6)) (suc limit)
    → Counted limit j (runs_text (part_of r.first r.runs left right)) k → to ≡ min (k + 2) (suc limit) → Counted limit i (row_text r left right) to
unfolding row_text runs_text spell bytes
row-counted limit r left right e p f = record { ends = simp length-append (omega (arith, e, p.ends, f)) }

-- ---- the loop over a row's runs

-- after i of n runs
pub record Runs (limit at first runs : ℕ) (left right : List ℕ) (n to i : ℕ) : Type 0 where
  pub counted : Counted limit at (runs_text (take i (part_of first runs left right))) to
  pub within : i ≤ n
  pub room : n ≡ min runs (min (length left) (length right) - first)

pub runs-start : (limit at first runs : ℕ) (left right : List ℕ) (n to : ℕ) → n ≡ min runs (min (length left) (length right) - first) → to ≡ min (at + 0) (suc limit) → Runs limit at first runs left right n to 0
unfolding runs_text spell_many
runs-start limit at first runs left right n to e p = record { counted = record { ends = p }; within = omega arith; room = e }

module _ {limit at first runs : ℕ} {left right : List ℕ} {n to i : ℕ} (r : Runs limit at first runs left right n to i) where
  pub runs-turn : i < n → {next : ℕ} → Counted limit to (spell run_form (pos (get_or left (first + i) 0), pos (get_or right (first + i) 0))) next → Runs limit at first runs left right n next (i + 1)
  runs-turn h p = record { counted = rw (runs-more first runs left right n r.room i h) (counted-then r.counted p); within = omega arith; room = r.room }

  pub runs-end : n ≤ i → Counted limit at (runs_text (part_of first runs left right)) to
  runs-end h = rw (runs-all first runs left right n r.room i h) at r.counted

  -- left early
  pub runs_past : limit < to → Counted limit at (runs_text (part_of first runs left right)) to
  unfolding runs_text
  runs_past h =
      let p = part_of first runs left right in
      let e : spell_many (spell run_form) (take i p) ++ spell_many (spell run_form) (drop i p) ≡ spell_many (spell run_form) p = sym (many-both (spell run_form) (take i p) (drop i p)) ∙ ap (spell_many (spell run_form)) (take-append-drop i p) in
      rw e at (counted-past (spell_many (spell run_form) (drop i p)) r.counted h)
