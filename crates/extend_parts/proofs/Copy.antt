-- Laws of specs/Copy.
use Rattle.meaning_numbers.proofs.Prelude.{◌≡◌, refl, sym, ap, ◌∙◌, List, ◌++◌, ℕ, zero, suc, ◌+◌, ◌-◌, ◌<◌, ◌≤◌, add-one, arith, ltb, length, get_or, set, take, drop, length-set, length-append, length-drop, paste, paste-suc, length-paste, length-take-le, by-test}
use Rattle.meaning_rows.specs.declared.Row.{Row}
use Rattle.rows_records.specs.Records.{zero_row}
use Rattle.build_parts.proofs.Lent.{lent_from, back_at, lent_is, back-made}
use Rattle.extend_parts.specs.Copy.{part_size, written, part_copied, CopyRoom, old_passed, passed_to, next_old, column_to, Copyable}

-- one number more copied to the front
pub paste_more : (d s : List ℕ) (t : ℕ) → t < length d → t < length s → set (paste d 0 s t) t (get_or s t 0) ≡ paste d 0 s (t + 1)
paste_more d s t h k =
    let z : t ≡ 0 + t = omega arith in
    ap (λ i. set (paste d 0 s t) i (get_or s t 0)) z ∙ paste-suc d 0 s t 0 (omega arith) k ∙ ap (paste d 0 s) (sym (add-one t))

length-written : (n size : ℕ) (numbers part : List ℕ) → n ≤ length numbers → n ≤ length part → length (written n size numbers part) ≡ length part
unfolding written
length-written n size numbers part h k = by-test (ltb n size)
    (λ t. rw t (length-set (paste part 0 numbers n) (size - 1) n ∙ length-paste part 0 numbers n (omega arith) h))
    (λ f. rw f (length-paste part 0 numbers n (omega arith) h))

-- the part of a row, lent to its writer and put back
pub part-back : (n size a b : ℕ) (from to last : List ℕ) → last ≡ written n size (lent_from a from) (lent_from b to) → back_at b to last ≡ take b to ++ written n size (drop a from) (drop b to)
part-back n size a b from to last e = back-made b to last (written n size (drop a from)) (e ∙ rw (lent_is a from))

pub length-copied : (o r : Row) (from to : List ℕ) → CopyRoom o r (length from) (length to) → length (part_copied o r from to) ≡ length to
unfolding part_copied
length-copied o r from to c =
    let w = written (part_size o r) r.runs (drop o.first from) (drop r.first to) in
    omega (
      arith,
      length-append (take r.first to) w,
      length-take-le r.first to (omega arith),
      length-written (part_size o r) r.runs (drop o.first from) (drop r.first to) (omega (arith, length-drop o.first from, c.source)) (omega (arith, length-drop r.first to, c.room, c.fits)),
      length-drop r.first to,
      c.room,
    )

pub column-none : (old : List Row) (from : List ℕ) (rows : List Row) (to : List ℕ) → column_to old from rows 0 to ≡ to
unfolding column_to
column-none old from rows to = refl

pub column-more : (old : List Row) (from : List ℕ) (rows : List Row) (i : ℕ) (to : List ℕ) → column_to old from rows (i + 1) to ≡ part_copied (next_old old rows i) (get_or rows i zero_row) from (column_to old from rows i to)
unfolding column_to
column-more old from rows i to = rw (add-one i)

pub passed_none : (old rows : List Row) → passed_to old rows 0 ≡ 0
unfolding passed_to
passed_none old rows = refl

pub passed-more : (old rows : List Row) (i : ℕ) → passed_to old rows (i + 1) ≡ old_passed (passed_to old rows i) (next_old old rows i) (get_or rows i zero_row)
unfolding passed_to
passed-more old rows i = rw (add-one i)

pub length-column : (old : List Row) (from : List ℕ) (rows : List Row) (count : ℕ) (to : List ℕ) → Copyable old rows count (length from) (length to) → (i : ℕ) → i ≤ count → length (column_to old from rows i to) ≡ length to
unfolding column_to
length-column old from rows count to c zero h = refl
length-column old from rows count to c (suc i) h =
    let e = length-column old from rows count to c i (omega arith) in
    length-copied _ _ from _ (rw e (c.room i (omega arith))) ∙ e
