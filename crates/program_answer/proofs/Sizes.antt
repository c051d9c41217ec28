-- How long the program's texts are at most, so that a buffer of 1,048,576 bytes holds them.
use Rattle.meaning_numbers.specs.Place.{keep, numbers_from}
use Rattle.meaning_numbers.proofs.Prelude.{◌≡◌, ap, subst, true, not, ◌&&◌, List, [], ◌∷◌, map, ℕ, zero, suc, ◌+◌, ◌*◌, ◌<◌, ◌≤◌, ◌^◌, arith, leb, ℤ, pos, negsuc, length, length-append, length-map, leb-true, by-test, both}
use Rattle.meaning_curves.specs.{Curve.window_count, Normal.flat, Match.normal_distance, Match.scale_near, Match.shift_near, Match.raw_match, Match.normal_match}
use Rattle.meaning_rows.specs.{Index.Entry, Index.RangeRow, Index.all_runs, Index.laid_out, Build.built, Build.built_rows}
use Rattle.meaning_rows.proofs.{Judge.WellFormed, Laid.length-records, Laid.rows_back}
use Rattle.meaning_filter.specs.Matches.{Question, matches, distance_to, matches_at, listed, all_matches, offset_count}
use Rattle.meaning_filter.specs.{declared.Kind.Kind, declared.Kind.TheVariants.Raw, declared.Kind.TheVariants.Normal, declared.Limits.Limits}
use Rattle.meaning_text.specs.Texts.{run_form, row_form, index_form, say_row, say_index, index_text, found_text, refused_text}
use Rattle.meaning_text.specs.{Bytes.bytes, Number.spellℤ, Number.Short, Form.Value, Form.Spellable, Form.Each, Form.end, Form.more, Form.spell, Form.spell_many}
use Rattle.meaning_entries.proofs.Again.{spelled}
use Rattle.text_put.proofs.Digits.{length_most}
use Rattle.text_list.specs.Found.{match_text, matches_text}
use Rattle.text_list.proofs.Found.{found-parts}

number_size : (z : ℤ) → Short z → length (spellℤ z) ≤ 19
unfolding spellℤ
number_size (pos n) h = omega (arith, length_most 17 n h)
number_size (negsuc n) h = omega (arith, length_most 17 (suc n) h)

-- ---- the index text

run-size : (e : Entry) → Spellable run_form e → length (spell run_form e) ≤ 42
unfolding spell bytes
run-size e h = simp length-append (omega (arith, number_size e.0 h.0, number_size e.1 h.1))

runs-size : (l : List Entry) → Each (Spellable run_form) l → length (spell_many (spell run_form) l) ≤ 42 * length l
unfolding spell_many
runs-size [] h = omega arith
runs-size (e ∷ l) (more h k) = simp length-append (omega (arith, run-size e h, runs-size l k))

row-size : (r : RangeRow) → Spellable row_form (say_row r) → length (spell row_form (say_row r)) ≤ 46 + 42 * length r.runs
unfolding spell bytes
row-size r h = simp length-append (omega (arith, number_size r.low h.0, number_size r.up h.1.0, runs-size _ h.1.1))

rows-size : (l : List RangeRow) → Each (Spellable row_form) (map say_row l) → length (spell_many (spell row_form) (map say_row l)) ≤ 46 * length l + 42 * length (all_runs l)
unfolding spell_many all_runs
rows-size [] h = omega arith
rows-size (r ∷ l) (more h k) = simp length-append (omega (arith, row-size r h, rows-size l k))

value-size : (w d n : ℤ) (l : List (Value row_form)) → Short w → Short d → Short n → length (spell index_form (w, (d, (n, l)))) ≤ 96 + length (spell_many (spell row_form) l)
unfolding spell bytes
value-size w d n l h i k = simp length-append (omega (arith, number_size w h, number_size d i, number_size n k))

said-is : (w d n : ℤ) (l : List RangeRow) → say_index (laid_out w d n l) ≡ (w, (d, (n, map say_row l)))
unfolding say_index
said-is w d n l = rw (rows_back w d n l)

laid-size : (w d n : ℤ) (l : List RangeRow) → Spellable index_form (say_index (laid_out w d n l)) → length (index_text (laid_out w d n l)) ≤ 96 + 46 * length l + 42 * length (all_runs l)
unfolding index_text
laid-size w d n l h =
    let e = said-is w d n l in
    let k = subst (Spellable index_form) e h in
    omega (arith, ap (λ (v : Value index_form). length (spell index_form v)) e, value-size w d n (map say_row l) k.0 k.1.0 k.1.1.0, rows-size l k.1.1.1)

pub index-size : (s : List ℤ) (w d g : ℕ) → WellFormed (built s w d g) → length (built s w d g).rows ≤ 4096 → length (built s w d g).runs ≤ 4096 → length (index_text (built s w d g)) ≤ 400000
unfolding built
index-size s w d g h a b =
    let n = window_count _ w in
    let l = built_rows _ d g n in
    omega (arith, laid-size (pos w) (pos d) (pos n) l (spelled _ h), length-records 0 l, a, b)

-- ---- the list's text

-- an entry of few digits
abbrev Small : ℕ × ℕ → Type 0
Small e = (e.0 < 10 ^ 18) × (e.1 < 10 ^ 18)

match-size : (e : ℕ × ℕ) → Small e → length (match_text e) ≤ 45
unfolding match_text spell bytes
match-size e h = simp length-append (omega (arith, number_size (pos e.0) h.0, number_size (pos e.1) h.1))

matches-size : (l : List (ℕ × ℕ)) → Each Small l → length (matches_text l) ≤ 45 * length l
unfolding matches_text spell_many
matches-size [] h = omega arith
matches-size (e ∷ l) (more h k) = simp length-append (omega (arith, match-size e h, matches-size l k))

found-size : (m c : ℕ) (l : List (ℕ × ℕ)) → m < 10 ^ 18 → c < 10 ^ 18 → Each Small l → length (found_text m c l) ≤ 62 + 45 * length l
unfolding bytes
found-size m c l h k s = rw (← found-parts m c l) (simp length-append (omega (arith, number_size (pos m) h, number_size (pos c) k, matches-size l s)))

-- what matches is at most the threshold away
near : (k : Kind) (s q : ℕ → ℤ) (m : ℕ) (l : Limits) → matches k s q m l ≡ true → distance_to k s q m l ≤ l.threshold
unfolding matches distance_to raw_match normal_match
near Raw s q m l e = leb-true _ _ e
near Normal s q m l e =
    let d = leb (normal_distance s q _ m) l.threshold in
    let c = shift_near s q m l.shift in
    let b = scale_near s q m l.scale in
    leb-true _ _ (both c d (both b (c && d) (both (not (flat s m)) (b && (c && d)) e).1).1).1

match-near : (z : Question) (j : ℕ) → matches_at z j ≡ true → (listed z j).1 ≤ z.ask.limits.threshold
match-near z j e = near _ _ _ _ _ e

small-kept : (z : Question) (k n : ℕ) → k + n ≤ 4097 → z.ask.limits.threshold ≤ 1000000000000 → Each Small (map (listed z) (keep (matches_at z) (numbers_from k n))) × (length (keep (matches_at z) (numbers_from k n)) ≤ n)
unfolding keep numbers_from
small-kept z k zero h t = (end, omega arith)
small-kept z k (suc n) h t =
    let r = small-kept z (suc k) n (omega (arith, h)) t in
    by-test (matches_at z k)
    (λ e. rw e (more {x = listed z k} (omega (arith, h), omega (arith, match-near z k e, t)) r.0, omega arith))
    (λ e. rw e (r.0, omega arith))

-- the list of all matches
pub all-size : (z : Question) (c : ℕ) → offset_count z ≤ 4096 → z.ask.limits.threshold ≤ 1000000000000 → c < 10 ^ 18 → (length (all_matches z) ≤ 4096) × (length (found_text (length (all_matches z)) c (all_matches z)) ≤ 200000)
unfolding all_matches
all-size z c h t k =
    let r = small-kept z 0 (offset_count z) (omega (arith, h)) t in
    let l = keep (matches_at z) (numbers_from 0 (offset_count z)) in
    let m = length-map l (listed z) in
    (omega (arith, m, r.1, h), omega (arith, found-size (length (map (listed z) l)) c _ (omega (arith, m, r.1, h)) k r.0, m, r.1, h))

-- ---- a refusal's text

pub refused-size : (n p : ℕ) → n < 2 ^ 32 → p < 2 ^ 64 → length (refused_text n p) ≤ 100
unfolding refused_text spell spellℤ bytes
refused-size n p h k = simp length-append (omega (arith, length_most 19 n (omega (arith, h)), length_most 19 p (omega (arith, k))))
