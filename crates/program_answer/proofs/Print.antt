-- Laws of specs/Print.
use Rattle.std.specs.Prelude.{Ok, Err}
use Rattle.meaning_numbers.proofs.Prelude.{◌≡◌, refl, sym, ap, ◌∙◌, List, [], ◌∷◌, ◌++◌, map, None, ℕ, ◌+◌, ◌-◌, ◌<◌, ◌≤◌, ◌^◌, min, arith, ℤ, pos, nat_abs, ◌-ℤ◌, length, take, drop, replicate, length-append, length-map, length-replicate, take-append_seam, ◌≤ℤ◌, le-ltb, zarith, z-add, z-sub}
use Rattle.meaning_numbers.proofs.{Count.count-le, Between.yes-within}
use Rattle.meaning_curves.specs.{Limits.most_values, Limits.most_program_values, Curve.window_count, Curve.window_sum}
use Rattle.meaning_rows.specs.Build.{SetRow, entry, with_runs, built_rows, merged, filed, built}
use Rattle.meaning_rows.specs.{declared.Row.Row, Runs.runs, Index.zero_row, Index.Index, Index.Entry, Index.entries, Index.lent, Index.all_runs}
use Rattle.meaning_rows.proofs.Judge.{Natural, none-bad}
use Rattle.meaning_filter.specs.{declared.Pick.Pick, Matches.all_matches, Matches.candidate_at, Matches.candidate_count, Closest.handed, Closest.fewest}
use Rattle.meaning_filter.proofs.Matches.{all_found}
use Rattle.meaning_text.specs.Texts.{index_text, found_text}
use Rattle.meaning_entries.specs.Buffers.{IndexBuffers, filled, lefts, rights, index_in, index_buffers}
use Rattle.meaning_entries.specs.Build.{BuildCall, lent_build, width_lines, build_table, build_refusal, build_index, build_answer, build_after}
use Rattle.meaning_entries.specs.Refusal.{Condition, flat_query, ill_formed, windows_of, buffer_short, pick_outside, series_lines}
use Rattle.meaning_entries.specs.Search.{SearchCall, SearchBuffers, lent_ask, lent_search, value_lines, limit_lines, search_plan, search_table, search_refusal, search_matches, search_handed, search_candidates, question}
use Rattle.meaning_entries.specs.{declared.Found.Found, Answers.Built, Answers.SearchAnswer, Answers.held, Answers.head_of, Write.write_table, Write.write_refusal, Program.call_lines, Program.program_index, Program.printed, Demand2.BuildKept, Demand2.SearchKept}
use Rattle.meaning_entries.proofs.Lines.{long-line, window-line, query-line, threshold-line, scale-line, series-passes, more-passes, room-passes}
use Rattle.meaning_entries.proofs.Refused.{AllPass, end, more, passed_is, passed-both, passed-join, open_lines, passed-line, passed-behind}
use Rattle.meaning_entries.proofs.{Made.build-passes, Made.build-most, Listed.listed-is, BothTold.all_told}
use Rattle.text_put.specs.Put.{Put}
use Rattle.text_put.proofs.Put.{put-room, put-length}
use Rattle.program_input.specs.{declared.Asked.Asked, Tables.call_of}
use Rattle.program_answer.specs.Print.{FoundPut}
use Rattle.program_answer.proofs.Sizes.{index-size, all-size}
use Rattle.meaning_entries.proofs.Passes as Audit

-- a line that does not apply
enough : (room need : ℕ) → need ≤ room → (buffer_short room need).place ≡ None
unfolding buffer_short
enough room need h = rw (le-ltb room need h)

-- ---- run entries in two columns

columns-both : (a b : List Entry) → entries (lefts (a ++ b)) (rights (a ++ b)) ≡ entries (lefts a) (rights a) ++ entries (lefts b) (rights b)
unfolding entries
columns-both [] b = refl
columns-both (x ∷ a) b = rw (columns-both a b)

columns-entry : (l : List (ℕ × ℕ)) → entries (lefts (map entry l)) (rights (map entry l)) ≡ map entry l
unfolding entries
columns-entry [] = refl
columns-entry (x ∷ l) = rw (columns-entry l)

columns-rows : (n : ℕ) (l : List SetRow) → entries (lefts (all_runs (map (with_runs n) l))) (rights (all_runs (map (with_runs n) l))) ≡ all_runs (map (with_runs n) l)
unfolding entries all_runs with_runs
columns-rows n [] = refl
columns-rows n (r ∷ l) = columns-both (with_runs n r).runs _ ∙ rw (columns-rows n l) (rw (columns-entry _))

-- ---- a program that nothing refuses

module _ (s q : List ℤ) (a : Asked) (free : AllPass (call_lines (call_of s q a))) where
  abbrev w : ℕ
  w = a.window

  abbrev c : BuildCall
  c = lent_build s w a.width a.merge

  abbrev pub x : Index
  x = build_index c

  length-in : Natural 1 most_program_values (pos (length s))
  unfolding open_lines call_lines call_of
  length-in = long-line most_program_values _ (passed-line free 1)

  pub few : length s ≤ 4096
  few = length-in.most

  -- the parts of the call's lines that the build and the search have too
  series-part : AllPass (series_lines most_values s)
  unfolding open_lines call_lines call_of
  series-part = series-passes most_values s (yes-within (record { low = omega (zarith, length-in.least); high = omega (zarith, few) })) (passed-line free 2)

  abbrev widths : List Condition
  widths = width_lines (length s) (pos w) (pos a.width) (pos a.merge)

  abbrev limits : List Condition
  limits = limit_lines (length s) (length q) (pos w) (lent_ask a.ask)

  abbrev rest : List Condition
  rest = limits ++ (flat_query a.ask.kind q ∷ [])

  number-parts : AllPass widths × AllPass rest
  unfolding call_lines call_of
  number-parts = passed-both widths rest (passed-both (value_lines most_program_values s q) _ free).1

  width-part : AllPass widths
  width-part = number-parts.0

  limit-part : AllPass limits
  limit-part = (passed-both limits _ number-parts.1).0

  window-in : (1 ≤ w) × (w ≤ length s)
  unfolding open_lines
  window-in = let t = window-line (pos w) _ (passed-line width-part 3) in (t.0.least, omega zarith)

  windows-few : window_count (length s) w ≤ 4096
  windows-few = omega (arith, few, window-in.0)

  module _ (rows : List Row) (left right : List ℕ) (r : length rows ≡ 4096) (l : length left ≡ 4096) (k : length right ≡ 4096) where
    abbrev b : IndexBuffers
    b = index_buffers rows left right

    -- its build is not refused
    pub build-free : build_refusal c b ≡ None
    unfolding build_table
    build-free = passed_is (passed-join series-part (passed-join width-part (room-passes (omega (arith, r, windows-few)) (omega (arith, l, k, windows-few)))))

    is-passed-x : Audit.Passed x s
    is-passed-x = Audit.passed x s (build-passes c b build-free)

    most-x : (length x.rows ≤ 4096) × (length x.runs ≤ 4096)
    most-x = let m = build-most c b build-free in (omega (arith, m.0, windows-few), omega (arith, m.1, windows-few))

    -- what is built, as the code has it
    pub record Stands (answer : Built) (rows' : List Row) (left' right' : List ℕ) : Type 0 where
      pub answered : answer ≡ Ok (held (head_of x) (length x.rows) (length x.runs))
      pub table : take (length x.rows) rows' ≡ x.rows
      pub first : take (length x.runs) left' ≡ lefts x.runs
      pub last : take (length x.runs) right' ≡ rights x.runs

    filled-front : {A : Type 0} (z : A) (new old : List A) (n : ℕ) → n ≡ length new → take n (filled z new old) ≡ new
    unfolding filled
    filled-front z new old n e = rw e (take-append_seam new _)

    pub stands : {answer : Built} {rows' : List Row} {left' right' : List ℕ} → BuildKept c b answer (index_buffers rows' left' right') → Stands answer rows' left' right'
    unfolding build_answer build_after index_in
    stands {answer} {rows'} {left'} {right'} h =
        let e = build-free in
        record {
          answered = h.answered ∙ rw (e, build_answer);
          table = ap (take (length x.rows)) (h.rows ∙ rw (e, build_after)) ∙ filled-front zero_row _ rows _ refl;
          first = ap (take (length x.runs)) (h.left ∙ rw (e, build_after)) ∙ filled-front 0 _ left _ (sym (length-map x.runs (λ y. nat_abs y.0)));
          last = ap (take (length x.runs)) (h.right ∙ rw (e, build_after)) ∙ filled-front 0 (rights x.runs) right (length x.runs) (sym (length-map x.runs (λ y. nat_abs y.1)));
        }

  -- the index that is lent is what was built
  pub lent_is : lent (head_of x) x.rows (lefts x.runs) (rights x.runs) ≡ x
  unfolding build_index built built_rows
  lent_is = λ i. record { window = x.window; width = x.width; windows = x.windows; rows = x.rows; runs = columns-rows (window_count (length s) w) (merged a.merge (window_count (length s) w) (filed (window_sum s w) a.width (window_count (length s) w))) i }

  -- ---- its search

  abbrev pub d : SearchCall
  d = record { series = s; index = x; query = q; ask = lent_ask a.ask }

  -- the search through what is lent is that through what was built
  pub search_is : lent_search s (head_of x) x.rows (lefts x.runs) (rights x.runs) a.ask q ≡ d
  search_is = rw lent_is

  pub printed-is : printed (call_of s q a) ≡ index_text x ++ found_text (length (search_matches d)) (search_candidates d) (search_matches d)
  unfolding printed program_index call_of
  printed-is = refl

  query-some-here : 1 ≤ length q
  unfolding open_lines
  query-some-here = (query-line _ _ (passed-line limit-part 6)).0.least

  near : a.ask.limits.threshold ≤ 1000000000000
  unfolding open_lines
  near = (threshold-line _ (passed-line limit-part 9)).most

  candidates-few : search_candidates d < 10 ^ 18
  unfolding candidate_count question
  candidates-few = omega (arith, count-le (candidate_at x (question d)) (length s + 1 - length q), few)

  abbrev zeros : List ℕ
  zeros = replicate 4096 0

  abbrev no_rows : List Row
  no_rows = replicate 4096 zero_row

  zeros-long : length zeros ≡ 4096
  zeros-long = length-replicate {A = ℕ} 4096 0

  rows_long : length no_rows ≡ 4096
  rows_long = length-replicate 4096 zero_row

  passed_here : Audit.Passed x s
  passed_here = is-passed-x no_rows zeros zeros rows_long zeros-long zeros-long

  all_here : search_matches d ≡ all_matches (question d)
  unfolding open_lines call_lines call_of question
  all_here = all_found x _ (Audit.whole-reached x s passed_here) query-some-here (omega (arith, (scale-line _ _ (passed-line limit-part 10)).0.least))

  sizes-here : (length (all_matches (question d)) ≤ 4096) × (length (found_text (length (all_matches (question d))) (search_candidates d) (all_matches (question d))) ≤ 200000)
  unfolding question
  sizes-here = all-size _ _ (omega (arith, few, query-some-here)) near candidates-few

  pub matches-few : length (search_matches d) ≤ 4096
  matches-few = omega (arith, ap length all_here, sizes-here.0)

  pub found-few : length (found_text (length (search_matches d)) (search_candidates d) (search_matches d)) ≤ 200000
  found-few = rw all_here sizes-here.1

  pub index-few : length (index_text x) ≤ 400000
  unfolding build_index
  index-few = let m = most-x no_rows zeros zeros rows_long zeros-long zeros-long in index-size s w _ _ passed_here.formed m.0 m.1

  -- the text has room
  pub write-free : (text : List ℕ) → 1048576 ≤ length text → write_refusal x text ≡ None
  unfolding write_table ill_formed
  write-free text h = passed_is (more (none-bad x passed_here.formed) (more (enough (length text) (length (index_text x)) (omega (arith, h, index-few))) end))

  -- no more windows than the series has
  windows-fit : x.windows ≤ℤ windows_of x (length s)
  unfolding build_index built
  windows-fit = omega (zarith, z-add (pos (length s) -ℤ pos w) (pos 1), z-sub (pos (length s)) (pos w), window-in.1)

  pub search-free : a.ask.pick ≡ Pick.All → (before : SearchBuffers) → length before.left ≡ 4096 → length before.right ≡ 4096 → length before.scratch ≡ 4096 → length before.offsets ≡ 4096 → length before.distances ≡ 4096 → search_refusal d before ≡ None
  unfolding open_lines search_plan search_table call_lines call_of build_index built pick_outside fewest handed
  search-free picks before hl hr hc ho hd =
      let value-part = passed-join series-part (more (passed-line (passed-behind free 2) 2) end) in
      let n = window_count (length s) w in
      let room-part = room-passes {one = min (length before.left) (length before.right)} {needed = n} {other = length before.scratch} {wanted = n} (omega (arith, hl, hr, windows-few)) (omega (arith, hc, windows-few)) in
      let list-part : fewest d.ask.pick ≤ min (length before.offsets) (length before.distances) = omega (arith, ap fewest picks) in
      passed_is (passed-join (passed-join value-part (passed-join limit-part (more (rw (ap pick_outside picks) refl) (more (passed-line free 11) (more (none-bad x passed_here.formed) (more (more-passes x _ windows-fit) (more (enough _ _ list-part) room-part)))))))
      (more (rw (le-ltb (min (length before.offsets) (length before.distances)) (length (search_handed d)) (omega (arith, ho, hd, matches-few, ap (λ p. length (handed p (search_matches d))) picks)))) end))

-- ---- the list behind the index text

pub list_put : (d : SearchCall) (before after : SearchBuffers) (t : SearchAnswer) (text : List ℕ) (at : ℕ) (new : List ℕ) (to : ℕ) → d.ask.pick ≡ Pick.All → SearchKept d before t after → search_refusal d before ≡ None → FoundPut t text at after.offsets after.distances new to
    → Put text at (found_text (length (search_matches d)) (search_candidates d) (search_matches d)) new to
list_put d before after t text at new to picks h e p =
    let k : t ≡ Ok (Found.All (search_candidates d) (length (search_matches d))) = h.answered ∙ all_told d before picks e in
    let g = rw k at h in
    rw (listed-is d before after g) at (rw k at p)

-- a text behind another in a buffer that has room
pub put-behind : (t l old mid new : List ℕ) (at to : ℕ) → mid ≡ filled 0 t old → at ≡ length t → Put mid at l new to → length t + length l ≤ length old → (to ≤ length new) × (take to new ≡ t ++ l)
unfolding filled
put-behind t l old mid new at to e f p h =
    let z : List ℕ = replicate (length old - length t) 0 in
    let m : length mid ≡ length old = ap length e ∙ length-append t z ∙ rw (length-replicate {A = ℕ} _ 0) (omega (arith, h)) in
    let r = put-room p (omega (arith, m, f, h)) in
    let b : take at mid ≡ t = rw (f, e) (take-append_seam t z) in
    let n : new ≡ (t ++ l) ++ drop (at + length l) mid = r.1 ∙ rw b in
    let q : to ≡ length (t ++ l) = omega (arith, f, length-append t l) in
    (omega (arith, put-length p, f, m, h), rw (n, q) (take-append_seam _ _))
