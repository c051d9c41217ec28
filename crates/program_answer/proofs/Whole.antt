-- The index and the list in the text buffer, where nothing refuses the program (`prints`).
use Rattle.meaning_numbers.proofs.Between.{within-yes}
use Rattle.std.specs.{Prelude.Ok, Prelude.Err, Prelude.Some, Prelude.Option, Result.result_unwrap_or}
use Rattle.meaning_numbers.proofs.Prelude.{◌≡◌, refl, sym, ap, ◌∙◌, subst, not, ◌||◌, List, ℕ, ◌≤◌, arith, ℤ, pos, length, take, lt_z, zarith, not-not, neither}
use Rattle.meaning_curves.specs.Limits.{window_in}
use Rattle.meaning_rows.specs.{declared.Row.Row, declared.Head.Head, Index.Index, Index.lent}
use Rattle.meaning_filter.specs.declared.Pick.{Pick}
use Rattle.meaning_text.specs.Texts.{index_text, found_text}
use Rattle.meaning_entries.specs.{Answers.Built, Answers.Written, Answers.held, Answers.held_head, Answers.held_counts, declared.Refusal.Refusal, Answers.head_of, Answers.written_count, Build.lent_build, Write.write_count, Write.write_after, Search.SearchCall, Search.lent_search, Search.search_matches, Search.search_candidates, Program.call_lines, Program.printed, Demand2.BuildKept, Demand2.WriteKept, Buffers.index_buffers}
use Rattle.meaning_entries.proofs.{Refused.AllPass, Refused.open_lines, Refused.passed-line, Refused.not-if, Made.build-most}
use Rattle.program_input.specs.{declared.Asked.Asked, Tables.call_of}
use Rattle.program_answer.specs.Finish.{Listed, Prints}
use Rattle.program_answer.proofs.Print.{x, few, build-free, stands, lent_is, d, search_is, printed-is, found-few, index-few, write-free, search-free, put-behind}

-- how many bytes are written, 0 where that is refused
pub count-is : (w : Written) → result_unwrap_or w 0 ≡ written_count w
count-is (Ok n) = refl
count-is (Err r) = refl

module _ (s q : List ℤ) (a : Asked) (free : AllPass (call_lines (call_of s q a))) where
  window-some : 1 ≤ a.window
  unfolding open_lines call_lines call_of
  window-some =
      let w = pos _ in
      let t = neither (not (window_in w)) _ (not-if 3 (not (window_in w) || lt_z (pos (length s)) w) (passed-line free 3)) in
      omega (zarith, (within-yes (pos 1) _ w (not-not (window_in w) t.0)).low)

  abbrev y : Index
  y = x s q a free

  module _ (rows : List Row) (left right : List ℕ) (r : length rows ≡ 4096) (l : length left ≡ 4096) (k : length right ≡ 4096) (answer : Built) (rows' : List Row) (left' right' : List ℕ)
      (h : BuildKept (lent_build s a.window a.width a.merge) (index_buffers rows left right) answer (index_buffers rows' left' right')) where
    answered : answer ≡ Ok (held (head_of y) (length y.rows) (length y.runs))
    answered = (stands s q a free rows left right r l k h).answered

    -- its build was not refused
    pub not-refused : {r : Refusal} {B : Type 0} → answer ≡ Err r → B
    not-refused e = let g = sym e ∙ answered in let z : ◌≡◌ {A = ℕ} 0 1 = cc in absurd (omega arith)

    module _ {head : Head} {n m : ℕ} (e : answer ≡ Ok (held head n m)) where
      index_same : ◌≡◌ {A = Built} (Ok (held head n m)) (Ok (held (head_of y) (length y.rows) (length y.runs)))
      index_same = sym e ∙ answered

      head-is : head ≡ head_of y
      head-is = let g : ◌≡◌ {A = Option Head} (Some head) (Some (head_of y)) = ap held_head index_same in cc

      rows_are : n ≡ length y.rows
      rows_are = ap (λ (b : Built). (held_counts b).0) index_same

      runs-are : m ≡ length y.runs
      runs-are = ap (λ (b : Built). (held_counts b).1) index_same

      pub rows_few : n ≤ 4096
      rows_few = omega (arith, rows_are, (build-most _ _ (build-free s q a free rows left right r l k)).0, few s q a free, window-some)

      pub runs-few : m ≤ 4096
      runs-few = omega (arith, runs-are, (build-most _ _ (build-free s q a free rows left right r l k)).1, few s q a free, window-some)

      lent-here : lent head (take n rows') (take m left') (take m right') ≡ y
      lent-here = let st = stands s q a free rows left right r l k h in rw (head-is, rows_are, runs-are, st.table, st.first, st.last) (lent_is s q a free)

      search-here : lent_search s head (take n rows') (take m left') (take m right') a.ask q ≡ d s q a free
      search-here = let st = stands s q a free rows left right r l k h in rw (head-is, rows_are, runs-are, st.table, st.first, st.last) (search_is s q a free)

      pub prints : a.ask.pick ≡ Pick.All → (old mid new : List ℕ) (written : Written) (to : ℕ) → length old ≡ 1048576 → WriteKept (lent head (take n rows') (take m left') (take m right')) old written mid
          → Listed (lent_search s head (take n rows') (take m left') (take m right') a.ask q) mid (written_count written) new to → Prints (printed (call_of s q a)) new to
      unfolding write_count write_after
      prints picks old mid new written to long wrote listed =
          let g = subst (λ (i : Index). WriteKept i old written mid) lent-here wrote in
          let p = subst (λ (c : SearchCall). Listed c mid (written_count written) new to) search-here listed picks (search-free s q a free picks) in
          let f = write-free s q a free old (omega (arith, long)) in
          let b = put-behind (index_text y) (found_text (length (search_matches (d s q a free))) (search_candidates (d s q a free)) (search_matches (d s q a free))) old mid new (written_count written) to (g.text ∙ rw (f, write_after)) (g.counted ∙ rw (f, write_count)) p (omega (arith, long, index-few s q a free, found-few s q a free)) in
          record { within = b.0; is = b.1 ∙ sym (printed-is s q a free) }
