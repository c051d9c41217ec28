-- What the table over what was kept says of the text (`end_is`), and what is asked where nothing refuses (`asked_is`).
use Rattle.std.specs.Prelude.{Ok, Err}
use Rattle.meaning_numbers.proofs.Prelude.{◌≡◌, refl, sym, ap, ◌∙◌, subst, Bool, true, false, cond, List, [], ◌∷◌, ◌++◌, map, None, Some, ℕ, ◌+◌, ◌≤◌, arith, ltb, ℤ, pos, negsuc, nat_abs, length, take, drop, sets-eq, length-sets, take-append_seam, ◌≤ℤ◌, ltb-false, zarith, z-sub, le-lt_z, by-test}
use Rattle.meaning_curves.specs.Limits.{most_program_values, value_in, first_outside}
use Rattle.meaning_curves.proofs.Values.{yes-value, none-outside}
use Rattle.meaning_filter.specs.declared.Pick.{Pick}
use Rattle.meaning_text.specs.{Read.read_text, Read.fine, Read.unfit, Read.line_of, Texts.program_form, Texts.kind_said}
use Rattle.meaning_text.proofs.{Automaton.Fed, Automaton.going, Automaton.failed, Reading.on-flag}
use Rattle.meaning_entries.specs.{Answers.refusal, Refusal.value_outside, Refusal.flat_query, Refusal.bad_line, Refusal.unreadable, Build.width_lines, Search.value_lines, Search.limit_lines, Program.ProgramCall, Program.program_said, Program.text_program, Program.call_lines, Program.program_table}
use Rattle.meaning_entries.proofs.Lines.{Natural, window-line, width-line, merge-line, band-line, threshold-line, scale-line}
use Rattle.meaning_entries.proofs.Refused.{AllPass, same-behind, passed-both, open_lines, passed-line, passed-behind}
use Rattle.numbers.specs.Narrow.{clamp}
use Rattle.refusals.specs.Refusal.{verdict_of, verdict}
use Rattle.refusals.proofs.RefusalLaws.{place_is, place_none}
use Rattle.text_lines.specs.{declared.State.State, Follow.Said, Follow.Reading, Follow.program_start, Follow.program_value}
use Rattle.text_lines.proofs.Follow.{program-comes, accept_state}
use Rattle.text_feed.specs.{declared.Values.Values, declared.Progress.Progress, Keep.stored, Keep.leading, Keep.numbers_of, Keep.Kept, Keep.Holds, Feed.Shows}
use Rattle.text_feed.proofs.{Keep.leading-outside, Whole.text-short, Whole.program-failed, Whole.program-done}
use Rattle.program_input.specs.Tables.{numbers_at, kind_of, first_out, values_table, numbers_table, call_table, is_done, end_table, SoundEnd, Upto, Limited, asked_of, call_of}
use Rattle.program_input.specs.{declared.Input.Input, declared.Numbers.Numbers, Input.fed, Input.Stands, Input.Open}
use Rattle.program_input.proofs.{InputLaws.going-is, Text.series-few, Text.series-in, Text.query-in, Text.query-few}

-- ---- values that were kept

clamp-in : (z : ℤ) → value_in z ≡ true → clamp z ≡ z
clamp-in z e =
    let h = yes-value z e in
    let l : negsuc 2147483647 ≤ℤ z = omega zarith in
    let k : z ≤ℤ pos 2147483647 = omega zarith in
    rw (le-lt_z l, le-lt_z k)

map-clamp : (vs : List ℤ) → length vs ≤ leading vs → map clamp vs ≡ vs
unfolding leading
map-clamp [] h = refl
map-clamp (x ∷ vs) h = on-flag (value_in x) (λ e. rw (clamp-in x e, (map-clamp vs (omega (arith, (rw e at h)))))) (λ e. absurd (omega (arith, (rw e at h))))

out_none : (v : Values) → first_out v ≡ None → v.count ≤ v.inside
out_none v e = by-test (ltb v.inside v.count) (λ t. let z : ◌≡◌ {A = ℕ} 0 1 = cc in absurd (omega arith)) (λ f. ltb-false v.inside v.count f)

module _ {base vs : List ℤ} {v : Values} {buf : List ℤ} (k : Kept base vs v buf) where
  out-is : first_out v ≡ first_outside vs
  out-is = rw (k.inside, k.count) (sym (leading-outside vs))

  -- where none is outside and there was room for all
  all-kept : first_out v ≡ None → v.count ≤ length base → take v.count buf ≡ vs
  unfolding stored
  all-kept e l =
      let c = map-clamp vs (omega (arith, out_none v e, k.count, k.inside)) in
      rw (k.count, k.lies, stored, c, sets-eq vs base 0 (omega (arith, l))) (take-append_seam vs (drop (0 + length vs) base))

  long_kept : length buf ≡ length base
  unfolding stored
  long_kept = ap length k.lies ∙ length-sets base 0 (map clamp vs)

-- ---- the call that the lines say

pub table_is : (t : List ℕ) → program_table t ≡ unreadable program_form 0 t ∷ call_lines (text_program t)
unfolding program_table
table_is t = refl

kind-is : (b : Bool) → kind_of (cond b (pos 1) (pos 0)) ≡ kind_said b
kind-is true = refl
kind-is false = refl

module _ {kept asked : List ℤ} {g : Said} {numbers : List ℤ} {v q : Values} {series query : List ℤ} (h : Holds kept asked g numbers v q series query) where
  abbrev said : ProgramCall
  said = program_said (program_value g)

  values-are : values_table v q ≡ value_lines most_program_values g.series g.query
  unfolding values_table value_outside
  values-are = rw (out-is h.first, out-is h.second, h.first.count)

  numbers-are : numbers_table v.count q.count (numbers_at numbers)
      ≡ width_lines (length g.series) g.window g.width g.merge ++ limit_lines (length g.series) (length g.query) g.window (program_said (program_value g)).ask
  unfolding numbers_table numbers_at program_said
  numbers-are = rw (h.first.count, h.second.count, h.alone)

  raw-is : kind_of (numbers_at numbers).raw ≡ kind_said g.raw
  unfolding numbers_at
  raw-is = rw h.alone (kind-is g.raw)

  module _ (room : 1024 ≤ length asked) where
    -- the query, where values and numbers pass
    query-is : AllPass (values_table v q) → AllPass (numbers_table v.count q.count (numbers_at numbers)) → take q.count query ≡ g.query
    query-is a b = all-kept h.second (query-in v q a) (omega (arith, query-few v.count q.count (numbers_at numbers) b, room))

    pub call-is : verdict (call_table v q (numbers_at numbers) query) ≡ verdict (call_lines said)
    unfolding call_table call_lines program_said
    call-is =
        let two = numbers_table v.count q.count (numbers_at numbers) in
        let kept = flat_query (kind_of (numbers_at numbers).raw) (take q.count query) ∷ [] in
        let meant = flat_query (kind_said g.raw) g.query ∷ [] in
        ap verdict_of (same-behind (values_table v q) (two ++ kept) (two ++ meant) (λ a. same-behind two kept meant (λ b. rw (query-is a b, raw-is))) ∙ rw (values-are, numbers-are))

-- ---- the text

-- what was said, where the input goes on
holds_of : (kept asked : List ℤ) (numbers series query : List ℤ) (p : Progress) (x : Fed Reading) → Shows kept asked (Ok p) x numbers series query → (g : Said) × Holds kept asked g numbers p.series p.query series query
holds_of kept asked numbers series query p (going y n) s = (y.said, s.2)
holds_of kept asked numbers series query p (failed n) s = absurd s

not_done : (s : State) → is_done s ≡ false → (g : Said) → accept_state program_value s g ≡ None
not_done (State.In w k) e g = refl
not_done (State.At p n) e g = refl
not_done (State.Before t) e g = refl
not_done State.Done e g = let z : ◌≡◌ {A = ℕ} 0 1 = cc in absurd (omega arith)

is-done : (s : State) → is_done s ≡ true → s ≡ State.Done
is-done (State.In w k) e = let z : ◌≡◌ {A = ℕ} 0 1 = cc in absurd (omega arith)
is-done (State.At p n) e = let z : ◌≡◌ {A = ℕ} 0 1 = cc in absurd (omega arith)
is-done (State.Before t) e = let z : ◌≡◌ {A = ℕ} 0 1 = cc in absurd (omega arith)
is-done State.Done e = refl

unread : (t : List ℕ) (m : ℕ) → read_text program_form t ≡ unfit m → (unreadable program_form 0 t).place ≡ Some (line_of t m)
unfolding unreadable bad_line
unread t m e = rw (e, bad_line) (ap Some (omega arith))

text-said : (t : List ℕ) (g : Said) → read_text program_form t ≡ fine (program_value g) → text_program t ≡ program_said (program_value g)
unfolding text_program
text-said t g e = rw (e, text_program)

read-fine : (t : List ℕ) (g : Said) → read_text program_form t ≡ fine (program_value g) → (unreadable program_form 0 t).place ≡ None
unfolding unreadable bad_line
read-fine t g e = rw (e, bad_line)

module _ (kept asked : List ℤ) (t : List ℕ) (r : Input) (numbers series query : List ℤ) (s : Stands kept asked t r numbers series query) where
  -- what the code asks of what was kept
  pub stands-sound : (n : ℕ) → Open r n → 1024 ≤ length asked → SoundEnd r numbers query
  unfolding Stands Open
  stands-sound n o room = by r s o
    where
      by : (x : Input) → Stands kept asked t x numbers series query → Open x n → SoundEnd x numbers query
      by (Input.Failed line) h k = tt
      by (Input.Going p line) h k =
          let d = holds_of kept asked numbers series query p (fed t) h.0 in
          let z = d.1.second in (
            record {
              few = omega arith;
              long = omega (arith, long_kept z, room);
              inside = λ e l. rw (all-kept z e (omega (arith, l))) (none-outside d.0.query (sym (out-is z) ∙ e));
            },
            rw d.1.alone (omega arith),
          )

  -- the table over what was kept refuses what the program's table refuses
  pub end_is : 1024 ≤ length asked → verdict (end_table r numbers query) ≡ verdict (program_table t)
  unfolding Stands end_table unreadable
  end_is room = by r s
    where
      bad : (m line : ℕ) → read_text program_form t ≡ unfit m → line ≡ line_of t m → Err (refusal (12, line)) ≡ verdict (program_table t)
      bad m line e l = ap (λ (k : ℕ). Err (refusal (12, k))) l ∙ sym (place_is (unreadable program_form 0 t) (call_lines (text_program t)) (unread t m e)) ∙ ap verdict (sym (table_is t))

      by : (x : Input) → Stands kept asked t x numbers series query → verdict (end_table x numbers query) ≡ verdict (program_table t)
      by (Input.Failed line) (m, (h, l)) = place_is (record { number = 12; place = Some line }) [] refl ∙ bad m line (program-failed kept asked t numbers series query m h) l
      by (Input.Going p line) (h, l) =
          by-test (is_done p.state)
          (λ d. let w = program-done kept asked t numbers series query p (is-done p.state d) h in
          rw d (place_none (record { number = 12; place = None }) (call_table p.series p.query (numbers_at numbers) query) refl)
          ∙ call-is w.2 room
          ∙ rw (table_is t, text-said t w.0 w.1) (sym (place_none (unreadable program_form 0 t) (call_lines (program_said (program_value w.0))) (read-fine t w.0 w.1))))
          (λ d. rw d (place_is (record { number = 12; place = Some line }) (call_table p.series p.query (numbers_at numbers) query) refl)
          ∙ bad p.at line (text-short program_form program_value program_start program-comes kept asked t numbers series query p (not_done p.state d) h) (l ∙ ap (line_of t) (sym (going-is kept asked t numbers series query p h))))

-- ---- what is asked

upto : {low k : ℕ} {z : ℤ} → Natural low k z → Upto k z
upto n = record { least = omega zarith; most = omega zarith }

pub passed-limited : (n m : ℕ) (x : Numbers) → AllPass (numbers_table n m x) → Limited x
unfolding open_lines numbers_table
passed-limited n m x h =
    let b = band-line m x.band (passed-line h 8) in
    let t = scale-line x.scale x.shift (passed-line h 10) in
    record {
      window = upto (window-line x.window n (passed-line h 3)).0;
      width = upto (width-line x.width (passed-line h 4));
      merge = upto (merge-line x.merge (passed-line h 5));
      band = record { least = b.low; most = omega (zarith, b.high, z-sub (pos m) (pos 1), query-few n m x h) };
      threshold = upto (threshold-line x.threshold (passed-line h 9));
      scale = upto t.0;
      shift = upto t.1;
    }

natural : {k : ℕ} (z : ℤ) → Upto k z → pos (nat_abs z) ≡ z
natural (pos n) h = refl
natural {k} (negsuc n) h = absurd (omega zarith)

-- nothing refuses: the call that the text gives
pub record Given (kept asked : List ℤ) (t : List ℕ) (p : Progress) (numbers series query : List ℤ) : Type 0 where
  pub limited : Limited (numbers_at numbers)
  pub few : p.series.count ≤ 4096
  pub short : p.query.count ≤ 1024
  pub call : text_program t ≡ call_of (take p.series.count series) (take p.query.count query) (asked_of (numbers_at numbers))

passed-parts : (v q : Values) (x : Numbers) (query : List ℤ) → AllPass (call_table v q x query) → AllPass (values_table v q) × AllPass (numbers_table v.count q.count x)
unfolding call_table
passed-parts v q x query h =
    let rest = flat_query (kind_of x.raw) (take q.count query) ∷ [] in
    let k = passed-both (values_table v q) (numbers_table v.count q.count x ++ rest) h in
    (k.0, (passed-both (numbers_table v.count q.count x) rest k.1).0)

-- what the lines say, in the types of the code
said-is : (g : Said) (numbers s q : List ℤ) → numbers ≡ numbers_of g → s ≡ g.series → q ≡ g.query → Limited (numbers_at numbers) → program_said (program_value g) ≡ call_of s q (asked_of (numbers_at numbers))
unfolding asked_of call_of program_said numbers_at
said-is g numbers s q e a b h =
    let x : Limited (numbers_at (numbers_of g)) = subst (λ (l : List ℤ). Limited (numbers_at l)) e h in
    rw (e, a, b) (sym (λ i. record {
      window = natural g.window x.window i;
      width = natural g.width x.width i;
      merge = natural g.merge x.merge i;
      series = g.series;
      query = g.query;
      ask = record {
        kind = kind-is g.raw i;
        band = natural g.band x.band i;
        threshold = natural g.threshold x.threshold i;
        scale = natural g.scale x.scale i;
        shift = natural g.shift x.shift i;
        pick = Pick.All;
      };
    }))

pub asked_is : (kept asked : List ℤ) (t : List ℕ) (p : Progress) (line : ℕ) (numbers series query : List ℤ) → Stands kept asked t (Input.Going p line) numbers series query → 4096 ≤ length kept → 1024 ≤ length asked
    → AllPass (end_table (Input.Going p line) numbers query) → Given kept asked t p numbers series query
unfolding Stands end_table open_lines
asked_is kept asked t p line numbers series query (s, l) long room h = by-test (is_done p.state) done (λ d. let k = rw d at (passed-line h 12) in let z : ◌≡◌ {A = ℕ} 0 1 = cc in absurd (omega arith))
  where
    done : is_done p.state ≡ true → Given kept asked t p numbers series query
    done d =
        let w = program-done kept asked t numbers series query p (is-done p.state d) s in
        let g = w.0 in
        let o = w.2 in
        let k = passed-parts p.series p.query (numbers_at numbers) query (passed-behind h 12) in
        let few = series-few p.series p.query k.0 in
        let short = query-few p.series.count p.query.count (numbers_at numbers) k.1 in
        let lim = passed-limited p.series.count p.query.count (numbers_at numbers) k.1 in
        let values = all-kept o.first (series-in p.series p.query k.0) (omega (arith, few, long)) in
        let curve = all-kept o.second (query-in p.series p.query k.0) (omega (arith, short, room)) in
        record {
          limited = lim;
          few = few;
          short = short;
          call = text-said t g w.1 ∙ said-is g numbers _ _ o.alone values curve lim;
        }
