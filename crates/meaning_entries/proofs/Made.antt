-- What a build that is not refused makes passes against its series (`build-passes`); so does what an extension makes of an index that passes against the part of the series that it covers (`extend-passes`). Each has at most as many rows and runs as windows.
-- So what the search program lists is all matches (`program-all`).
use Rattle.meaning_numbers.proofs.Prelude.{◌≡◌, refl, Bool, not, List, None, ℕ, ◌≤◌, arith, T, ℤ, pos, nat_abs, ◌-ℤ◌, length, zarith, z-add, z-sub, not-not}
use Rattle.meaning_curves.specs.Limits.{most_values, most_program_values, length_in, first_outside}
use Rattle.meaning_rows.specs.{Build.built, Extend.extended}
use Rattle.meaning_rows.proofs.BuiltPasses.{Buildable, built-well-formed, built-filed, built-most}
use Rattle.meaning_rows.proofs.{Judge.is_within, Judge.WellFormed, Extend.Extendable, Extend.extended-well-formed, Extend.extended-filed, Extend.extended-most}
use Rattle.meaning_filter.specs.Matches.{all_matches}
use Rattle.meaning_filter.proofs.Matches.{all_found}
use Rattle.meaning_entries.specs.{Refusal.at_zero, Refusal.first_refusal, Refusal.window_outside, Refusal.width_outside, Buffers.IndexBuffers, Audit.Passes, Audit.PassesCovered, Build.BuildCall, Build.build_table, Build.build_refusal, Build.build_index, Build.build_windows, Search.question, Search.search_matches, Program.text_program, Program.call_lines, Program.program_table, Program.program_index, Program.program_search, Extend.ExtendCall, Extend.extend_table, Extend.extend_refusal, Extend.extend_index, Extend.extend_windows}
use Rattle.meaning_entries.proofs.{Refused.is-passed, Refused.open_lines, Refused.passed-line, Refused.not-if, Lines.long-line, Lines.window-line, Lines.width-line, Lines.formed-line, Lines.more-line, Lines.query-line, Lines.scale-line, Passes.Passed, Passes.passed, Passes.whole-reached, Passes.passes}

-- a test that does not refuse where its failing would
holds : (n : ℕ) (t : Bool) → (at_zero n (not t)).place ≡ None → T t
holds n t e = not-not t (not-if n (not t) e)

-- ---- a build

-- numbers in their limits, as their lines of a table say
limits-buildable : (s : List ℤ) (w d : ℤ) → length s ≤ most_values → first_outside s ≡ None → (window_outside w (length s)).place ≡ None → (width_outside d).place ≡ None → Buildable s (nat_abs w) (nat_abs d)
limits-buildable s w d short values t u =
    let i = window-line w _ t in
    let j = width-line d u in
    record {
      window = is_within 1 256 _ (record { is = refl; least = i.0.least; most = i.0.most });
      width = is_within 1 1000000 _ (record { is = refl; least = j.least; most = j.most });
      long = omega zarith;
      short = short;
      values = values;
    }

-- what is built of them
built-passed : (s : List ℤ) (w d g : ℕ) → Buildable s w d → Passed (built s w d g) s
unfolding built
built-passed s w d g k = record { formed = built-well-formed s w d g k; windows = omega arith; filed = built-filed s w d g k }

build-long : (c : BuildCall) (b : IndexBuffers) → build_refusal c b ≡ None → T (length_in most_values (length c.series))
unfolding open_lines build_table
build-long c b e = holds 1 (length_in most_values _) (passed-line (is-passed _ e) 1)

buildable : (c : BuildCall) (b : IndexBuffers) → build_refusal c b ≡ None → Buildable c.series (nat_abs c.window) (nat_abs c.width)
unfolding open_lines build_table
buildable c b e =
    let t = is-passed _ e in
    limits-buildable c.series _ _ (long-line most_values _ (passed-line t 1)).most (passed-line t 2) (passed-line t 3) (passed-line t 4)

pub build-passes : (c : BuildCall) (b : IndexBuffers) → build_refusal c b ≡ None → Passes (build_index c) c.series
unfolding build_index
build-passes c b e =
    let k = buildable c b e in
    passes _ _ (build-long c b e) k.values (built-passed _ _ _ _ k)

pub build-most : (c : BuildCall) (b : IndexBuffers) → build_refusal c b ≡ None → (length (build_index c).rows ≤ build_windows c) × (length (build_index c).runs ≤ build_windows c)
unfolding build_index
build-most c b e = built-most _ _ _ _ (buildable c b e)

-- ---- an extension

module _ (c : ExtendCall) (b : IndexBuffers) (e : extend_refusal c b ≡ None) where
  pub extend-formed : WellFormed c.index
  unfolding open_lines extend_table
  extend-formed = formed-line _ (passed-line (is-passed _ e) 20)

  extend-long : T (length_in most_values (length c.series))
  unfolding open_lines extend_table
  extend-long = holds 1 (length_in most_values _) (passed-line (is-passed _ e) 1)

  pub extendable : Extendable c.index c.series
  unfolding open_lines extend_table
  extendable =
      let t = is-passed _ e in
      let x = c.index in
      let s = c.series in
      let n = more-line x _ (passed-line t 22) in
      let p : x.window ≡ pos (nat_abs x.window) = extend-formed.head.window.is in
      let q : x.windows ≡ pos (nat_abs x.windows) = extend-formed.head.windows.is in
      record {
        longer = omega (zarith, z-add (pos (length s) -ℤ x.window) (pos 1), z-sub (pos (length s)) x.window);
        short = (long-line most_values (length s) (passed-line t 1)).most;
        values = passed-line t 2;
      }

  pub extend-passes : PassesCovered c.index c.series → Passes (extend_index c) c.series
  unfolding extend_index extended
  extend-passes p =
      let x = c.index in
      let s = c.series in
      passes _ s extend-long extendable.values (record {
        formed = extended-well-formed x s extend-formed extendable;
        windows = omega (arith, extendable.longer, extend-formed.head.windows.least);
        filed = extended-filed x s extend-formed extendable (passed x _ p).filed;
      })

  pub extend-most : (length (extend_index c).rows ≤ extend_windows c) × (length (extend_index c).runs ≤ extend_windows c)
  unfolding extend_index
  extend-most = extended-most _ _ extend-formed extendable

-- ---- the search program

program-buildable : (t : List ℕ) → first_refusal (program_table t) ≡ None → let c = text_program t in Buildable c.series (nat_abs c.window) (nat_abs c.width)
unfolding open_lines call_lines program_table
program-buildable t e =
    let p = is-passed _ e in
    limits-buildable _ _ _ (omega (arith, (long-line most_program_values _ (passed-line p 1)).most)) (passed-line p 2) (passed-line p 3) (passed-line p 4)

-- what it lists, where it does not refuse, is all matches
pub program-all : (t : List ℕ) → first_refusal (program_table t) ≡ None → let x = program_search (text_program t) in search_matches x ≡ all_matches (question x)
unfolding open_lines program_index build_index question call_lines program_table
program-all t e =
    let c = text_program t in
    let p = is-passed _ e in
    let y = built-passed c.series _ _ _ (program-buildable t e) in
    all_found _ _ (whole-reached _ c.series y)
    (query-line _ _ (passed-line p 6)).0.least (omega (arith, (scale-line _ _ (passed-line p 10)).0.least))
