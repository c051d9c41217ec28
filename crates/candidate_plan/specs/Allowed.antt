-- The plan over a lent index is the refusal of the search before it looks (`plan-is`). Where it refuses, that is the answer, and no buffer is altered (`plan-stops`). Where it does not, the call is within all limits (`allowed`), and what is left to decide is whether the list holds all matches (`goes_on`).
use Rattle.std.specs.Prelude.{ℕ, zero, suc, ◌+◌, ◌-◌, ◌<◌, ◌≤◌, eqb, ℤ, pos, length, false, List, ◌≡◌}
use Rattle.std.specs.Prelude.{None, Ok, Err}
use Rattle.std.specs.declared.result.Result.{Result}
use Rattle.std.proofs.Math.Path.{refl}
use Rattle.std.proofs.Common.{subst, arith}
use Rattle.meaning_numbers.proofs.{Rep.zarith, Rep.z-sub, Tests.clash}
use Rattle.meaning_curves.specs.{Curve.at, Curve.spread, Normal.flat}
use Rattle.meaning_curves.proofs.Values.{AllIn}
use Rattle.meaning_rows.specs.{declared.Row.Row, declared.Head.Head, Index.Index, Index.lent}
use Rattle.meaning_rows.proofs.Judge.{WellFormed}
use Rattle.meaning_filter.specs.{declared.Kind.Kind, declared.Limits.Limits, declared.Ask.Ask}
use Rattle.meaning_entries.specs.Search.{SearchCall, SearchBuffers, lent_search, list_room, search_plan, search_answer, search_after}
use Rattle.meaning_entries.specs.{declared.Refusal.Refusal, Refusal.first_refusal, Refusal.normal_flat, Refusal.more_windows, Buffers.pair_room}
use Rattle.meaning_entries.proofs.Lines.{long-line, values-line, query-line, below-line, band-line, threshold-line, scale-line, flat_line, formed-line, room-line}
use Rattle.meaning_entries.proofs.Refused.{AllPass, passed_is, open_lines, passed-line, passed-behind}
use Rattle.meaning_entries.proofs.Looked.{plan-refused}
use Rattle.rows_judge.specs.Judged.{judged_of, bad-row}
use Rattle.refusals.specs.Refusal.{verdict, judged-line, passes, refuses}
use Rattle.candidate_plan.specs.Tables.{values_table, numbers_table, input_table, windows_table, state_table, plan_of}
pub use Rattle.meaning_curves.specs.Limits.{most_values, longest_window}

-- a search within all limits, over an index that is well formed, with room for candidates and scratch
pub record Allowed (s : List ℤ) (h : Head) (x : Index) (ask : Ask) (q : List ℤ) (candidates scratch : ℕ) : Type 0 where
  pub values : AllIn s
  pub query : AllIn q
  pub long : length s ≤ 1048576
  pub some : 0 < length q
  pub few : length q ≤ 1024
  pub inside : length q ≤ length s
  pub window : h.window ≤ length q
  pub band : ask.limits.band < length q
  pub threshold : ask.limits.threshold ≤ 1000000000000
  pub scale-low : 10 ≤ ask.limits.scale
  pub scale-high : ask.limits.scale ≤ 100
  pub shift : ask.limits.shift ≤ 20000
  pub not-flat : ask.kind ≡ Kind.Normal → 0 < spread (at q) (length q)
  pub formed : WellFormed x
  pub candidates-fit : length s + 1 - h.window ≤ candidates
  pub scratch-fits : length s + 1 - h.window ≤ scratch

not-flat-some : (q : List ℤ) → flat (at q) (length q) ≡ false → 0 < spread (at q) (length q)
not-flat-some q e = by (spread (at q) (length q)) e
  where
    by : (a : ℕ) → eqb a 0 ≡ false → 0 < a
    by zero u = clash refl u
    by (suc a) u = omega arith

module _ (s : List ℤ) (h : Head) (rows : List Row) (left right : List ℕ) (ask : Ask) (q : List ℤ) (b : SearchBuffers) where
  abbrev l : Limits
  l = ask.limits

  abbrev X : Index
  X = lent h rows left right

  abbrev call : SearchCall
  call = lent_search s h rows left right ask q

  -- the plan, where the index is judged
  abbrev pub the_plan : Result (Unit {0}) Refusal
  the_plan = plan_of s h (judged_of X) ask q (list_room b) (pair_room b.left b.right) (length b.scratch)

  pub plan-is : the_plan ≡ verdict (search_plan call b)
  unfolding plan_of search_plan input_table values_table numbers_table state_table windows_table more_windows
  plan-is = rw (judged-line X (judged_of X) (bad-row X)) refl

  pub plan-stops : {r : Refusal} → the_plan ≡ Err r → (search_answer call b ≡ Err r) × (search_after call b ≡ b)
  plan-stops e = plan-refused call b (refuses (search_plan call b) plan-is e)

  module _ (z : the_plan ≡ Ok tt) where
    t : AllPass (search_plan call b)
    t = passes (search_plan call b) plan-is z

    pub goes_on : first_refusal (search_plan call b) ≡ None
    goes_on = passed_is t

    abbrev n : ℕ
    n = length s

    abbrev m : ℕ
    m = length q

    curved : ask.kind ≡ Kind.Normal → 0 < spread (at q) m
    unfolding open_lines search_plan normal_flat
    curved e = not-flat-some q (subst (λ (k : Kind). normal_flat k q ≡ false) e (flat_line ask.kind q (passed-line t 11)))

    well : WellFormed X
    unfolding open_lines search_plan
    well = formed-line X (passed-line t 20)

    pub allowed : Allowed s h X ask q (pair_room b.left b.right) (length b.scratch)
    unfolding open_lines search_plan
    allowed =
        let length-in = query-line m n (passed-line t 6) in
        let limits-in = scale-line (pos l.scale) (pos l.shift) (passed-line t 10) in
        record {
          values = values-line s (passed-line t 2);
          query = values-line q (passed-line (passed-behind t 2) 2);
          long = (long-line most_values n (passed-line t 1)).most;
          some = length-in.0.least;
          few = length-in.0.most;
          inside = length-in.1;
          window = omega (zarith, below-line m (pos h.window) (passed-line t 7));
          band = omega (zarith, (band-line m (pos l.band) (passed-line t 8)).high, z-sub (pos m) (pos 1));
          threshold = (threshold-line (pos l.threshold) (passed-line t 9)).most;
          scale-low = limits-in.0.least;
          scale-high = limits-in.0.most;
          shift = limits-in.1.most;
          not-flat = curved;
          formed = well;
          candidates-fit = room-line _ _ (passed-line (passed-behind t 23) 23);
          scratch-fits = room-line _ _ (passed-line (passed-behind (passed-behind t 23) 23) 23);
        }
