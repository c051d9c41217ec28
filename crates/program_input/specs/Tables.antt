-- The program's refusals in order, over what was kept of its lines: counts of values, how many stand before the first outside, the single numbers, the kept query.
use Rattle.std.specs.Prelude.{ℕ, ◌<◌, ◌≤◌, ◌^◌, ltb, ℤ, pos, nat_abs, length, get_or, take, ◌≤ℤ◌, Bool, true, false, cond, List, [], ◌∷◌, ◌++◌, ◌≡◌}
use Rattle.std.specs.Int.Signed.{lt_z}
use Rattle.std.specs.declared.option.Option.{Option}
use Rattle.std.specs.Prelude.{None, Some}
use Rattle.meaning_curves.specs.Limits.{most_program_values}
use Rattle.meaning_curves.proofs.Values.{AllIn}
use Rattle.meaning_filter.specs.{declared.Kind.Kind, declared.Pick.Pick}
use Rattle.meaning_text.specs.Texts.{kind_said}
use Rattle.meaning_entries.specs.{Refusal.Condition, Refusal.at_place, Refusal.length_outside, Refusal.flat_query, Build.width_lines, Search.Asking, Search.lent_ask, Search.plain_ask, Search.limit_lines, Program.ProgramCall}
use Rattle.text_lines.specs.declared.State.{State}
use Rattle.text_feed.specs.declared.Values.{Values}
use Rattle.program_input.specs.{declared.Input.Input, declared.Numbers.Numbers, declared.Asked.Asked}

-- the numbers at their places
unfoldable pub numbers_at : List ℤ → Numbers
numbers_at l = record {
  window = get_or l 0 (pos 0);
  width = get_or l 1 (pos 0);
  merge = get_or l 2 (pos 0);
  band = get_or l 3 (pos 0);
  threshold = get_or l 4 (pos 0);
  scale = get_or l 5 (pos 0);
  shift = get_or l 6 (pos 0);
  raw = get_or l 7 (pos 0);
}

-- 1 is a raw query, 0 a normalised one
abbrev pub kind_of : ℤ → Kind
kind_of z = kind_said (lt_z (pos 0) z)

-- what they ask of the search
abbrev pub asks_of : Numbers → Asking
asks_of x = record { kind = kind_of x.raw; band = x.band; threshold = x.threshold; scale = x.scale; shift = x.shift; pick = Pick.All }

-- the place of the first value outside its limits
abbrev pub first_out : Values → Option ℕ
first_out v = cond (ltb v.inside v.count) (Some v.inside) None

-- 1 and 2
unfoldable pub values_table : Values → Values → List Condition
values_table v q = length_outside most_program_values v.count ∷ at_place 2 (first_out v) ∷ at_place 2 (first_out q) ∷ []

-- 3 to 10, for a series of n values and a query of m
unfoldable pub numbers_table : ℕ → ℕ → Numbers → List Condition
numbers_table n m x = width_lines n x.window x.width x.merge ++ limit_lines n m x.window (asks_of x)

-- 1 to 11
unfoldable pub call_table : Values → Values → Numbers → List ℤ → List Condition
call_table v q x query = values_table v q ++ (numbers_table v.count q.count x ++ (flat_query (kind_of x.raw) (take q.count query) ∷ []))

-- a text may end here
abbrev pub is_done : State → Bool
is_done (State.In w k) = false
is_done (State.At p n) = false
is_done (State.Before t) = false
is_done State.Done = true

-- all, at the end of the input
unfoldable pub end_table : Input → List ℤ → List ℤ → List Condition
end_table (Input.Failed line) numbers query = at_place 12 (Some line) ∷ []
end_table (Input.Going p line) numbers query = at_place 12 (cond (is_done p.state) None (Some line)) ∷ call_table p.series p.query (numbers_at numbers) query

-- ---- what the code asks of what was kept

-- the query that was kept, where all of it is kept and in the limits
pub record Sound (q : Values) (query : List ℤ) : Type 0 where
  pub few : q.count < 2 ^ 63
  pub long : 1024 ≤ length query
  pub inside : first_out q ≡ None → q.count ≤ 1024 → AllIn (take q.count query)

abbrev pub SoundEnd : Input → List ℤ → List ℤ → Type 0
SoundEnd (Input.Failed line) numbers query = Unit {0}
SoundEnd (Input.Going p line) numbers query = Sound p.query query × (8 ≤ length numbers)

-- a number from 0 on, at most k
pub record Upto (k : ℕ) (z : ℤ) : Type 0 where
  pub least : pos 0 ≤ℤ z
  pub most : z ≤ℤ pos k

pub record Limited (x : Numbers) : Type 0 where
  pub window : Upto 256 x.window
  pub width : Upto 1000000 x.width
  pub merge : Upto 100 x.merge
  pub band : Upto 1023 x.band
  pub threshold : Upto 1000000000000 x.threshold
  pub scale : Upto 100 x.scale
  pub shift : Upto 20000 x.shift

-- ---- what is asked

-- the numbers in their types
unfoldable pub asked_of : Numbers → Asked
asked_of x = record {
  window = nat_abs x.window;
  width = nat_abs x.width;
  merge = nat_abs x.merge;
  ask = plain_ask (asks_of x);
}

-- the call of the program
unfoldable pub call_of : List ℤ → List ℤ → Asked → ProgramCall
call_of s q a = record {
  window = pos a.window;
  width = pos a.width;
  merge = pos a.merge;
  series = s;
  query = q;
  ask = lent_ask a.ask;
}
