-- What the table over what was kept says of the text.
use Rattle.std.specs.Prelude.{Err}
use Rattle.std.specs.declared.result.Result.{Result}
use Rattle.meaning_numbers.proofs.Prelude.{◌≡◌, refl, sym, ap, ◌∙◌, true, false, not, None, List, [], ℕ, ◌+◌, ◌<◌, ◌≤◌, ◌^◌, arith, ℤ, pos, negsuc, w64, to_z, length, lt_z, le_z, lt_z-true, lt_z-false, z-cast, up, dn, by-test}
use Rattle.meaning_curves.specs.Limits.{most_program_values}
use Rattle.meaning_entries.specs.{declared.Refusal.Refusal, Answers.refusal, Refusal.Condition}
use Rattle.meaning_entries.proofs.Refused.{AllPass, open_lines, passed-line, passed-behind}
use Rattle.meaning_entries.proofs.Lines.{long-line, query-line}
use Rattle.refusals.specs.Refusal.{verdict}
use Rattle.refusals.proofs.RefusalLaws.{place_is, place_none}
use Rattle.text_feed.specs.{declared.Values.Values, declared.Progress.Progress}
use Rattle.text_feed.proofs.Keep.{gt-le_z, le-le_z}
use Rattle.program_input.specs.Tables.{numbers_at, first_out, values_table, numbers_table, call_table, is_done, end_table, Sound, SoundEnd}
use Rattle.program_input.specs.{declared.Input.Input, declared.Numbers.Numbers}

-- a number is above another exactly where it is not at most that
pub not-le : (z y : ℤ) → lt_z y z ≡ not (le_z z y)
not-le z y = by-test (lt_z y z) (λ e. rw (e, gt-le_z (lt_z-true e))) (λ e. rw (e, le-le_z (lt_z-false e)))

-- a count as a signed number
pub cast_is : (n : ℕ) → n < 2 ^ 63 → to_z w64 n ≡ pos n
cast_is n h = by _ (z-cast n h)
  where
    by : (z : ℤ) → up z ≡ n + dn z → z ≡ pos n
    by (pos k) e = ap pos (omega (arith, e))
    by (negsuc k) e = absurd (omega (arith, e))

-- ---- the end of the input, as the code goes

-- what is known where values and numbers pass
pub series-few : (v q : Values) → AllPass (values_table v q) → v.count ≤ 4096
unfolding open_lines values_table
series-few v q h = (long-line most_program_values v.count (passed-line h 1)).most

pub series-in : (v q : Values) → AllPass (values_table v q) → first_out v ≡ None
unfolding open_lines values_table
series-in v q h = passed-line h 2

pub query-in : (v q : Values) → AllPass (values_table v q) → first_out q ≡ None
unfolding open_lines values_table
query-in v q h = passed-line (passed-behind h 2) 2

pub query-few : (n m : ℕ) (x : Numbers) → AllPass (numbers_table n m x) → m ≤ 1024
unfolding open_lines numbers_table
query-few n m x h = (query-line m n (passed-line h 6)).0.most

module _ {r : Input} (numbers query : List ℤ) where
  pub end-failed : {line : ℕ} → r ≡ Input.Failed line → Err (refusal (12, line)) ≡ verdict (end_table r numbers query)
  unfolding end_table
  end-failed {line} e = rw (e, end_table) (sym (place_is _ [] refl))

  module _ {p : Progress} {line : ℕ} (e : r ≡ Input.Going p line) where
    abbrev rest : List Condition
    rest = call_table p.series p.query (numbers_at numbers) query

    pub end_short : is_done p.state ≡ false → Err (refusal (12, line)) ≡ verdict (end_table r numbers query)
    unfolding end_table
    end_short d = rw (e, end_table) (sym (place_is _ rest (rw d)))

    pub end-done : {w : Result (Unit {0}) Refusal} → is_done p.state ≡ true → w ≡ verdict rest → w ≡ verdict (end_table r numbers query)
    unfolding end_table
    end-done d f = f ∙ rw (e, end_table) (sym (place_none _ rest (rw d)))

    pub sound-end : SoundEnd r numbers query → Sound p.query query × (8 ≤ length numbers)
    sound-end h = rw e at h
