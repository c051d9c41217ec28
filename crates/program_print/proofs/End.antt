-- The end of the input: what refuses is printed (`refused_end`), and where nothing does, what was read is what the program was asked (`call-free`), and what it prints then is what document 01 says (`printed-end`).
use Prim.Native.Nat.{ℕ, ◌+◌, ◌<◌, ◌^◌}
use lib.IntN.{ℤ}
use lib.ListN.{length, take}
use lib.Seq.{take-append_seam}
use mathlib.Core.List.{List}
use mathlib.Core.Path.{◌≡◌, refl, sym, ap, ◌∙◌, subst}
use native.Mathlib.Omega.{arith}
use Rattle.std.specs.Prelude.{Ok, Err}
use Rattle.meaning_text.specs.Texts.{refused_text}
use Rattle.meaning_entries.specs.Program.{ProgramCall, call_lines, program_table, printed, program}
use Rattle.meaning_entries.proofs.Refused.{AllPass, passed_is, open_lines, passed-line, passed-behind}
use Rattle.meaning_entries.specs.declared.Refusal.{Refusal}
use Rattle.refusals.specs.Refusal.{verdict, passes, refuses}
use Rattle.text_put.specs.Put.{Put}
use Rattle.text_put.proofs.Put.{put-room, put-length}
use Rattle.text_feed.specs.declared.Progress.{Progress}
use Rattle.program_input.specs.Tables.{numbers_at, end_table, SoundEnd, asked_of, call_of}
use Rattle.program_input.specs.{declared.Input.Input, Input.Stands}
use Rattle.program_input.proofs.Says.{stands-sound, end_is, Given, asked_is}
use Rattle.program_answer.specs.Finish.{Prints, Reached, Finishes}
use Rattle.program_answer.proofs.Sizes.{refused-size}

pub sound-here : (r : Input) (numbers series query : List ℤ) → Reached r numbers series query → SoundEnd r numbers query
sound-here r numbers series query h = stands-sound _ _ _ r numbers series query h.stands 0 h.opened (omega arith)

-- a refusal
pub refused_end : (r : Input) (numbers series query : List ℤ) (w : Refusal) (old new : List ℕ) (to : ℕ) → Err w ≡ verdict (end_table r numbers query) → w.number < 2 ^ 32 → w.place < 2 ^ 64
    → length old ≡ 1048576 → Put old 0 (refused_text w.number w.place) new to → Finishes r numbers series query new to
unfolding program
refused_end r numbers series query w old new to e n p long put =
    let room = refused-size w.number w.place n p in
    let z = put-room put (omega arith) in
    let l = put-length put in
    record {
      within = omega (arith, l);
      is = λ kept asked t hk ha s.
          let g = refuses (program_table t) (e ∙ end_is kept asked t r numbers series query s (omega (arith, ha))) refl in
          let text = refused_text w.number w.place in
          let o : 0 + length text ≡ length text = omega arith in
          let b : take to new ≡ text = rw (z.1, z.0, o) (take-append_seam text _) in
          let q : program t ≡ text = rw (g, program) in
          record { printed = b ∙ sym q };
    }

-- ---- nothing refuses

module _ (r : Input) (numbers series query : List ℤ) (e : Ok tt ≡ verdict (end_table r numbers query)) where
  free : AllPass (end_table r numbers query)
  free = passes (end_table r numbers query) e refl

  pub not-failed : {line : ℕ} {B : Type 0} → r ≡ Input.Failed line → B
  unfolding open_lines end_table
  not-failed {line} g = let k = passed-line (rw (g, end_table) at free) 12 in let o : ◌≡◌ {A = ℕ} 0 1 = cc in absurd (omega arith)

  module _ {p : Progress} {line : ℕ} (g : r ≡ Input.Going p line) where
    module _ (kept asked : List ℤ) (t : List ℕ) (long : length kept ≡ 4096) (short : length asked ≡ 1024) (s : Stands kept asked t r numbers series query) where
      given : Given kept asked t p numbers series query
      given = asked_is kept asked t p line numbers series query (rw g at s) (omega arith) (omega arith) (rw g at free)

      program-free : AllPass (program_table t)
      program-free = passes (program_table t) (e ∙ end_is kept asked t r numbers series query s (omega arith)) refl

    pub given-here : (h : Reached r numbers series query) → Given h.kept h.asked h.text p numbers series query
    given-here h = given _ _ _ h.long h.short h.stands

    pub call-free : Reached r numbers series query → AllPass (call_lines (call_of (take p.series.count series) (take p.query.count query) (asked_of (numbers_at numbers))))
    unfolding open_lines program_table
    call-free h =
        let f = program-free h.kept h.asked _ h.long h.short h.stands in
        subst (λ (c : ProgramCall). AllPass (call_lines c)) (given-here h).call (passed-behind f 12)

    pub printed-end : (new : List ℕ) (to : ℕ) → Prints (printed (call_of (take p.series.count series) (take p.query.count query) (asked_of (numbers_at numbers)))) new to → Finishes r numbers series query new to
    unfolding program
    printed-end new to h = record {
      within = h.within;
      is = λ kept asked t hk ha s. record { printed = h.is ∙ sym (ap printed (given kept asked t hk ha s).call) ∙ sym (rw (passed_is (program-free kept asked t hk ha s), program)) };
    }
