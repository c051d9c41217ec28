-- A series line fed in one piece comes to what the form says of it (`line-going`, `line-failed`).
use Prim.Native.Nat.{ℕ, ◌<◌, ◌^◌}
use lib.IntN.{ℤ, pos}
use mathlib.Core.List.{List, [], ◌∷◌}
use mathlib.Core.Path.{◌≡◌, refl, sym, ap, ◌∙◌}
use native.Mathlib.Omega.{arith}
use Rattle.std.proofs.Common.{Result, Ok, Err}
use Rattle.meaning_text.specs.{Read.fine, Read.unfit, Read.read_text, Texts.series_form}
use Rattle.meaning_text.proofs.Automaton.{Fed, going, failed, feed, at_end, judged}
use Rattle.text_lines.specs.declared.State.{State}
use Rattle.text_lines.specs.Follow.{Said, nothing_said, Reading, step, series_start, series_value}
use Rattle.text_lines.proofs.Follow.{accept_state, accept, series-good, series-comes}
use Rattle.text_feed.specs.{declared.Progress.Progress, Keep.stored, Keep.Holds, Feed.Ready, Feed.Shows, Feed.Comes}
use Rattle.text_feed.proofs.Keep.{kept-none}
use Rattle.payout_line.specs.{Line.start_line, Line.line_end, Line.line_read, Line.Stored}

-- the single numbers before anything is said
abbrev pub no_numbers : List ℤ
no_numbers = pos 0 ∷ pos 0 ∷ pos 0 ∷ pos 0 ∷ pos 0 ∷ pos 0 ∷ pos 0 ∷ pos 1 ∷ []

pub start-ready : (n : ℕ) → n < 2 ^ 63 → Ready start_line n
start-ready n h = record { good = series-good; series = omega arith; query = omega arith; room = omega (arith, h) }

holds-none : (series query : List ℤ) → Holds series query nothing_said no_numbers start_line.series start_line.query series query
holds-none series query = record { alone = refl; first = kept-none series; second = kept-none query }

fine-same : {A : Type 0} {a b : A} → fine a ≡ fine b → a ≡ b
fine-same e = cc

unfit-fine : {A X : Type 0} {a : A} {n : ℕ} → unfit n ≡ fine a → X
unfit-fine q = let z : ◌≡◌ {A = ℕ} 0 1 = cc in absurd (omega arith)

module _ (t : List ℕ) (before after query numbers' query' : List ℤ) where
  -- what is promised of a line
  abbrev pub Read : Result ℕ ℕ → Type 0
  Read r = (r ≡ line_read (read_text series_form t)) × Stored t before after

  unread : (n : ℕ) → read_text series_form t ≡ unfit n → (m : ℕ) → m ≡ n → Read (Err m)
  unfolding Stored
  unread n r m e = (ap Err e ∙ sym (ap line_read r), λ v q. unfit-fine (sym r ∙ q))

  pub line-failed : (n : ℕ) → Comes start_line nothing_said before query t no_numbers before query (Err n) numbers' after query' → Read (Err n)
  unfolding Comes
  line-failed n c = by (feed step (going series_start 0) t) refl (c (holds-none before query))
    where
      by : (f : Fed Reading) → feed step (going series_start 0) t ≡ f → Shows before query (Err n) f numbers' after query' → Read (Err n)
      by (going x p) e s = absurd s
      by (failed m) e s = unread m (series-comes t ∙ ap (judged (accept series_value)) e) n s

  ends : (p : Progress) (s : State) (g : Said) (n : ℕ) → p.state ≡ s → p.at ≡ n → Holds before query g numbers' p.series p.query after query' → read_text series_form t ≡ at_end (accept_state series_value s g) n → Read (line_end p.state p.at p.series.count)
  unfolding Stored
  ends p (State.In w k) g n e a h r = rw e (unread n r p.at a)
  ends p (State.At q k) g n e a h r = rw e (unread n r p.at a)
  ends p (State.Before b) g n e a h r = rw e (unread n r p.at a)
  ends p State.Done g n e a h r = rw e (ap Ok h.first.count ∙ sym (ap line_read r), λ v q. h.first.lies ∙ ap (stored before) (fine-same (sym r ∙ q)))

  pub line-going : (p : Progress) → Comes start_line nothing_said before query t no_numbers before query (Ok p) numbers' after query' → Read (line_end p.state p.at p.series.count)
  unfolding Comes accept
  line-going p c = by (feed step (going series_start 0) t) refl (c (holds-none before query))
    where
      by : (f : Fed Reading) → feed step (going series_start 0) t ≡ f → Shows before query (Ok p) f numbers' after query' → Read (line_end p.state p.at p.series.count)
      by (going x n) e s = ends p x.state x.said n s.0 s.1 s.2 (series-comes t ∙ ap (judged (accept series_value)) e)
      by (failed m) e s = absurd s
