-- Laws of specs/Whole.
use Rattle.meaning_numbers.proofs.Prelude.{◌≡◌, refl, sym, ap, ◌∙◌, List, None, ℕ, ℤ}
use Rattle.std.proofs.Common.{Result, Ok, Err}
use Rattle.meaning_text.specs.{Form.Form, Form.Value, Read.fine, Read.unfit, Read.read_text, Texts.program_form}
use Rattle.meaning_text.proofs.Automaton.{Fed, going, failed, feed, feed-failed, judged}
use Rattle.text_lines.specs.declared.State.{State}
use Rattle.text_lines.specs.Follow.{Said, nothing_said, Reading, step, program_start, program_value}
use Rattle.text_lines.proofs.Follow.{accept, accept_state, program-comes}
use Rattle.text_feed.specs.{declared.Progress.Progress, Keep.Holds, Keep.numbers_of, Feed.Shows, Feed.Comes, Whole.no_values}
use Rattle.text_feed.proofs.Keep.{kept-none}

pub holds-none : (kept asked : List ℤ) → Holds kept asked nothing_said (numbers_of nothing_said) no_values no_values kept asked
holds-none kept asked = record { alone = refl; first = kept-none kept; second = kept-none asked }

-- a piece behind another
pub shows_then : (kept asked : List ℤ) (p : Progress) (x : Fed Reading) (piece : List ℕ) (numbers series query : List ℤ) (r : Result Progress ℕ) (numbers' series' query' : List ℤ)
    → Shows kept asked (Ok p) x numbers series query → ((g : Said) → Comes p g kept asked piece numbers series query r numbers' series' query') → Shows kept asked r (feed step x piece) numbers' series' query'
unfolding Comes
shows_then kept asked p (going y n) piece numbers series query r numbers' series' query' s f = rw (s.0, s.1) at (f _ s.2)
shows_then kept asked p (failed n) piece numbers series query r numbers' series' query' s f = absurd s

pub shows-failed : (kept asked : List ℤ) (m : ℕ) (x : Fed Reading) (piece : List ℕ) (numbers series query numbers' series' query' : List ℤ)
    → Shows kept asked (Err m) x numbers series query → Shows kept asked (Err m) (feed step x piece) numbers' series' query'
shows-failed kept asked m (going y n) piece numbers series query numbers' series' query' s = absurd s
shows-failed kept asked m (failed n) piece numbers series query numbers' series' query' s = rw (feed-failed step piece n) s

-- what a text comes to
module _ (f : Form) (fin : Said → Value f) (start : Reading) (comes : (t : List ℕ) → read_text f t ≡ judged (accept fin) (feed step (going start 0) t)) (kept asked : List ℤ) (t : List ℕ) (numbers series query : List ℤ) where
  failed-by : (m : ℕ) (x : Fed Reading) → Shows kept asked (Err m) x numbers series query → judged (accept fin) x ≡ unfit m
  failed-by m (going y n) s = absurd s
  failed-by m (failed n) s = ap unfit (sym s)

  -- a byte was refused
  pub text-failed : (m : ℕ) → Shows kept asked (Err m) (feed step (going start 0) t) numbers series query → read_text f t ≡ unfit m
  text-failed m s = comes t ∙ failed-by m (feed step _ t) s

  done-by : (p : Progress) (x : Fed Reading) → p.state ≡ State.Done → Shows kept asked (Ok p) x numbers series query
      → (g : Said) × (judged (accept fin) x ≡ fine (fin g)) × Holds kept asked g numbers p.series p.query series query
  unfolding accept
  done-by p (going y n) e s = (y.said, rw (sym s.0 ∙ e), s.2)
  done-by p (failed n) e s = absurd s

  -- the text has ended where it may: what it says is what is kept
  pub text-done : (p : Progress) → p.state ≡ State.Done → Shows kept asked (Ok p) (feed step (going start 0) t) numbers series query
      → (g : Said) × (read_text f t ≡ fine (fin g)) × Holds kept asked g numbers p.series p.query series query
  text-done p e s = let d = done-by p (feed step _ t) e s in (d.0, comes t ∙ d.1, d.2)

  short-by : (p : Progress) (x : Fed Reading) → ((g : Said) → accept_state fin p.state g ≡ None) → Shows kept asked (Ok p) x numbers series query → judged (accept fin) x ≡ unfit p.at
  unfolding accept
  short-by p (going y n) e s = rw (← s.0, e _, s.1)
  short-by p (failed n) e s = absurd s

  -- the text was cut short
  pub text-short : (p : Progress) → ((g : Said) → accept_state fin p.state g ≡ None) → Shows kept asked (Ok p) (feed step (going start 0) t) numbers series query → read_text f t ≡ unfit p.at
  text-short p e s = comes t ∙ short-by p (feed step _ t) e s

-- the program's lines
pub program-failed : (kept asked : List ℤ) (t : List ℕ) (numbers series query : List ℤ) (m : ℕ) → Shows kept asked (Err m) (feed step (going program_start 0) t) numbers series query → read_text program_form t ≡ unfit m
program-failed = text-failed program_form program_value program_start program-comes

pub program-done : (kept asked : List ℤ) (t : List ℕ) (numbers series query : List ℤ) (p : Progress) → p.state ≡ State.Done → Shows kept asked (Ok p) (feed step (going program_start 0) t) numbers series query
    → (g : Said) × (read_text program_form t ≡ fine (program_value g)) × Holds kept asked g numbers p.series p.query series query
program-done = text-done program_form program_value program_start program-comes
