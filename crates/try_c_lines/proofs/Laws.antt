-- Pieces one behind another come to what the text to there comes to (`begins`, `goes_on`, `fails`, `ends`), and what a whole text comes to is what is told (`told`).
use Rattle.std.specs.declared.result.Result.{Result}
use Rattle.std.specs.Prelude.{Ok, Err}
use Rattle.meaning_numbers.proofs.Prelude.{ℕ, ◌+◌, ◌-◌, ◌≤◌, ℤ, length, take, drop, take-append-drop, take-add, take-length, Bool, true, false, List, ◌≡◌, refl, sym, ap, subst, ◌∙◌, arith}
use Rattle.meaning_text.specs.{Form.Form, Form.Value, Read.read_text, Texts.series_form, Texts.program_form}
use Rattle.meaning_text.proofs.Automaton.{going, feed, feed-append, judged}
use Rattle.text_lines.specs.Follow.{Said, Reading, step, program_start, series_start, program_value, series_value}
use Rattle.text_lines.specs.{declared.Word.Word, declared.State.State}
use Rattle.text_lines.proofs.{Step.word-long, Follow.accept, Follow.program-comes, Follow.series-comes}
use Rattle.text_feed.specs.{declared.Progress.Progress, Feed.Shows, Feed.Comes as Takes}
use Rattle.text_feed.proofs.{Keep.kept-none, Whole.shows_then, Whole.shows-failed, Whole.text-failed, Whole.text-done, Whole.text-short}
use Rattle.try_c_lines.specs.Told.{TextTold, says, bad, LinesTold, answer_told, end_told}
use Rattle.try_c_lines.specs.Piece.{start_of, begun, Stands, Fed as Piece}
use Rattle.try_c_lines.proofs.PieceLaws.{Comes}

-- ---- piece by piece

pub begun-comes : (program : Bool) (text : List ℕ) (numbers series query : List ℤ) → Comes program (take 0 text) numbers series query (Ok (begun program)) numbers series query
unfolding feed
begun-comes true text numbers series query = record { shows = λ h. (refl, refl, record { alone = h; first = kept-none series; second = kept-none query }) }
begun-comes false text numbers series query = record { shows = λ h. (refl, refl, record { alone = h; first = kept-none series; second = kept-none query }) }

module _ (program : Bool) (text : List ℕ) {numbers₀ series₀ query₀ numbers series query numbers' series' query' : List ℤ} {p : Progress} (r : Result Progress ℕ) where
  -- a piece more
  pub piece-comes : (end : ℕ) → p.at ≤ end → Comes program (take p.at text) numbers₀ series₀ query₀ (Ok p) numbers series query
      → ((g : Said) (kept asked : List ℤ) → Takes p g kept asked (take (end - p.at) (drop p.at text)) numbers series query r numbers' series' query')
      → Comes program (take end text) numbers₀ series₀ query₀ r numbers' series' query'
  piece-comes end l c d = record {
    shows = λ h.
        let k = end - p.at in
        let e : p.at + k ≡ end = omega arith in
        let s = shows_then series₀ query₀ p (feed step _ (take p.at text)) _ numbers series query r numbers' series' query' (c.shows h) (λ g. d g series₀ query₀) in
        let q = sym (feed-append step (take p.at text) _ _) ∙ ap (feed step (going (start_of program) 0)) (sym (take-add p.at k text) ∙ ap (λ (n : ℕ). take n text) e) in
        rw q at s;
  }

-- where a byte was refused, the rest changes nothing
pub failed-comes : (program : Bool) (text : List ℕ) {numbers series query numbers' series' query' : List ℤ} (end m : ℕ) → Comes program (take end text) numbers series query (Err m) numbers' series' query'
    → Comes program text numbers series query (Err m) numbers' series' query'
failed-comes program text {series = series} {query} {numbers'} {series'} {query'} end m c = record {
  shows = λ h.
      let s = shows-failed series query m (feed step _ (take end text)) (drop end text) numbers' series' query' numbers' series' query' (c.shows h) in
      rw (sym (feed-append step (take end text) _ _) ∙ ap (feed step (going (start_of program) 0)) (take-append-drop end text)) at s;
}

-- ---- the whole text

module _ (f : Form) (value : Said → Value f) (start : Reading) (comes : (t : List ℕ) → read_text f t ≡ judged (accept value) (feed step (going start 0) t)) (text : List ℕ) {series query numbers' series' query' : List ℤ} where
  text-end : (p : Progress) (s : State) → p.state ≡ s → Shows series query (Ok p) (feed step (going start 0) text) numbers' series' query' → TextTold f value text series query (end_told text p s) numbers' series' query'
  text-end p (State.In w k) e c = bad p.at (text-short f value start comes series query text numbers' series' query' p (λ g. rw e) c) refl
  text-end p (State.At q n) e c = bad p.at (text-short f value start comes series query text numbers' series' query' p (λ g. rw e) c) refl
  text-end p (State.Before t) e c = bad p.at (text-short f value start comes series query text numbers' series' query' p (λ g. rw e) c) refl
  text-end p State.Done e c = let d = text-done f value start comes series query text numbers' series' query' p e c in says d.0 d.1 refl d.2

  text-told : (r : Result Progress ℕ) → Shows series query r (feed step (going start 0) text) numbers' series' query' → TextTold f value text series query (answer_told text r) numbers' series' query'
  text-told (Ok p) c = text-end p _ refl c
  text-told (Err m) c = bad m (text-failed f value start comes series query text numbers' series' query' m c) refl

-- what is told of what a text comes to
pub told : (text : List ℕ) {numbers series query numbers' series' query' : List ℤ} (program : Bool) (r : Result Progress ℕ) → Comes program text numbers series query r numbers' series' query' → LinesTold program text numbers series query (answer_told text r) numbers' series' query'
told text true r c = λ h. text-told program_form program_value program_start program-comes text r (c.shows h)
told text false r c = λ h. text-told series_form series_value series_start series-comes text r (c.shows h)

-- ---- as the code goes

begun-stands : (program : Bool) (n : ℕ) → Stands n (begun program)
begun-stands true n = record { good = word-long Word.Window; series = omega arith; query = omega arith; inside = omega arith }
begun-stands false n = record { good = word-long Word.Line; series = omega arith; query = omega arith; inside = omega arith }

pub begins : {p : Progress} (program : Bool) (text : List ℕ) (numbers series query : List ℤ) → p ≡ begun program → Stands (length text) p × Comes program (take p.at text) numbers series query (Ok p) numbers series query
begins program text numbers series query e = rw e (begun-stands program _, begun-comes program text numbers series query)

module _ {program : Bool} {text : List ℕ} {numbers₀ series₀ query₀ numbers series query numbers' series' query' : List ℤ} {p : Progress} {r : Result Progress ℕ} {end : ℕ}
    (c : Comes program (take p.at text) numbers₀ series₀ query₀ (Ok p) numbers series query) (f : Piece text end p r numbers series query numbers' series' query') (l : p.at ≤ end) where
  fed-comes : Comes program (take end text) numbers₀ series₀ query₀ r numbers' series' query'
  fed-comes = piece-comes program text r end l c f.comes

  pub goes_on : {n : Progress} → r ≡ Ok n → end ≤ length text → Stands (length text) n × Comes program (take n.at text) numbers₀ series₀ query₀ (Ok n) numbers' series' query'
  goes_on {n} e i =
      let g = rw e at f.good in
      (record { good = g.0; series = g.1; query = g.2; inside = omega arith }, subst (λ (k : ℕ). Comes program (take k text) numbers₀ series₀ query₀ (Ok n) numbers' series' query') (sym g.3) (rw e at fed-comes))

  pub fails : {m : ℕ} → r ≡ Err m → Comes program text numbers₀ series₀ query₀ (Err m) numbers' series' query'
  fails {m} e = failed-comes program text end m (rw e at fed-comes)

  pub ends : end ≡ length text → Comes program text numbers₀ series₀ query₀ r numbers' series' query'
  ends e = rw (take-length text) at (rw e at fed-comes)
