-- Laws of specs/Input.
use Rattle.std.specs.Prelude.{Ok, Err}
use Rattle.std.specs.declared.result.Result.{Result}
use Rattle.meaning_numbers.proofs.Prelude.{◌≡◌, refl, sym, ap, ◌∙◌, List, [], ◌∷◌, ◌++◌, Option, ℕ, suc, ◌+◌, ◌-◌, ◌<◌, ◌≤◌, ◌^◌, arith, ℤ, length, take, length-append, length-take, take-append-le, take-length}
use Rattle.meaning_text.specs.{Bytes.newlines, Read.line_of}
use Rattle.meaning_text.proofs.Lines.{newlines-length, line-behind}
use Rattle.meaning_text.proofs.Automaton.{Fed, going, failed, feed, feed-append, feed-failed, on-option}
use Rattle.text_lines.specs.{declared.Word.Word, Follow.Said, Follow.nothing_said, Follow.Reading, Follow.step, Follow.program_start}
use Rattle.text_lines.proofs.Step.{word-long}
use Rattle.text_feed.specs.{declared.Progress.Progress, Keep.numbers_of, Feed.Ready, Feed.GoodFeeding, Feed.Shows, Feed.Comes}
use Rattle.text_feed.proofs.Whole.{holds-none, shows_then, shows-failed}
use Rattle.program_input.specs.{declared.Input.Input, Input.fed, Input.Stands, Input.Open, Input.start, Input.ReadOn}

-- where the automaton stands
abbrev Placed : {S : Type 0} → ℕ → ℕ → Fed S → Type 0
Placed k n (going s p) = p ≡ k + n
Placed k n (failed m) = (k ≤ m) × (m < k + n)

placed-suc : {S : Type 0} (k n : ℕ) (x : Fed S) → Placed (suc k) n x → Placed k (suc n) x
placed-suc k n (going s p) h = omega (arith, h)
placed-suc k n (failed m) h = (omega arith, omega arith)

placed : {S : Type 0} (f : S → ℕ → Option S) (t : List ℕ) (s : S) (k : ℕ) → Placed k (length t) (feed f (going s k) t)
unfolding feed
placed f [] s k = omega arith
placed f (b ∷ t) s k =
    on-option (f s b)
    (λ n e. rw e (placed-suc k _ (feed f _ t) (placed f t n (suc k))))
    (λ e. rw (e, feed-failed f t k) (omega arith, omega arith))

fed-both : (t piece : List ℕ) → feed step (fed t) piece ≡ fed (t ++ piece)
fed-both t piece = sym (feed-append step t piece _)

-- lines
line-end : (t : List ℕ) → line_of t (length t) ≡ suc (newlines t)
unfolding line_of
line-end t = rw (take-length t)

line-of : (t piece : List ℕ) (line k : ℕ) → line ≡ line_of t (length t) → line - 1 + line_of piece k ≡ line_of (t ++ piece) (length t + k)
line-of t piece line k e = omega (arith, line-behind t piece k, e, line-end t)

line_before : (t piece : List ℕ) (m : ℕ) → m ≤ length t → line_of (t ++ piece) m ≡ line_of t m
unfolding line_of
line_before t piece m h = rw (take-append-le m t piece h)

pub line-some : (t : List ℕ) (k : ℕ) → 1 ≤ line_of t k
unfolding line_of
line-some t k = omega arith

pub line-most : (t : List ℕ) (k : ℕ) → line_of t k ≤ length t + 1
unfolding line_of
line-most t k = omega (arith, newlines-length (take k t), length-take k t)

-- nothing has been read
pub start-stands : (kept asked : List ℤ) → Stands kept asked [] start (numbers_of nothing_said) kept asked
unfolding Stands feed line_of newlines
start-stands kept asked = ((refl, refl, holds-none kept asked), refl)

pub start-open : (n : ℕ) → n < 2 ^ 63 → Open start n
unfolding Open
start-open n h = (record { good = word-long Word.Window; series = omega arith; query = omega arith; room = omega arith }, omega arith, omega arith)

-- ---- a piece more

module _ (kept asked : List ℤ) (t piece : List ℕ) (numbers series query numbers' series' query' : List ℤ) where
  going-at : (p : Progress) (x : Fed Reading) → Placed 0 (length t) x → Shows kept asked (Ok p) x numbers series query → p.at ≡ length t
  going-at p (going y n) h s = omega (arith, h)
  going-at p (failed n) h s = absurd s

  failed-at : (m : ℕ) (x : Fed Reading) (k n : ℕ) → Placed k n x → Shows kept asked (Err m) x numbers series query → (k ≤ m) × (m ≤ k + n)
  failed-at m (going y p) k n h s = absurd s
  failed-at m (failed p) k n h s = (omega (arith, s), omega (arith, s))

  failed-behind : (m : ℕ) (p : Progress) (x : Fed Reading) → Placed 0 (length t) x → Shows kept asked (Ok p) x numbers series query → Shows kept asked (Err m) (feed step x piece) numbers' series' query' → length t ≤ m
  failed-behind m p (going y n) h s f = by (feed step (going y n) piece) (placed step piece y n) f
    where
      by : (z : Fed Reading) → Placed n (length piece) z → Shows kept asked (Err m) z numbers' series' query' → length t ≤ m
      by (going y' q) g e = absurd e
      by (failed q) g e = omega (arith, h, e)
  failed-behind m p (failed n) h s f = absurd s

  module _ (p : Progress) (line : ℕ) (s : Stands kept asked t (Input.Going p line) numbers series query) where
    -- what was fed before
    before : Shows kept asked (Ok p) (fed t) numbers series query
    unfolding Stands
    before = s.0

    pub stands-going : (n : Progress) (next : ℕ) → ((g : Said) → Comes p g kept asked piece numbers series query (Ok n) numbers' series' query')
        → next ≡ line - 1 + line_of piece (length piece) → Stands kept asked (t ++ piece) (Input.Going n next) numbers' series' query'
    unfolding Stands
    stands-going n next c e =
        (rw (fed-both t piece) at (shows_then kept asked p (fed t) piece numbers series query _ numbers' series' query' before c), e ∙ line-of t piece line _ s.1 ∙ ap (line_of (t ++ piece)) (sym (length-append t piece)))

    pub stands-failed : (m bad : ℕ) → ((g : Said) → Comes p g kept asked piece numbers series query (Err m) numbers' series' query')
        → bad ≡ line - 1 + line_of piece (m - p.at) → Stands kept asked (t ++ piece) (Input.Failed bad) numbers' series' query'
    unfolding Stands
    stands-failed m bad c e =
        let f = shows_then kept asked p (fed t) piece numbers series query _ numbers' series' query' before c in
        let l = placed step t program_start 0 in
        let q : length t + (m - p.at) ≡ m = omega (arith, going-at p (fed t) l before, failed-behind m p (fed t) l before f) in
        (m, (rw (fed-both t piece) at f, e ∙ line-of t piece line (m - p.at) s.1 ∙ ap (line_of (t ++ piece)) q))

  pub stands-still : (line : ℕ) → Stands kept asked t (Input.Failed line) numbers series query → Stands kept asked (t ++ piece) (Input.Failed line) numbers' series' query'
  unfolding Stands
  stands-still line (m, (s, e)) =
      (m, (rw (fed-both t piece) at (shows-failed kept asked m (fed t) piece numbers series query numbers' series' query' s), e ∙ sym (line_before t piece m (omega (arith, (failed-at m (fed t) 0 (length t) (placed step t program_start 0) s).1)))))

-- the automaton stands behind the whole text
pub going-is : (kept asked : List ℤ) (t : List ℕ) (numbers series query : List ℤ) (p : Progress) → Shows kept asked (Ok p) (fed t) numbers series query → p.at ≡ length t
going-is kept asked t numbers series query p s = going-at kept asked t [] numbers series query numbers series query p (fed t) (placed step t program_start 0) s

-- ---- as the code goes

pub open-ready : {r : Input} {p : Progress} {line n : ℕ} → r ≡ Input.Going p line → Open r n → Ready p n × (1 ≤ line) × (line + n < 2 ^ 63 + 2)
unfolding Open
open-ready {r} {p} {line} {n} e o = let h = rw (e, Open) at o in (h.0, h.1, omega arith)

pub read-still : {r : Input} {line : ℕ} (piece : List ℕ) (numbers series query : List ℤ) → r ≡ Input.Failed line → ReadOn piece r numbers series query r numbers series query
unfolding Open
read-still {r} {line} piece numbers series query e = rw e (record {
  opens = λ n o. tt;
  stands = λ kept asked t s. stands-still kept asked t piece numbers series query numbers series query line s;
})

next-open : (p : Progress) (line : ℕ) (piece : List ℕ) (n : Progress) (next k : ℕ) → GoodFeeding (p.at + length piece) (Ok n) → next ≡ line - 1 + line_of piece (length piece) → Open (Input.Going p line) (length piece + k) → Open (Input.Going n next) k
unfolding Open
next-open p line piece n next k g l o = (
  record { good = g.0; series = g.1; query = g.2; room = omega arith },
  omega (arith, l, line-some piece (length piece)),
  omega (arith, l, line-most piece (length piece), g.3, o.1, o.2),
)

module _ {r : Input} {p : Progress} {line : ℕ} {f : Result Progress ℕ} (piece : List ℕ) (numbers series query numbers' series' query' : List ℤ) (e : r ≡ Input.Going p line)
    (good : GoodFeeding (p.at + length piece) f) (comes : (g : Said) (kept asked : List ℤ) → Comes p g kept asked piece numbers series query f numbers' series' query') where
  pub read-going : {n : Progress} {next : ℕ} → f ≡ Ok n → next ≡ line - 1 + line_of piece (length piece) → ReadOn piece r numbers series query (Input.Going n next) numbers' series' query'
  read-going {n} {next} d l = rw e (record {
    opens = λ k o. next-open p line piece n next k (rw d at good) l o;
    stands = λ kept asked t s. stands-going kept asked t piece numbers series query numbers' series' query' p line s n next (λ g. rw d at (comes g kept asked)) l;
  })

  pub read-failed : {m bad : ℕ} → f ≡ Err m → bad ≡ line - 1 + line_of piece (m - p.at) → ReadOn piece r numbers series query (Input.Failed bad) numbers' series' query'
  unfolding Open
  read-failed {m} {bad} d l = rw e (record {
    opens = λ k o. tt;
    stands = λ kept asked t s. stands-failed kept asked t piece numbers series query numbers' series' query' p line s m bad (λ g. rw d at (comes g kept asked)) l;
  })
