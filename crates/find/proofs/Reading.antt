-- Laws of specs/Reading.
use Rattle.meaning_numbers.proofs.Prelude.{ℕ, ◌+◌, ◌<◌, ◌≤◌, ◌^◌, ℤ, length, List, [], ◌++◌, ◌≡◌, arith}
use Rattle.text_lines.specs.Follow.{nothing_said}
use Rattle.text_feed.specs.Keep.{numbers_of}
use Rattle.program_input.specs.{declared.Input.Input, Input.start, Input.Open, Input.ReadOn}
use Rattle.program_input.proofs.InputLaws.{start-stands, start-open}
use Rattle.program_answer.specs.Finish.{Reached}
use Rattle.std.specs.declared.ops.ControlFlow.{ControlFlow}
use Rattle.std.specs.declared.ops.ControlFlow.TheVariants.{Continue, Break}
use Rattle.find.specs.{Reading.ReadTo, Reading.StepFrom, Reading.Stepped}

-- fewer bytes more
pub open-less : (r : Input) (n m : ℕ) → m ≤ n → Open r n → Open r m
unfolding Open
open-less (Input.Failed line) n m h o = tt
open-less (Input.Going p line) n m h o = (record { good = o.0.good; series = o.0.series; query = o.0.query; room = omega (arith, h) }, o.1, o.2)

-- a piece of at most 65,536 bytes more
abbrev pub Goes : Input → List ℤ → List ℤ → List ℤ → Input → List ℤ → List ℤ → List ℤ → Type 0
Goes r numbers series query x numbers' series' query' = (n : ℕ) → ReadTo (65536 + n) r numbers series query → ReadTo n x numbers' series' query'

pub goes : (piece : List ℕ) (r : Input) (numbers series query : List ℤ) (x : Input) (numbers' series' query' : List ℤ) → length piece ≤ 65536 → ReadOn piece r numbers series query x numbers' series' query' → Goes r numbers series query x numbers' series' query'
goes piece r numbers series query x numbers' series' query' h o n k = record {
  kept = k.kept;
  asked = k.asked;
  text = k.text ++ piece;
  stands = o.stands _ _ _ k.stands;
  opened = o.opens n (open-less r _ _ (omega (arith, h)) k.opened);
  long = k.long;
  short = k.short;
}

pub starts : (n : ℕ) (kept asked : List ℤ) → n < 2 ^ 63 → length kept ≡ 4096 → length asked ≡ 1024 → ReadTo n start (numbers_of nothing_said) kept asked
starts n kept asked h l s = record { kept = kept; asked = asked; text = []; stands = start-stands kept asked; opened = start-open n h; long = l; short = s }

pub ends : (n : ℕ) (r : Input) (numbers series query : List ℤ) → ReadTo n r numbers series query → Reached r numbers series query
ends n r numbers series query k = record { kept = k.kept; asked = k.asked; text = k.text; stands = k.stands; opened = open-less r n 0 (omega arith) k.opened; long = k.long; short = k.short }

pub stepped : (piece : List ℕ) {r : Input} {numbers series query : List ℤ} {s : ControlFlow Input Input} {numbers' series' query' : List ℤ} → length piece ≤ 65536 → StepFrom piece r numbers series query s numbers' series' query' → Stepped r numbers series query s numbers' series' query'
stepped piece h f = record { piece = piece; most = h; from = f }

-- what a step leaves
abbrev pub input_of : ControlFlow Input Input → Input
input_of (Continue x) = x
input_of (Break x) = x

pub step-goes : {r : Input} {numbers series query : List ℤ} {s : ControlFlow Input Input} {x : Input} {numbers' series' query' : List ℤ} → input_of s ≡ x → Stepped r numbers series query s numbers' series' query' → Goes r numbers series query x numbers' series' query'
step-goes {r} {numbers} {series} {query} {s} {x} {numbers'} {series'} {query'} e k = by s e k.from
  where
    by : (t : ControlFlow Input Input) → input_of t ≡ x → StepFrom k.piece r numbers series query t numbers' series' query' → Goes r numbers series query x numbers' series' query'
    by (Continue y) e f = goes _ r numbers series query x numbers' series' query' k.most (rw e at f.1)
    by (Break y) e f = goes _ r numbers series query x numbers' series' query' k.most (rw e at f.1)

pub read-less : (n m : ℕ) (r : Input) (numbers series query : List ℤ) → m ≤ n → ReadTo n r numbers series query → ReadTo m r numbers series query
read-less n m r numbers series query h k = record { kept = k.kept; asked = k.asked; text = k.text; stands = k.stands; opened = open-less r n m h k.opened; long = k.long; short = k.short }
