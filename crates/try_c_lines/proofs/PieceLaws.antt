-- Laws of specs/Piece.
use Rattle.std.specs.declared.result.Result.{Result}
use Rattle.std.specs.Prelude.{Ok, Err}
use Rattle.meaning_numbers.proofs.Prelude.{ℕ, ℤ, Bool, List, ◌≡◌}
use Rattle.meaning_text.proofs.Automaton.{going, feed}
use Rattle.text_lines.specs.Follow.{nothing_said, step}
use Rattle.text_feed.specs.{declared.Progress.Progress, Keep.numbers_of, Feed.Shows}
use Rattle.try_c_lines.specs.Piece.{start_of}

-- the answer shows what a text comes to, where the buffers were these at first
pub record Comes (program : Bool) (text : List ℕ) (numbers series query : List ℤ) (r : Result Progress ℕ) (numbers' series' query' : List ℤ) : Type 0 where
  pub shows : numbers ≡ numbers_of nothing_said → Shows series query r (feed step (going (start_of program) 0) text) numbers' series' query'
