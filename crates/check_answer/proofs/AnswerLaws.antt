-- Laws of specs/Answer.
use Prim.Native.Nat.{ℕ, ◌<◌, ◌≤◌}
use borrow.Author.Tests.{le-leb, lt-leb}
use mathlib.Core.List.{List}
use mathlib.Core.Path.{◌≡◌, refl, ap, ◌∙◌}
use Rattle.meaning_filter.specs.declared.Pick.{Pick}
use Rattle.meaning_entries.specs.{declared.Found.Found, Buffers.pair_room}
use Rattle.check_list.specs.Listed.{ListFilled}
use Rattle.check_answer.specs.Answer.{answer_of, Answers}

pub answer-all : (candidates matches room : ℕ) → matches ≤ room → Found.All candidates matches ≡ answer_of Pick.All candidates matches room
unfolding answer_of
answer-all candidates matches room h = rw (le-leb matches room h)

pub answer-full : (candidates matches room : ℕ) → room < matches → Found.Full candidates matches ≡ answer_of Pick.All candidates matches room
unfolding answer_of
answer-full candidates matches room h = rw (lt-leb matches room h)

-- so many matches are counted
pub answers : {pick : Pick} {l : List (ℕ × ℕ)} {candidates n : ℕ} {r : Found} {o d o' d' : List ℕ} → ListFilled pick l n o d o' d' → r ≡ answer_of pick candidates n (pair_room o d) → Answers pick l candidates r o d o' d'
answers {pick} {l} {candidates} {o = o} {d} f e = record {
  answered = e ∙ ap (λ (n : ℕ). answer_of pick candidates n (pair_room o d)) f.count;
  list = record { count = refl; offsets_are = f.offsets_are; distances-are = f.distances-are };
}
