-- What the program prints where nothing refuses it: its build and its search are not refused either, what is built stands in the buffers, and its texts have room.
use Rattle.std.specs.Prelude.{ℕ, take, List, Ok, Err}
use Rattle.meaning_text.specs.Texts.{found_text}
use Rattle.meaning_entries.specs.{declared.Found.Found, Answers.SearchAnswer, Demand3.pairs}
use Rattle.text_put.specs.Put.{Put}
use Rattle.meaning_entries.proofs.Passes as Audit

-- ---- the list behind the index text

-- where the answer is a list
abbrev pub FoundPut : SearchAnswer → List ℕ → ℕ → List ℕ → List ℕ → List ℕ → ℕ → Type 0
FoundPut (Ok (Found.All candidates matches)) text at offsets distances new to = Put text at (found_text matches candidates (take matches (pairs offsets distances))) new to
FoundPut (Ok (Found.Full candidates matches)) text at offsets distances new to = Unit {0}
FoundPut (Ok (Found.Few candidates matches)) text at offsets distances new to = Unit {0}
FoundPut (Err r) text at offsets distances new to = Unit {0}
