-- What a search that looked answers, for all matches by the room of its list (`answer_of`), and how the list stands then (`Answers`).
use Rattle.std.specs.Prelude.{ℕ, ◌<◌, ◌≤◌, leb, ℤ, length, cond, List, ◌≡◌}
use Rattle.meaning_curves.specs.Curve.{at, spread}
use Rattle.meaning_curves.proofs.Values.{AllIn}
use Rattle.meaning_filter.specs.{declared.Kind.Kind, declared.Limits.Limits, declared.Pick.Pick, declared.Ask.Ask, Matches.Question}
use Rattle.meaning_entries.specs.{declared.Found.Found, Buffers.pair_room}
use Rattle.check_list.specs.Listed.{ListFilled}

-- what is looked for
abbrev pub wanted : Ask → List ℤ → List ℤ → Question
wanted ask s q = record { series = s; query = q; ask = ask }

-- a series and a query within their limits
pub record Limited (kind : Kind) (s q : List ℤ) (l : Limits) : Type 0 where
  pub long : length s ≤ 1048576
  pub some : 0 < length q
  pub few : length q ≤ 1024
  pub values : AllIn s
  pub query : AllIn q
  pub scale : l.scale ≤ 100
  pub not-flat : kind ≡ Kind.Normal → 0 < spread (at q) (length q)

-- all matches, or as many as there is room for; or the closest few, for which there is room
unfoldable pub answer_of : Pick → ℕ → ℕ → ℕ → Found
answer_of Pick.All candidates matches room = cond (leb matches room) (Found.All candidates matches) (Found.Full candidates matches)
answer_of (Pick.Closest k) candidates matches room = Found.Few candidates matches

-- what is handed out of l is listed as far as there is room, with 0 behind it, and that is answered
pub record Answers (pick : Pick) (l : List (ℕ × ℕ)) (candidates : ℕ) (answer : Found) (offsets distances offsets' distances' : List ℕ) : Type 0 where
  pub answered : answer ≡ answer_of pick candidates (length l) (pair_room offsets distances)
  pub list : ListFilled pick l (length l) offsets distances offsets' distances'
