-- What finding a search's candidates comes to, and what its parts ask and leave.
use Rattle.std.specs.Prelude.{ℕ, ◌+◌, ◌-◌, ◌/◌, ◌≤◌, ℤ, length, List, [], map, ◌≡◌}
use Rattle.std.specs.declared.result.Result.{Result}
use Rattle.std.specs.Result.{MatchResult}
use Rattle.meaning_rows.specs.{declared.Head.Head}
use Rattle.meaning_filter.specs.Matches.{candidate_runs}
use Rattle.meaning_entries.specs.Buffers.{filled}
use Rattle.meaning_entries.specs.Search.{SearchCall, SearchBuffers, question, search_plan, search_candidates}
use Rattle.meaning_entries.specs.{declared.Refusal.Refusal, Answers.refusal_in, Refusal.first_refusal}
use Rattle.candidate_counts.specs.Handed.{stood, Handed}
use Rattle.candidate_plan.specs.Allowed.{most_values, longest_window}
use Rattle.candidate_spans.specs.Raised.{CountedBy, stretch_hit, StretchesReady}
use Rattle.candidate_find.specs.declared.Sought.{Sought}

-- the candidates of a search that looks: counted, handed out in the candidate buffer, and the scratch is all 0
pub record Gathered (c : SearchCall) (left right scratch : List ℕ) (t : Sought) (left' right' scratch' : List ℕ) : Type 0 where
  pub runs : t.runs ≡ length (candidate_runs c.index (question c))
  pub candidates : t.candidates ≡ search_candidates c
  pub handed-left : left' ≡ filled 0 (map (λ x. x.0) (candidate_runs c.index (question c))) left
  pub handed-right : right' ≡ filled 0 (map (λ x. x.1) (candidate_runs c.index (question c))) right
  pub cleared : scratch' ≡ filled 0 [] scratch

-- finding the candidates of a search, by its buffers before, and the candidate buffer and the scratch after; the list stays as it is. Of a search that is refused before it looks, all stays as it is
pub record SoughtKept (c : SearchCall) (b : SearchBuffers) (t : Result Sought Refusal) (left' right' scratch' : List ℕ) : Type 0 where
  pub judged : refusal_in t ≡ first_refusal (search_plan c b)
  pub left : MatchResult t (λ m. Gathered c b.left b.right b.scratch m left' right' scratch') (λ r. (left' ≡ b.left) × (right' ≡ b.right) × (scratch' ≡ b.scratch))

pub record HandReady (s : List ℤ) (h : Head) (left right : List ℕ) (q : List ℤ) (first last scratch : List ℕ) : Type 0 where
  pub long : length s ≤ most_values
  pub some : 1 ≤ length q
  pub inside : length q ≤ length s
  pub window : 1 ≤ h.window
  pub window-most : h.window ≤ longest_window
  pub stretches : StretchesReady left right first last h.window (length q / h.window) (length s + 1 - length q) (filled 0 [] scratch)
  pub room : length s + 1 - length q ≤ length scratch
  pub first-room : length s + 1 - length q ≤ length first
  pub last-room : length s + 1 - length q ≤ length last

pub record HandedOut (s : List ℤ) (h : Head) (left right : List ℕ) (q : List ℤ) (first last scratch : List ℕ) (t : Sought) (first' last' scratch' : List ℕ) : Type 0 where
  pub counts : List ℕ
  pub counted : CountedBy (stretch_hit left right first last h.windows h.window) (length s + 1 - length q) (length q / h.window) counts
  pub handed : Handed (stood counts (length q / h.window)) (length s + 1 - length q) first last first' last' t.runs t.candidates
  pub cleared : scratch' ≡ filled 0 [] scratch
