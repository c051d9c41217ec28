-- Demand 3: through whichever two audited indexes, the same list, and that list is exactly all matches. One claim about both searches together and all four queries.
-- 02, item 1: each index passes the audit against the series cut to windows + w - 1 values, each to its own cut; the matches are those of the whole series.
-- It is a claim about the meanings: a search that keeps its promise (`SearchKept`, demand 2) meets it, through whichever index passes.
use Rattle.std.specs.Prelude.{ℕ, length, take, List, [], ◌∷◌, ◌≡◌, Ok}
use Rattle.meaning_rows.specs.Index.{Index}
use Rattle.meaning_filter.specs.Matches.{all_matches, Exactly}
use Rattle.meaning_entries.specs.{declared.Found.Found, Audit.PassesCovered, Search.SearchCall, Search.SearchBuffers, Search.question, Demand2.SearchKept}

-- the entries of a list's two slices, as pairs, as many as the shorter slice has
unfoldable pub pairs : List ℕ → List ℕ → List (ℕ × ℕ)
pairs [] ds = []
pairs (o ∷ os) [] = []
pairs (o ∷ os) (d ∷ ds) = (o, d) ∷ pairs os ds

-- the list: so many first entries of its buffer
abbrev pub list_in : ℕ → SearchBuffers → List (ℕ × ℕ)
list_in count b = take count (pairs b.offsets b.distances)

-- a search that kept its promise, through an index that passes the audit against the part of the series that it covers, and listed `count` matches
pub record Searched (c : SearchCall) (count : ℕ) (list : List (ℕ × ℕ)) : Type 0 where
  pub passes : PassesCovered c.index c.series
  pub before : SearchBuffers
  pub after : SearchBuffers
  pub candidates : ℕ
  pub kept : SearchKept c before (Ok (Found.All candidates count)) after
  pub listed : list ≡ list_in count after

-- the same search through another index
abbrev pub through : Index → SearchCall → SearchCall
through x c = record { series = c.series; index = x; query = c.query; ask = c.ask }

-- what both searches list: the same, and that is exactly all matches
pub record SameMatches (c : SearchCall) (count₁ count₂ : ℕ) (list₁ list₂ : List (ℕ × ℕ)) : Type 0 where
  pub counts : count₁ ≡ count₂
  pub lists : list₁ ≡ list₂
  pub all : list₁ ≡ all_matches (question c)
  pub exact : Exactly (question c) list₁
  pub long : count₁ ≡ length list₁

-- for every series, query, kind and limits, and every two indexes
abbrev pub Demand3 : Type 0
Demand3 =
    (c : SearchCall) (x : Index) (count₁ count₂ : ℕ) (list₁ list₂ : List (ℕ × ℕ))
    → Searched c count₁ list₁ → Searched (through x c) count₂ list₂ → SameMatches c count₁ count₂ list₁ list₂

-- ---- 02, item 1: one search while prices arrive

-- a search that kept its promise and listed `count` matches
abbrev pub Lists : SearchCall → ℕ → SearchBuffers → Type 0
Lists c count after = (before : SearchBuffers) × (candidates : ℕ) × SearchKept c before (Ok (Found.All candidates count)) after

-- its list is what a scan of all offsets lists, and that is exactly all matches (law: `scans-only`, there is one such list)
pub record Scans (c : SearchCall) (count : ℕ) (after : SearchBuffers) : Type 0 where
  pub all : list_in count after ≡ all_matches (question c)
  pub exact : Exactly (question c) (list_in count after)
  pub long : count ≡ length (list_in count after)
