-- Demand 3 is not empty: searches that it speaks of exist. Of the worked series, all four queries, each through three indexes with other w, d and g, of which one covers only the first three values. By computation.
use Rattle.std.specs.Prelude.{Ok, Err}
use Rattle.meaning_numbers.proofs.Prelude.{◌≡◌, refl, List, [], ◌∷◌, ℕ, ℤ, pos, replicate, take}
use Rattle.meaning_rows.specs.{Index.Index, Build.built}
use Rattle.meaning_filter.specs.{declared.Kind.Kind, declared.Kind.TheVariants.Raw, declared.Kind.TheVariants.Normal, declared.Pick.Pick}
use Rattle.meaning_entries.specs.{declared.Found.Found, Audit.PassesCovered, Search.SearchCall, Search.SearchBuffers, Search.search_answer, Search.search_after, Demand3.list_in, Demand3.Searched}
use Rattle.meaning_entries.proofs.{Open.open_entries, Demand2.search-kept}

series : List ℤ
series = pos 1 ∷ pos 2 ∷ pos 4 ∷ pos 3 ∷ pos 1 ∷ []

-- w, d and g are 2, 2 and 80
merged : Index
merged = built series 2 2 80

-- w, d and g are 1, 1 and 0
single : Index
single = built series 1 1 0

-- two windows, w, d and g are 2, 2 and 0
early : Index
early = built (take 3 series) 2 2 0

search : Index → Kind → ℤ → ℤ → ℤ → SearchCall
search x kind band threshold shift = record {
  series = series;
  index = x;
  query = pos 2 ∷ pos 4 ∷ [];
  ask = record { kind = kind; band = band; threshold = threshold; scale = pos 20; shift = shift; pick = Pick.All };
}

room : SearchBuffers
room = record { left = replicate 5 7; right = replicate 5 7; scratch = replicate 5 7; offsets = replicate 4 7; distances = replicate 4 7 }

unfoldable open_witness : Unit {0}
unfolding open_entries series merged single early search room
open_witness = tt

-- a search with the list's first entries, by what it computes to
searched : (c : SearchCall) (candidates count : ℕ) (list : List (ℕ × ℕ)) → PassesCovered c.index c.series → Ok (Found.All candidates count) ≡ search_answer c room →
    list ≡ list_in count (search_after c room) → Searched c count list
searched c candidates count list p e l =
    record { passes = p; before = room; after = search_after c room; candidates = candidates; kept = search-kept c room _ _ e refl; listed = l }

-- one question through all three: candidates may differ, the list does not
record Thrice (kind : Kind) (band threshold shift : ℤ) (count : ℕ) (list : List (ℕ × ℕ)) : Type 0 where
  through-merged : Searched (search merged kind band threshold shift) count list
  through-single : Searched (search single kind band threshold shift) count list
  through-early : Searched (search early kind band threshold shift) count list

raw-straight : Thrice Raw (pos 0) (pos 5) (pos 0) 3 ((0, 5) ∷ (1, 0) ∷ (2, 5) ∷ [])
unfolding open_witness
raw-straight = record { through-merged = searched _ 4 3 _ refl refl refl; through-single = searched _ 3 3 _ refl refl refl; through-early = searched _ 4 3 _ refl refl refl }

raw-warped : Thrice Raw (pos 1) (pos 4) (pos 0) 1 ((1, 0) ∷ [])
unfolding open_witness
raw-warped = record { through-merged = searched _ 4 1 _ refl refl refl; through-single = searched _ 4 1 _ refl refl refl; through-early = searched _ 4 1 _ refl refl refl }

normal-straight : Thrice Normal (pos 0) (pos 0) (pos 2) 2 ((0, 0) ∷ (1, 0) ∷ [])
unfolding open_witness
normal-straight = record { through-merged = searched _ 4 2 _ refl refl refl; through-single = searched _ 3 2 _ refl refl refl; through-early = searched _ 4 2 _ refl refl refl }

normal-warped : Thrice Normal (pos 1) (pos 0) (pos 2) 2 ((0, 0) ∷ (1, 0) ∷ [])
unfolding open_witness
normal-warped = record { through-merged = searched _ 4 2 _ refl refl refl; through-single = searched _ 4 2 _ refl refl refl; through-early = searched _ 4 2 _ refl refl refl }
