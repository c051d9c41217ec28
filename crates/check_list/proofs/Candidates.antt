-- Checking the candidates of a search: their runs stand first in the candidate buffer (`runs-first`), and the list of its matches is the one that stands in the buffers afterwards (`list-after`).
use Rattle.meaning_numbers.proofs.Prelude.{◌≡◌, List, map, ℕ, length}
use Rattle.meaning_entries.specs.{Buffers.filled, Search.SearchCall, Search.SearchBuffers, Search.search_matches, Search.looked_after}
use Rattle.meaning_entries.proofs.Pairs.{pairs-back}
use Rattle.check_list.specs.{Listed.ListFilled, Found.lent_runs}

-- runs that stand first in two slices
pub runs-first : (l : List (ℕ × ℕ)) (a b : List ℕ) → lent_runs (filled 0 (map (λ x. x.0) l) a) (filled 0 (map (λ x. x.1) l) b) (length l) ≡ l
unfolding filled
runs-first l a b = pairs-back l _ _

-- the list of a search that looked
pub list-after : (c : SearchCall) (b : SearchBuffers) {r : ℕ} {o d : List ℕ} → ListFilled c.ask.pick (search_matches c) r b.offsets b.distances o d
    → (r ≡ length (search_matches c)) × (o ≡ (looked_after c b).offsets) × (d ≡ (looked_after c b).distances)
unfolding looked_after
list-after c b f = (f.count, f.offsets_are, f.distances-are)
