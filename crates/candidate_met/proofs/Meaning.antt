-- What a search has of the scratch count: cleared, it is 0 everywhere; and where all parts raised it, what is handed out are the offsets that meet all of them (`found_all`).
use Rattle.meaning_numbers.proofs.Count.{count-cong}
use Rattle.meaning_numbers.proofs.Prelude.{◌≡◌, ap, ◌∙◌, List, [], ℕ, ◌-◌, ◌<◌, arith, dec_lt, eqb, ℤ, length, get_or, replicate, length-replicate, get_or-replicate, List·get_d-eq-default, lt-ltb}
use Rattle.meaning_rows.specs.Index.{Index}
use Rattle.meaning_rows.proofs.Runs.{runs-cong}
use Rattle.meaning_entries.specs.Buffers.{filled}
use Rattle.candidate_counts.specs.Handed.{stood, Handed}
use Rattle.candidate_counts.proofs.LeadingLaws.{leading, Counted}
use Rattle.candidate_met.proofs.Parts.{FoundAll}

-- counts that were cleared
pub cleared-zeros : (l : List ℕ) (j : ℕ) → get_or (filled 0 [] l) j 0 ≡ 0
unfolding filled
cleared-zeros l j = elim (dec_lt j (length l - 0)) [
  | yes h ↦ get_or-replicate _ j 0 0 h
  | no n ↦ List·get_d-eq-default (replicate (length l - 0) 0) 0 (omega (arith, length-replicate {A = ℕ} (length l - 0) 0))
]

-- a buffer cleared whole is told by its length
pub cleared-same : (a c : List ℕ) → length a ≡ length c → ◌≡◌ {A = List ℕ} (filled 0 [] a) (filled 0 [] c)
unfolding filled
cleared-same a c e = rw e

-- counts that were raised by all parts, and handed out
pub found_all : (x : Index) (range : ℕ → ℤ × ℤ) (parts n : ℕ) (scratch : List ℕ) {l r l' r' : List ℕ} {k found : ℕ} → Counted x range n parts scratch → Handed (stood scratch parts) n l r l' r' k found → FoundAll x range parts n l r l' r' k found
found_all x range parts n scratch {l} {r} c h =
    let same : (j : ℕ) → j < n → stood scratch parts j ≡ eqb (leading x range parts j) parts = λ j b. rw (c.at j, lt-ltb j n b) in
    let e = runs-cong _ (λ j. eqb _ parts) n same in
    record {
      count-is = h.count-is ∙ ap length e;
      found-is = h.found-is ∙ count-cong _ (λ j. eqb _ parts) n same;
      left_is = h.left_is ∙ rw e;
      right_is = h.right_is ∙ rw e;
    }
