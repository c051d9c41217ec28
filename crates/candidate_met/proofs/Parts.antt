-- Laws of specs/Parts.
use Rattle.meaning_numbers.proofs.Prelude.{List, ℕ, eqb, ℤ}
use Rattle.meaning_rows.specs.Index.{Index}
use Rattle.candidate_counts.specs.Handed.{Handed}
use Rattle.candidate_counts.proofs.LeadingLaws.{leading}

-- the offsets that meet all parts, handed out
abbrev pub FoundAll : Index → (ℕ → ℤ × ℤ) → ℕ → ℕ → List ℕ → List ℕ → List ℕ → List ℕ → ℕ → ℕ → Type 0
FoundAll x range parts offsets first last first' last' k found = Handed (λ j. eqb (leading x range parts j) parts) offsets first last first' last' k found
