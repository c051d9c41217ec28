-- An automaton follows its form if what a byte does to a state is one fact, for a byte that is taken and for one that is refused (`Onto`).
use Rattle.meaning_numbers.proofs.Prelude.{◌≡◌, List, [], ◌∷◌, Option, None, Some, ℕ}
use Rattle.meaning_text.specs.Number.{Read}
use Rattle.meaning_text.proofs.{Onward.Rest, Automaton.Halts, Automaton.at_rest, Automaton.Follows}

module _ {S A : Type 0} (Good : S → Type 0) (rest : S → Rest A) where
  -- what the state before read of the byte b and t is r
  abbrev pub Onto : Option S → ℕ → List ℕ → Read A → Type 0
  Onto (Some n) b t r = Good n × (r ≡ rest n t)
  Onto None b t r = Halts (b ∷ t) r

  module _ (step : S → ℕ → Option S) (accept : S → Option A) where
    pub follows_by : ((s : S) (b : ℕ) (t : List ℕ) → Good s → Onto (step s b) b t (rest s (b ∷ t))) → ((s : S) → Good s → rest s [] ≡ at_rest (accept s)) → Follows step accept Good rest
    follows_by onto ends = record {
      stays-good = λ s b n g e. (rw e at (onto s b [] g)).0;
      goes_on = λ s b n g e t. (rw e at (onto s b t g)).1;
      halts = λ s b g e t. rw e at (onto s b t g);
      ends = ends;
    }
