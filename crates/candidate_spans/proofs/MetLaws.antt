-- Laws of specs/Met.
use Rattle.meaning_numbers.proofs.Prelude.{◌≡◌, refl, ◌∙◌, List, ℕ, ◌+◌, ◌<◌, ◌≤◌, arith, length, get_or}
use Rattle.meaning_rows.specs.declared.Row.{Row}
use Rattle.candidate_met.specs.Stored.{EndsAt}
use Rattle.candidate_spans.specs.{Held.PartsHeld, Held.Stored, Met.span_at, Met.MeetReady, Met.AllMet}
use Rattle.candidate_spans.proofs.Held.{none-held, held_next, held-rest}

-- ---- the loop, at part i

pub record Meeting (rows : List Row) (parts : ℕ) (first last : List ℕ) (i : ℕ) (first' last' : List ℕ) : Type 0 where
  pub met : AllMet rows i first last first' last'
  pub rest : PartsHeld (λ j. get_or first j 0) (λ j. get_or last j 0) i parts first' last'

pub meeting-starts : (rows : List Row) (parts : ℕ) (first last : List ℕ) → Meeting rows parts first last 0 first last
meeting-starts rows parts first last = record {
  met = record { held = none-held _ _ 0 first last; first-long = refl; last-long = refl };
  rest = record { first-at = λ j l u. refl; last-at = λ j l u. refl };
}

module _ {rows : List Row} {parts : ℕ} {first last : List ℕ} (r : MeetReady rows parts first last) {i : ℕ} {a b : List ℕ} (m : Meeting rows parts first last i a b) where
  pub meeting-ends : i ≡ parts → AllMet rows parts first last a b
  meeting-ends e = rw e at m.met

  module _ (l : i < parts) where
    same_first : get_or a i 0 ≡ get_or first i 0
    same_first = m.rest.first-at i (omega arith) l

    same-last : get_or b i 0 ≡ get_or last i 0
    same-last = m.rest.last-at i (omega arith) l

    pub meeting-asks : EndsAt a b i
    meeting-asks =
        let e = r.ends i l in
        record {
          in-first = omega arith;
          in-last = omega arith;
          first-most = omega (arith, e.first-most, same_first);
          last-most = omega (arith, e.last-most, same-last);
        }

    same_span : span_at rows a b i ≡ span_at rows first last i
    same_span = rw (same_first, same-last)

    pub meeting-stores : let s = span_at rows a b i in (i < length a) × (i < length b) × (s.from ≤ 1048576) × (s.to ≤ 1048576)
    meeting-stores = let f = r.few _ _ in (meeting-asks.in-first, meeting-asks.in-last, f.0, f.1)

    pub meeting-next : {a' b' : List ℕ} → Stored i (span_at rows a b i).from (span_at rows a b i).to a b a' b' → Meeting rows parts first last (i + 1) a' b'
    meeting-next s = record {
      met = record {
        held = held_next s m.met.held (rw same_span) (rw same_span);
        first-long = s.first-long ∙ m.met.first-long;
        last-long = s.last-long ∙ m.met.last-long;
      };
      rest = held-rest s m.rest;
    }
