-- Laws of specs/Raised.
use Rattle.meaning_numbers.proofs.Prelude.{◌≡◌, refl, sym, ◌∙◌, Bool, ◌&&◌, ◌||◌, and-false, List, ℕ, zero, suc, ◌+◌, ◌-◌, ◌*◌, ◌<◌, min, arith, le_step, leb, ltb, ℤ, nat_abs, get_or, le-leb, lt-leb, leb-true, leb-false, ltb-true, by-test}
use Rattle.meaning_numbers.specs.Place.{any}
use Rattle.meaning_rows.specs.Index.{Index, Entry, in_run}
use Rattle.meaning_filter.specs.Candidates.{admits}
use Rattle.candidate_counts.specs.Raise.{bump, between, reached, Raised}
use Rattle.candidate_counts.proofs.{LeadingLaws.leading, LeadingLaws.Counted, Raise.bump-twice, Raise.split-run}
use Rattle.candidate_spans.specs.Raised.{leading_by, CountedBy}

add-one : (i : ℕ) → i + 1 ≡ suc i
add-one i = omega arith

pub by-starts : (hit : ℕ → ℕ → Bool) (offsets : ℕ) (scratch : List ℕ) → ((j : ℕ) → get_or scratch j 0 ≡ 0) → CountedBy hit offsets 0 scratch
unfolding leading_by
by-starts hit offsets scratch h = record { at = λ j. by-test (ltb j offsets) (λ t. rw t (h j)) (λ f. rw f (h j)) }

-- one part more
pub by_next : (hit : ℕ → ℕ → Bool) (offsets i : ℕ) (old new : List ℕ) → CountedBy hit offsets i old → Raised i (λ j. ltb j offsets && hit i j) old new → CountedBy hit offsets (i + 1) new
unfolding leading_by bump
by_next hit offsets i old new c r = rw (add-one i) (record { at = λ j. r.at j ∙ rw (c.at j) (by-test (ltb j offsets) (λ t. rw t) (λ f. rw f)) })

-- a part raises the windows at or past the index's count, then its stretch
tail-reached : (windows shift offsets j : ℕ) → between (min (windows - shift) offsets) offsets j ≡ (ltb j offsets && leb windows (j + shift))
tail-reached windows shift offsets j = by-test (ltb j offsets)
    (λ t. rw t (by-test (leb windows (j + shift))
    (λ u. rw (u, le-leb (min (windows - shift) offsets) j (omega (arith, leb-true windows (j + shift) u))))
    (λ g. rw (g, lt-leb (min (windows - shift) offsets) j (omega (arith, leb-false windows (j + shift) g, ltb-true j offsets t))))))
    (λ f. rw f (and-false (leb (min (windows - shift) offsets) j)))

pub tail-raised : (part windows shift offsets : ℕ) (stretch : List Entry) (old mid new : List ℕ) → Raised part (between (min (windows - shift) offsets) offsets) old mid
    → Raised part (reached offsets shift stretch) mid new → Raised part (λ j. ltb j offsets && (leb windows (j + shift) || any (in_run (j + shift)) stretch)) old new
tail-raised part windows shift offsets stretch old mid new a b = record {
  long = b.long ∙ a.long;
  at = λ j.
      let past = leb windows (j + shift) in
      let inside = any (in_run (j + shift)) stretch in
      b.at j ∙ rw (a.at j, tail-reached windows shift offsets j, bump-twice (ltb j offsets && past) (ltb j offsets && inside) part (get_or old j 0), sym (split-run (ltb j offsets) past inside));
}

-- tests that agree with what an index admits
leading-by : (x : Index) (range : ℕ → ℤ × ℤ) (hit : ℕ → ℕ → Bool) (p j : ℕ) → ((i : ℕ) → i < p → hit i j ≡ admits x (range i) (j + i * nat_abs x.window)) → leading_by hit p j ≡ leading x range p j
unfolding leading_by leading
leading-by x range hit zero j h = refl
leading-by x range hit (suc p) j h = rw (h p (omega arith), leading-by x range hit p j (λ i l. h i (le_step l)))

pub counted-all : (x : Index) (range : ℕ → ℤ × ℤ) (hit : ℕ → ℕ → Bool) (offsets p : ℕ) (scratch : List ℕ)
    → ((i j : ℕ) → i < p → hit i j ≡ admits x (range i) (j + i * nat_abs x.window)) → CountedBy hit offsets p scratch → Counted x range offsets p scratch
counted-all x range hit offsets p scratch h c = record { at = λ j. c.at j ∙ rw (leading-by x range hit p j (λ i l. h i j l)) }
