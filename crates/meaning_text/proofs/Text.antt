-- Whole texts of a form whose next byte decides: what is spelled is read back, nothing else is read, and the place of a bad byte is the length of the longest beginning that a text in the form could have.
-- A refusal does not depend on what stands behind the bad byte (`Form`), so no text in the form goes on with it.
use Rattle.meaning_numbers.proofs.Prelude.{◌≡◌, refl, sym, ap, ◌∙◌, List, [], ◌∷◌, ◌++◌, append_assoc, append-nil, true, ℕ, zero, suc, ◌+◌, ◌-◌, ◌<◌, ◌≤◌, arith, length, take, length-append, take_at, take-append-add, ltb-true, ltb-false}
use Rattle.meaning_text.specs.{Number.Read, Number.got, Number.bad, Form.Form, Form.Value, Form.spell, Form.Spellable, Form.read, Read.Verdict, Read.fine, Read.unfit, Read.ended, Read.read_text, Read.Viable, Read.Longest}
use Rattle.meaning_text.proofs.Reading.{on-flag, Alike, alike, Outcome}
use Rattle.meaning_text.proofs.Form.{decided, the_form, form-read, spelled-read, refused-viable}

-- two places that both end the longest beginning are the same
pub longest-only : (f : Form) (t : List ℕ) (m n : ℕ) → Longest f t m → Longest f t n → m ≡ n
longest-only f t m n a b =
    on-flag _
    (λ e. absurd (a.longest n (ltb-true m n e) b.inside b.viable))
    (λ e. on-flag _
    (λ g. absurd (b.longest m (ltb-true n m g) a.inside a.viable))
    (λ g. omega (arith, ltb-false m n e, ltb-false n m g)))

fine-same : {A : Type 0} {v w : A} → fine v ≡ fine w → v ≡ w
fine-same e = cc

unfit-same : {A : Type 0} {m n : ℕ} → ◌≡◌ {A = Verdict A} (unfit m) (unfit n) → m ≡ n
unfit-same e = cc

unfit-fine : {A B : Type 0} {n : ℕ} {v : A} → unfit n ≡ fine v → B
unfit-fine e = let z : ◌≡◌ {A = ℕ} 0 1 = cc in absurd (omega arith)

bad-got : {A B : Type 0} {v : A} {u w : List ℕ} → bad u ≡ got v w → B
bad-got e = let z : ◌≡◌ {A = ℕ} 0 1 = cc in absurd (omega arith)

got_same : {A : Type 0} {v w : A} {t u : List ℕ} → got v t ≡ got w u → (v ≡ w) × (t ≡ u)
got_same e = (cc, cc)

not-empty : {u w : List ℕ} → Alike u w → w ≡ [] → ⊥
not-empty alike e = let z : ◌≡◌ {A = ℕ} 0 1 = cc in omega arith

-- p begins a text in the form, and with the next byte it does not
module _ (f : Form) (t p u : List ℕ) (parts : t ≡ p ++ u) (viable : Viable f p) (stops : (w : List ℕ) → Alike u w → (v : Value f) → Spellable f v → p ++ w ≡ spell f v → ⊥) where
  longer : (r : List ℕ) → u ≡ r → (k : ℕ) → 0 < k → k ≤ length r → Viable f (p ++ take k r) → ⊥
  longer [] e k h g s = omega arith
  longer (b ∷ r) e zero h g s = omega arith
  longer (b ∷ r) e (suc k) h g s = stops _ (rw e alike) s.1 s.2 (rw append_assoc at s.3)

  longest-at : Longest f t (length t - length u)
  longest-at =
      let l : length t - length u ≡ length p = omega (arith, simp length-append at (ap length parts)) in
      rw l (record {
        inside = omega arith;
        viable = rw (parts, take_at p u _ refl) viable;
        longest = λ m a b s.
            let k : m ≡ length p + (m - length p) = omega arith in
            let c : take m t ≡ p ++ take (m - length p) u = rw parts (ap (λ j. take j (p ++ u)) k ∙ take-append-add p u (m - length p)) in
            longer u refl (m - length p) (omega arith) (omega arith) (rw c at s);
      })

-- the laws of a form's whole texts
pub record Lawful (f : Form) : Type 0 where
  -- what is spelled is read back
  pub reads-back : (v : Value f) → Spellable f v → read_text f (spell f v) ≡ fine v
  -- nothing else is read
  pub reads_only : (t : List ℕ) (v : Value f) → read_text f t ≡ fine v → Spellable f v × (t ≡ spell f v)
  -- 01, Text: the first bad byte
  pub first-bad : (t : List ℕ) (n : ℕ) → read_text f t ≡ unfit n → Longest f t n
  -- two values are not spelled alike
  pub spell-injective : (v w : Value f) → Spellable f v → Spellable f w → spell f v ≡ spell f w → v ≡ w

module _ (f : Form) (decides : decided f ≡ true) where
  read_whole : (v : Value f) → Spellable f v → read f (spell f v) ≡ got v []
  read_whole v g = rw append-nil at (spelled-read f decides v g [] tt)

  ends-fine : (t : List ℕ) (x : Read (Value f)) (v : Value f) → Outcome (the_form f) t x → ended (length t) x ≡ fine v → Spellable f v × (t ≡ spell f v)
  unfolding ended
  ends-fine t (got a []) v o e = rw (← fine-same e) (o.good, o.parts ∙ append-nil (spell f a))
  ends-fine t (got a (b ∷ u)) v o e = unfit-fine e
  ends-fine t (bad u) v o e = unfit-fine e

  ends-unfit : (t : List ℕ) (x : Read (Value f)) (n : ℕ) → Outcome (the_form f) t x → ended (length t) x ≡ unfit n → Longest f t n
  unfolding ended
  ends-unfit t (got a []) n o e = unfit-fine (sym e)
  ends-unfit t (got a (b ∷ u)) n o e =
      rw (← unfit-same e)
      (longest-at f t (spell f a) (b ∷ u) o.parts ([], a, o.good, append-nil (spell f a))
      (λ w l v g s. let z : got a w ≡ got v [] = sym (o.steady w l) ∙ ap (read f) s ∙ read_whole v g in not-empty l (got_same z).1))
  ends-unfit t (bad u) n o e =
      rw (← unfit-same e) (longest-at f t o.before u o.parts (refused-viable f t u o) (λ w l v g s. bad-got (sym (o.steady w l) ∙ ap (read f) s ∙ read_whole v g)))

  pub lawful : Lawful f
  unfolding read_text ended
  lawful = record {
    reads-back = λ v g. rw (read_whole v g);
    reads_only = λ t v e. ends-fine t (read f t) v (form-read f decides t) e;
    first-bad = λ t n e. ends-unfit t (read f t) n (form-read f decides t) e;
    spell-injective = λ v w g h e. (got_same (sym (read_whole v g) ∙ ap (read f) e ∙ read_whole w h)).0;
  }
