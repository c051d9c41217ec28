-- Laws of specs/Keep.
use Rattle.meaning_numbers.specs.Place.{place_from}
use Rattle.meaning_numbers.proofs.Prelude.{◌≡◌, refl, sym, ap, ◌∙◌, true, false, cond, not, List, [], ◌∷◌, ◌++◌, map, None, Some, ℕ, suc, ◌+◌, arith, eqb, ltb, ℤ, length, set, length-append, length-map, sets, le_z, ◌<ℤ◌, ◌≤ℤ◌, clash_ℤ, eq-eqb, ne_eqb, eqb-true, eqb-false, ltb-true, ltb-false, lt-ltb, le-ltb, z-le, le_z-true, f-gt}
use Rattle.meaning_curves.specs.Limits.{value_in, first_outside}
use Rattle.meaning_text.proofs.{Reading.on-flag, Sets.sets-append}
use Rattle.numbers.specs.Narrow.{clamp}
use Rattle.text_lines.specs.{declared.Word.Word, declared.Field.Field, Follow.Said, Follow.told, Follow.named}
use Rattle.text_feed.specs.declared.Values.{Values}
use Rattle.text_feed.specs.Keep.{stored, leading, values_more, place_of, of_series, of_query, word_place, word_number, Kept, Holds}

-- ---- one more

stored_more : (base vs : List ℤ) (z : ℤ) → stored base (vs ++ (z ∷ [])) ≡ set (stored base vs) (length vs) (clamp z)
unfolding stored
stored_more base vs z =
    let e : 0 + length (map clamp vs) ≡ length vs = omega (arith, length-map vs clamp) in
    ap (sets base 0) (map-append vs (z ∷ [])) ∙ sets-append (map clamp vs) (clamp z ∷ []) base 0 ∙ rw e
  where
    map-append : (a b : List ℤ) → map clamp (a ++ b) ≡ map clamp a ++ map clamp b
    map-append [] b = refl
    map-append (x ∷ a) b = ap (λ l. clamp x ∷ l) (map-append a b)

leading-more : (vs : List ℤ) (z : ℤ) → leading (vs ++ (z ∷ [])) ≡ cond (eqb (leading vs) (length vs)) (cond (value_in z) (length vs + 1) (leading vs)) (leading vs)
unfolding leading
leading-more [] z = on-flag (value_in z) (λ e. rw e) (λ e. rw e)
leading-more (x ∷ vs) z =
    on-flag (value_in x)
    (λ e. on-flag (eqb (leading vs) (length vs))
    (λ f. rw (e, leading-more vs z, f) (on-flag (value_in z) (λ d. rw (d, eq-eqb (suc (leading vs)) (suc (length vs)) (ap suc (eqb-true (leading vs) (length vs) f))) (omega arith)) (λ d. rw (d, eq-eqb (suc (leading vs)) (suc (length vs)) (ap suc (eqb-true (leading vs) (length vs) f))))))
    (λ f. rw (e, leading-more vs z, f, ne_eqb (suc (leading vs)) (suc (length vs)) (λ d. eqb-false (leading vs) (length vs) f (omega arith)))))
    (λ e. rw (e, ne_eqb 0 (suc (length vs)) (λ d. omega arith)))

pub kept_more : (base vs : List ℤ) (v : Values) (buf : List ℤ) (z : ℤ) → Kept base vs v buf → Kept base (vs ++ (z ∷ [])) (values_more v z) (set buf v.count (clamp z))
unfolding values_more
kept_more base vs v buf z k = record {
  count = rw (length-append vs (z ∷ []), k.count);
  inside = rw (leading-more vs z, k.count, k.inside);
  lies = rw (k.lies, k.count) (sym (stored_more base vs z));
}

-- the place of the first value outside its limits
pub leading-outside : (vs : List ℤ) → first_outside vs ≡ cond (ltb (leading vs) (length vs)) (Some (leading vs)) None
unfolding first_outside place_from leading
leading-outside vs = let e : 0 + leading vs ≡ leading vs = omega arith in from vs 0 ∙ rw e
  where
    from : (vs : List ℤ) (k : ℕ) → place_from k (λ x. not (value_in x)) vs ≡ cond (ltb (leading vs) (length vs)) (Some (k + leading vs)) None
    from [] k = refl
    from (x ∷ vs) k =
        let e : k + suc (leading vs) ≡ suc k + leading vs = omega arith in
        on-flag (value_in x)
        (λ f. rw (f, from vs (suc k), e) (on-flag (ltb (leading vs) (length vs)) (λ t. rw (t, lt-ltb (suc (leading vs)) (suc (length vs)) (omega (arith, ltb-true _ (length vs) t)))) (λ t. rw (t, le-ltb (suc (leading vs)) (suc (length vs)) (omega (arith, ltb-false (leading vs) (length vs) t))))))
        (λ f. let z : k + 0 ≡ k = omega arith in rw (f, lt-ltb 0 (suc (length vs)) (omega arith), z))

pub kept-none : (base : List ℤ) → Kept base [] (record { count = 0; inside = 0 }) base
unfolding leading stored
kept-none base = record { count = refl; inside = refl; lies = refl }

module _ {kept asked : List ℤ} {g : Said} {numbers : List ℤ} {v w : Values} {series query : List ℤ} (h : Holds kept asked g numbers v w series query) where
  -- a number
  pub holds-told : (p : Field) (z : ℤ) → Holds kept asked (told p z g) (set numbers (place_of p) z) (cond (of_series p) (values_more v z) v) (cond (of_query p) (values_more w z) w)
      (cond (of_series p) (set series v.count (clamp z)) series) (cond (of_query p) (set query w.count (clamp z)) query)
  holds-told Field.Window z = record { alone = rw h.alone; first = h.first; second = h.second }
  holds-told Field.Width z = record { alone = rw h.alone; first = h.first; second = h.second }
  holds-told Field.Merge z = record { alone = rw h.alone; first = h.first; second = h.second }
  holds-told Field.Item z = record { alone = rw h.alone; first = kept_more _ _ _ _ z h.first; second = h.second }
  holds-told Field.Band z = record { alone = rw h.alone; first = h.first; second = h.second }
  holds-told Field.Threshold z = record { alone = rw h.alone; first = h.first; second = h.second }
  holds-told Field.Scale z = record { alone = rw h.alone; first = h.first; second = h.second }
  holds-told Field.Shift z = record { alone = rw h.alone; first = h.first; second = h.second }
  holds-told Field.Asked z = record { alone = rw h.alone; first = h.first; second = kept_more _ _ _ _ z h.second }
  holds-told Field.Entry z = record { alone = rw h.alone; first = kept_more _ _ _ _ z h.first; second = h.second }

  -- a word
  pub holds_named : (n : Word) → Holds kept asked (named n g) (set numbers (word_place n) (word_number n)) v w series query
  holds_named Word.Window = record { alone = rw h.alone; first = h.first; second = h.second }
  holds_named Word.Width = record { alone = rw h.alone; first = h.first; second = h.second }
  holds_named Word.Merge = record { alone = rw h.alone; first = h.first; second = h.second }
  holds_named Word.Series = record { alone = rw h.alone; first = h.first; second = h.second }
  holds_named Word.Find = record { alone = rw h.alone; first = h.first; second = h.second }
  holds_named Word.Raw = record { alone = rw h.alone; first = h.first; second = h.second }
  holds_named Word.Normal = record { alone = rw h.alone; first = h.first; second = h.second }
  holds_named Word.Query = record { alone = rw h.alone; first = h.first; second = h.second }
  holds_named Word.End = record { alone = rw h.alone; first = h.first; second = h.second }
  holds_named Word.Line = record { alone = rw h.alone; first = h.first; second = h.second }
  holds_named Word.LineEnd = record { alone = rw h.alone; first = h.first; second = h.second }
  holds_named (Word.Space p) = record { alone = rw h.alone; first = h.first; second = h.second }

-- ---- tests

pub gt-le_z : {a b : ℤ} → b <ℤ a → le_z a b ≡ false
gt-le_z {a} {b} h = on-flag (le_z a b) (λ e. absurd (clash_ℤ h (le_z-true e))) (λ e. e)

pub le-le_z : {a b : ℤ} → a ≤ℤ b → le_z a b ≡ true
le-le_z {a} {b} h = on-flag (le_z a b) (λ e. e) (λ e. absurd (omega (arith, z-le h, f-gt a b e)))
