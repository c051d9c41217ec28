-- Laws of specs/Found.
use Prim.Native.Nat.{ℕ, ◌+◌, ◌-◌, ◌<◌, ◌≤◌, min}
use lib.IntN.{ℤ, pos}
use lib.ListN.{length, get_or, take, length-take}
use lib.Seq.{take_all, get_or-take}
use mathlib.Core.List.{List, [], ◌∷◌, ◌++◌, append_assoc, map}
use mathlib.Core.Path.{◌≡◌, refl, ◌∙◌}
use native.Mathlib.Omega.{arith}
use Rattle.meaning_text.specs.{Bytes.bytes, Number.spellℤ, Form.spell, Form.spell_many, Texts.at_form, Texts.found_text}
use Rattle.meaning_entries.specs.Demand3.{pairs}
use Rattle.meaning_entries.proofs.Pairs.{length_pairs, get_d-pairs}
use Rattle.text_put.specs.Put.{Put}
use Rattle.text_put.proofs.Put.{put_then}
use Rattle.text_write.proofs.Write.{many-turn}
use Rattle.text_list.specs.Found.{match_text, matches_text}

many-map : {A B : Type 0} (one : B → List ℕ) (f : A → B) (l : List A) → spell_many one (map f l) ≡ spell_many (λ x. one (f x)) l
unfolding spell_many
many-map one f [] = refl
many-map one f (x ∷ l) = rw (many-map one f l)

matches-said : (l : List (ℕ × ℕ)) → spell_many (spell at_form) (map (λ x. (pos x.0, pos x.1)) l) ≡ matches_text l
unfolding matches_text match_text
matches-said l = many-map {B = ℤ × ℤ} (spell at_form) (λ x. (pos x.0, pos x.1)) l

-- the list's text is its counts, its matches and its end
pub found-parts : (matches candidates : ℕ) (l : List (ℕ × ℕ))
    → (((((bytes "(found " ++ spellℤ (pos matches)) ++ bytes " (candidates ") ++ spellℤ (pos candidates)) ++ bytes ")\n") ++ matches_text l) ++ bytes ")\n" ≡ found_text matches candidates l
unfolding found_text spell
found-parts matches candidates l = rw (matches-said l) (simp append_assoc)

-- ---- the loop over the matches

-- after i of n matches
pub record Matches (old : List ℕ) (at count : ℕ) (os ds : List ℕ) (n : ℕ) (buf : List ℕ) (to i : ℕ) : Type 0 where
  pub put : Put old at (matches_text (take i (take count (pairs os ds)))) buf to
  pub within : i ≤ n
  pub room : n ≡ min count (min (length os) (length ds) - 0)

pub matches-start : (old : List ℕ) (at count : ℕ) (os ds : List ℕ) (n : ℕ) (buf : List ℕ) (to : ℕ) → n ≡ min count (min (length os) (length ds) - 0) → Put old at [] buf to → Matches old at count os ds n buf to 0
unfolding matches_text spell_many
matches-start old at count os ds n buf to e p = record { put = p; within = omega arith; room = e }

module _ {old : List ℕ} {at count : ℕ} {os ds : List ℕ} {n : ℕ} {buf : List ℕ} {to i : ℕ} (r : Matches old at count os ds n buf to i) where
  listed : length (take count (pairs os ds)) ≡ n
  listed = simp length-take (omega (arith, length_pairs os ds, r.room))

  pub matches-turn : i < n → {new : List ℕ} {next : ℕ} → Put buf to (spell at_form (pos (get_or os i 0), pos (get_or ds i 0))) new next → Matches old at count os ds n new next (i + 1)
  unfolding matches_text match_text
  matches-turn h p =
      let e : get_or (take count (pairs os ds)) i (0, 0) ≡ (get_or os i 0, get_or ds i 0) =
      get_or-take count (pairs os ds) i (0, 0) (omega (arith, r.room)) ∙ get_d-pairs os ds i (omega (arith, r.room)) (omega (arith, r.room)) in
      record {
        put = rw (many-turn match_text (take count (pairs os ds)) (0, 0) i (omega (arith, listed)), e) (put_then r.put p);
        within = omega arith;
        room = r.room;
      }

  pub matches-end : n ≤ i → Put old at (matches_text (take count (pairs os ds))) buf to
  matches-end h = let e : take i (take count (pairs os ds)) ≡ take count (pairs os ds) = take_all i _ (omega (arith, listed)) in rw e at r.put
