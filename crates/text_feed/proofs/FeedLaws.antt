-- Laws of specs/Feed.
use Rattle.meaning_numbers.proofs.Prelude.{◌≡◌, refl, ◌∙◌, Bool, true, false, cond, List, Some, ℕ, suc, ◌+◌, ◌<◌, ◌≤◌, arith, ℤ, length, get_or, drop, set, length-set}
use Rattle.std.proofs.Common.{Ok, Err}
use Rattle.meaning_text.proofs.Automaton.{going, failed, feed, feed-turn, feed-refuse, feed-end}
use Rattle.numbers.specs.Narrow.{clamp}
use Rattle.text_lines.specs.Follow.{Said, nothing_said, told, named, at, moved, step}
use Rattle.text_lines.specs.{declared.Word.Word, declared.Field.Field, declared.State.State, declared.Moved.Moved, Step.line_step, Step.GoodState}
use Rattle.text_lines.proofs.Follow.{stays}
use Rattle.text_feed.specs.{declared.Values.Values, declared.Progress.Progress, Keep.values_more, Keep.place_of, Keep.of_series, Keep.of_query, Keep.word_place, Keep.word_number, Keep.Holds, Feed.Ready, Feed.Comes}
use Rattle.text_feed.proofs.Keep.{holds-told, holds_named}

-- ---- the loop over a piece

-- after i bytes of the piece
pub record Sofar (piece : List ℕ) (numbers₀ series₀ query₀ : List ℤ) (s₀ : State) (v₀ q₀ : Values) (start : ℕ) (numbers series query : List ℤ) (s : State) (v q : Values) (i : ℕ) : Type 0 where
  pub good : GoodState s
  pub first : v.count ≤ start + i
  pub second : q.count ≤ start + i
  pub within : i ≤ length piece
  pub alone-long : length numbers ≡ length numbers₀
  pub first-long : length series ≡ length series₀
  pub second-long : length query ≡ length query₀
  pub comes : (g : Said) (kept asked : List ℤ) → Holds kept asked g numbers₀ v₀ q₀ series₀ query₀
      → (n : Said) × Holds kept asked n numbers v q series query × (feed step (going (at s₀ g) start) piece ≡ feed step (going (at s n) (start + i)) (drop i piece))

pub sofar-start : (p : Progress) (piece : List ℕ) (numbers series query : List ℤ) → Ready p (length piece) → Sofar piece numbers series query p.state p.series p.query p.at numbers series query p.state p.series p.query 0
sofar-start p piece numbers series query r =
    let z : p.at + 0 ≡ p.at = omega arith in
    record {
      good = r.good;
      first = omega arith;
      second = omega arith;
      within = omega arith;
      alone-long = refl;
      first-long = refl;
      second-long = refl;
      comes = λ g kept asked h. (g, h, rw z);
    }

count-more : (t : Bool) (v : Values) (z : ℤ) → (cond t (values_more v z) v).count ≤ v.count + 1
unfolding values_more
count-more true v z = omega arith
count-more false v z = omega arith

set_long : (t : Bool) (l : List ℤ) (k : ℕ) (z : ℤ) → length (cond t (set l k z) l) ≡ length l
set_long true l k z = length-set l k z
set_long false l k z = refl

module _ {piece : List ℕ} {numbers₀ series₀ query₀ : List ℤ} {s₀ : State} {v₀ q₀ : Values} {start : ℕ} {numbers series query : List ℤ} {s : State} {v q : Values} {i : ℕ}
    (r : Sofar piece numbers₀ series₀ query₀ s₀ v₀ q₀ start numbers series query s v q i) (h : i < length piece) where
  -- what the automaton comes to, from what it has come to
  turn : (g n : Said) (m : State) (k : Said) → moved (line_step s (get_or piece i 0)) n ≡ Some (at m k) → feed step (going (at s₀ g) start) piece ≡ feed step (going (at s n) (start + i)) (drop i piece)
      → feed step (going (at s₀ g) start) piece ≡ feed step (going (at m k) (start + (i + 1))) (drop (i + 1) piece)
  unfolding step
  turn g n m k e f = let z : start + (i + 1) ≡ suc (start + i) = omega arith in f ∙ rw z (feed-turn step (at s n) (at m k) piece i (start + i) h e)

  stay : (m : State) (n k : Said) → moved (line_step s (get_or piece i 0)) n ≡ Some (at m k) → GoodState m
  unfolding step
  stay m n k e = stays _ _ _ r.good e

  by : (m : Moved) (n : Said) → line_step s (get_or piece i 0) ≡ m → moved (line_step s (get_or piece i 0)) n ≡ moved m n
  by m n e = rw e

  pub sofar-to : (m : State) → line_step s (get_or piece i 0) ≡ Moved.To m → Sofar piece numbers₀ series₀ query₀ s₀ v₀ q₀ start numbers series query m v q (i + 1)
  sofar-to m e = record {
    good = stay m nothing_said nothing_said (by _ nothing_said e);
    first = omega arith;
    second = omega arith;
    within = omega arith;
    alone-long = r.alone-long;
    first-long = r.first-long;
    second-long = r.second-long;
    comes = λ g kept asked o. let c = r.comes g kept asked o in (c.0, c.1, turn g c.0 m c.0 (by _ c.0 e) c.2);
  }

  pub sofar-value : (m : State) (p : Field) (z : ℤ) → line_step s (get_or piece i 0) ≡ Moved.Value m p z
      → Sofar piece numbers₀ series₀ query₀ s₀ v₀ q₀ start (set numbers (place_of p) z) (cond (of_series p) (set series v.count (clamp z)) series) (cond (of_query p) (set query q.count (clamp z)) query) m (cond (of_series p) (values_more v z) v) (cond (of_query p) (values_more q z) q) (i + 1)
  sofar-value m p z e = record {
    good = stay m nothing_said _ (by (Moved.Value m p z) nothing_said e);
    first = omega (arith, r.first, count-more (of_series p) v z);
    second = omega (arith, r.second, count-more (of_query p) q z);
    within = omega arith;
    alone-long = length-set numbers (place_of p) z ∙ r.alone-long;
    first-long = set_long (of_series p) series v.count (clamp z) ∙ r.first-long;
    second-long = set_long (of_query p) query q.count (clamp z) ∙ r.second-long;
    comes = λ g kept asked o. let c = r.comes g kept asked o in (told p z c.0, holds-told c.1 p z, turn g c.0 m (told p z c.0) (by (Moved.Value m p z) c.0 e) c.2);
  }

  pub sofar-ended : (m : State) (w : Word) → line_step s (get_or piece i 0) ≡ Moved.Ended m w → Sofar piece numbers₀ series₀ query₀ s₀ v₀ q₀ start (set numbers (word_place w) (word_number w)) series query m v q (i + 1)
  sofar-ended m w e = record {
    good = stay m nothing_said (named w nothing_said) (by _ nothing_said e);
    first = omega arith;
    second = omega arith;
    within = omega arith;
    alone-long = length-set numbers _ _ ∙ r.alone-long;
    first-long = r.first-long;
    second-long = r.second-long;
    comes = λ g kept asked o. let c = r.comes g kept asked o in (named w c.0, holds_named c.1 w, turn g c.0 m _ (by _ c.0 e) c.2);
  }

  pub sofar-refuse : line_step s (get_or piece i 0) ≡ Moved.Refuse → (g : Said) (kept asked : List ℤ) → Holds kept asked g numbers₀ v₀ q₀ series₀ query₀ → feed step (going (at s₀ g) start) piece ≡ failed (start + i)
  unfolding step
  sofar-refuse e g kept asked o = let c = r.comes g kept asked o in c.2 ∙ feed-refuse step _ piece i _ h (by Moved.Refuse c.0 e)

-- ---- the answers

pub comes-failed : (p : Progress) (piece : List ℕ) (numbers series query numbers' series' query' : List ℤ) (m : ℕ) (g : Said) (kept asked : List ℤ)
    → (Holds kept asked g numbers p.series p.query series query → feed step (going (at p.state g) p.at) piece ≡ failed m)
    → Comes p g kept asked piece numbers series query (Err m) numbers' series' query'
unfolding Comes
comes-failed p piece numbers series query numbers' series' query' m g kept asked f o = rw (f o)

pub comes-going : (p : Progress) (piece : List ℕ) (numbers series query numbers' series' query' : List ℤ) (s : State) (v q : Values) (i : ℕ)
    → Sofar piece numbers series query p.state p.series p.query p.at numbers' series' query' s v q i → length piece ≤ i
    → (g : Said) (kept asked : List ℤ) → Comes p g kept asked piece numbers series query (Ok (record { state = s; at = p.at + i; series = v; query = q })) numbers' series' query'
unfolding Comes
comes-going p piece numbers series query numbers' series' query' s v q i r h g kept asked o =
    let c = r.comes g kept asked o in
    rw (c.2, feed-end step _ piece i h) (refl, refl, c.1)
