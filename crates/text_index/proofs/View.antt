-- Laws of specs/View.
use Rattle.meaning_numbers.proofs.Prelude.{ℕ, suc, ◌+◌, ◌<◌, ◌≤◌, ℤ, length, get_or, drop, List, [], ◌∷◌, Option, None, Some, ◌≡◌, refl, ap, ◌∙◌, arith}
use Rattle.meaning_text.specs.{Form.Value, Read.Verdict, Read.fine, Read.unfit, Read.read_text, Texts.index_form}
use Rattle.meaning_text.proofs.Automaton.{Fed, going, failed, feed, feed-failed, feed-turn, feed-refuse, feed-end, on-option, at_end, judged, verdict_of}
use Rattle.text_index.specs.{declared.Field.Field, declared.State.State, declared.Moved.Moved, Step.index_step, Step.GoodState, View.kept_at}
use Rattle.text_index.proofs.Order.{place_part, state_part, Order, order-step, order_value}
use Rattle.text_index.proofs.Follow.{Said, nothing_said, told, closed, value, Reading, moved, step, accept, accept_state, start, index-good, stays, index-comes}

-- a state, and what has been kept
pub record Seen (T : Type 0) : Type 0 where
  pub state : State
  pub kept : T

abbrev pub seen : {T : Type 0} → State → T → Seen T
seen s t = record { state = s; kept = t }

abbrev pub end_of : {T : Type 0} → Fed (Seen T) → Verdict T
end_of (going x p) = at_end (kept_at x.state x.kept) p
end_of (failed p) = unfit p

-- the order after some bytes
abbrev pub Ordered : Fed Reading → Type 0
Ordered (going x p) = Order (state_part x.state) x.said
Ordered (failed p) = Unit {0}

pub fed-ordered : (l : List ℕ) (x : Reading) (p : ℕ) → GoodState x.state → Order (state_part x.state) x.said → Ordered (feed step (going x p) l)
unfolding feed
fed-ordered [] x p h o = o
fed-ordered (b ∷ l) x p h o =
    on-option (step x b)
    (λ n e. rw e (fed-ordered l n (suc p) (stays x b n h e) (order-step x b n h o e)))
    (λ e. rw (e, feed-failed step l p) tt)

module _ {T : Type 0} (tell : Field → ℤ → T → T) (shut : T → T) where
  abbrev pub moved_to : Moved → T → Option (Seen T)
  moved_to (Moved.To s) t = Some (seen s t)
  moved_to (Moved.Value s p z) t = Some (seen s (tell p z t))
  moved_to (Moved.Closed s) t = Some (seen s (shut t))
  moved_to Moved.Refuse t = None

  unfoldable pub keep : Seen T → ℕ → Option (Seen T)
  keep x b = moved_to (index_step x.state b) x.kept

  module _ (view : Said → T) (tells : (p : Field) (z : ℤ) (g : Said) → Order (place_part p) g → view (told p z g) ≡ tell p z (view g)) (shuts : (g : Said) → view (closed g) ≡ shut (view g)) where
    abbrev seen_of : Reading → Seen T
    seen_of x = seen x.state (view x.said)

    abbrev seen_maybe : Option Reading → Option (Seen T)
    seen_maybe (Some x) = Some (seen_of x)
    seen_maybe None = None

    abbrev seen_fed : Fed Reading → Fed (Seen T)
    seen_fed (going x p) = going (seen_of x) p
    seen_fed (failed p) = failed p

    moved-seen : (s : State) (b : ℕ) (g : Said) (m : Moved) → index_step s b ≡ m → Order (state_part s) g → moved_to m (view g) ≡ seen_maybe (moved m g)
    moved-seen s b g (Moved.To n) e o = refl
    moved-seen s b g (Moved.Value n p z) e o = rw (tells p z g (order_value s b n p z g e o)) refl
    moved-seen s b g (Moved.Closed n) e o = rw (shuts g) refl
    moved-seen s b g Moved.Refuse e o = refl

    step-seen : (x : Reading) (b : ℕ) → Order (state_part x.state) x.said → keep (seen_of x) b ≡ seen_maybe (step x b)
    unfolding keep step
    step-seen x b o = moved-seen x.state b x.said _ refl o

    fed-seen : (l : List ℕ) (x : Reading) (p : ℕ) → GoodState x.state → Order (state_part x.state) x.said → feed keep (going (seen_of x) p) l ≡ seen_fed (feed step (going x p) l)
    unfolding feed
    fed-seen [] x p h o = refl
    fed-seen (b ∷ l) x p h o =
        on-option (step x b)
        (λ n e. rw (step-seen x b o, e) (fed-seen l n (suc p) (stays x b n h e) (order-step x b n h o e)))
        (λ e. rw (step-seen x b o, e, feed-failed keep l p, feed-failed step l p) refl)

    module _ {A : Type 0} (out : T → A) (say : Value index_form → A) (same : (g : Said) → g.runs ≡ [] → out (view g) ≡ say (value g)) where
      end_by : (s : State) (g : Said) (p : ℕ) → Order (state_part s) g → verdict_of out (at_end (kept_at s (view g)) p) ≡ verdict_of say (at_end (accept_state s g) p)
      end_by (State.In w k) g p o = refl
      end_by (State.At q n) g p o = refl
      end_by (State.Before t) g p o = refl
      end_by State.Done g p o = ap fine (same g o)

      ends_by : (f : Fed Reading) → Ordered f → verdict_of out (end_of (seen_fed f)) ≡ verdict_of say (judged accept f)
      unfolding accept
      ends_by (going x p) o = end_by x.state x.said p o
      ends_by (failed p) o = refl

      pub text-viewed : (t : List ℕ) → verdict_of out (end_of (feed keep (going (seen_of start) 0) t)) ≡ verdict_of say (read_text index_form t)
      text-viewed t = rw (index-comes t, fed-seen t start 0 index-good (refl, refl)) (ends_by (feed step _ t) (fed-ordered t start 0 index-good (refl, refl)))

-- ---- a loop over the bytes

-- a good state stays good
abbrev pub GoodMoved : Moved → Type 0
GoodMoved (Moved.To n) = GoodState n
GoodMoved (Moved.Value n p z) = GoodState n
GoodMoved (Moved.Closed n) = GoodState n
GoodMoved Moved.Refuse = Unit {0}

pub step-good : (s : State) (b : ℕ) (m : Moved) → GoodState s → index_step s b ≡ m → GoodMoved m
unfolding step
step-good s b (Moved.To n) h e = stays _ b _ h (ap (λ (m : Moved). moved m nothing_said) e)
step-good s b (Moved.Value n p z) h e = stays _ b _ h (ap (λ (m : Moved). moved m nothing_said) e)
step-good s b (Moved.Closed n) h e = stays _ b _ h (ap (λ (m : Moved). moved m nothing_said) e)
step-good s b Moved.Refuse h e = tt

module _ {T : Type 0} (tell : Field → ℤ → T → T) (shut : T → T) (t₀ : T) (text : List ℕ) where
  -- what a text comes to
  abbrev pub Whole : Fed (Seen T)
  Whole = feed (keep tell shut) (going (seen start.state t₀) 0) text

  -- after i bytes
  pub record Kept (s : State) (t : T) (i : ℕ) : Type 0 where
    pub good : GoodState s
    pub inside : i ≤ length text
    pub same : Whole ≡ feed (keep tell shut) (going (seen s t) i) (drop i text)

  pub kept-start : Kept start.state t₀ 0
  kept-start = record { good = index-good; inside = omega arith; same = refl }

  module _ (s : State) (t : T) (i : ℕ) (r : Kept s t i) (h : i < length text) where
    kept_on : (m : Moved) (n : State) (u : T) → index_step s (get_or text i 0) ≡ m → GoodState n → moved_to tell shut m t ≡ Some (seen n u) → Kept n u (i + 1)
    unfolding keep
    kept_on m n u e g k =
        let q : suc i ≡ i + 1 = omega arith in
        record {
          good = g;
          inside = omega arith;
          same = r.same ∙ feed-turn _ _ _ text i i h (ap (λ (x : Moved). moved_to tell shut x t) e ∙ k) ∙ rw q;
        }

    pub kept-to : (n : State) → index_step s (get_or text i 0) ≡ Moved.To n → Kept n t (i + 1)
    kept-to n e = kept_on (Moved.To n) n t e (step-good s _ (Moved.To n) r.good e) refl

    pub kept-value : (n : State) (p : Field) (z : ℤ) → index_step s (get_or text i 0) ≡ Moved.Value n p z → Kept n (tell p z t) (i + 1)
    kept-value n p z e = kept_on _ n (tell p z t) e (step-good s _ _ r.good e) refl

    pub kept-closed : (n : State) → index_step s (get_or text i 0) ≡ Moved.Closed n → Kept n (shut t) (i + 1)
    kept-closed n e = kept_on _ n (shut t) e (step-good s _ _ r.good e) refl

    pub kept-refuse : index_step s (get_or text i 0) ≡ Moved.Refuse → end_of Whole ≡ unfit i
    unfolding keep
    kept-refuse e = ap end_of (r.same ∙ feed-refuse _ _ text i i h (rw e))

  pub kept-end : (s : State) (t : T) (i : ℕ) → Kept s t i → length text ≤ i → end_of Whole ≡ at_end (kept_at s t) i
  kept-end s t i r h = ap end_of (r.same ∙ feed-end _ _ text i h)
