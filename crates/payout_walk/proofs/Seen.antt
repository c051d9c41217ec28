-- What is known of the rows is a view of what has been said, so that a pass over a text comes to the text's own rows (`walked_by`); once an offset is filed wrongly nothing changes any more (`walked-stopped`).
use Rattle.meaning_numbers.proofs.Prelude.{◌≡◌, refl, sym, ap, ◌∙◌, List, [], ◌∷◌, ◌++◌, Option, None, Some, ℕ, suc, ◌+◌, ◌<◌, ◌≤◌, arith, ℤ, length, get_or, drop, length-append}
use Rattle.meaning_rows.specs.{declared.Head.Head, Index.Entry}
use Rattle.meaning_text.specs.{Form.Value, Read.Verdict, Read.fine, Read.unfit, Read.read_text, Texts.index_form, Texts.row_form}
use Rattle.meaning_text.proofs.Automaton.{going, feed, feed-one, feed-none, at_end, verdict_of}
use Rattle.numbers.specs.Narrow.{clamp, held}
use Rattle.entry_audit.proofs.Chunks.{or_else}
use Rattle.text_index.specs.{declared.Field.Field, declared.Moved.Moved, declared.State.State, Step.index_step, View.kept_at}
use Rattle.text_index.proofs.Follow.{Said, nothing_said, told, closed, value}
use Rattle.text_index.proofs.Order.{place_part, Order}
use Rattle.text_index.proofs.View.{Seen, seen, end_of, moved_to, keep, Whole, text-viewed, Kept, kept-end, kept-refuse}
use Rattle.payout_walk.specs.{declared.Walk.Walk, Walk.start_walk, Walk.after_run, Walk.tell_walk, Walk.shut_walk, Walk.runs_walked, Walk.rows_walked, Walk.Walked}

module _ (series : List ℤ) (h : Head) where
  -- ---- one more at the end

  runs-more : (k : ℕ) (low up : ℤ) (s : Option (ℕ × ℕ)) (l : List Entry) (e : Entry)
      → runs_walked series h k low up s (l ++ (e ∷ [])) ≡ after_run series h (record { low = low; up = up; left = held e.0; rows = k; found = runs_walked series h k low up s l }) (held e.1)
  unfolding runs_walked
  runs-more k low up s [] e = refl
  runs-more k low up s (x ∷ l) e = runs-more k low up (after_run series h (record { low = low; up = up; left = held x.0; rows = k; found = s }) (held x.1)) l e

  rows_more : (k : ℕ) (s : Option (ℕ × ℕ)) (l : List (Value row_form)) (r : Value row_form)
      → rows_walked series h k s (l ++ (r ∷ [])) ≡ runs_walked series h (k + length l) (clamp r.0) (clamp r.1.0) (rows_walked series h k s l) r.1.1
  unfolding rows_walked
  rows_more k s [] r = let e : k + 0 ≡ k = omega arith in rw e refl
  rows_more k s (x ∷ l) r =
      let e : k + suc (length l) ≡ suc k + length l = omega arith in
      rw e (rows_more (suc k) (runs_walked series h k (clamp x.0) (clamp x.1.0) s x.1.1) l r)

  -- ---- the view

  abbrev walk_of : Said → Walk
  walk_of g = record {
    low = clamp g.low;
    up = clamp g.up;
    left = held g.left;
    rows = length g.rows;
    found = runs_walked series h (length g.rows) (clamp g.low) (clamp g.up) (rows_walked series h 0 None g.rows) g.runs;
  }

  tells : (p : Field) (z : ℤ) (g : Said) → Order (place_part p) g → walk_of (told p z g) ≡ tell_walk series h p z (walk_of g)
  unfolding tell_walk runs_walked
  tells Field.Window z g o = refl
  tells Field.Width z g o = refl
  tells Field.Windows z g o = refl
  tells Field.Low z g o = rw o refl
  tells Field.Up z g o = rw o refl
  tells Field.Left z g o = refl
  tells Field.Right z g o = rw (runs-more (length g.rows) (clamp g.low) (clamp g.up) (rows_walked series h 0 None g.rows) g.runs (g.left, z)) refl

  shuts : (g : Said) → walk_of (closed g) ≡ shut_walk (walk_of g)
  unfolding shut_walk runs_walked
  shuts g =
      let r : Value row_form = (g.low, (g.up, g.runs)) in
      let e : 0 + length g.rows ≡ length g.rows = omega arith in
      rw (rows_more 0 None g.rows r, length-append g.rows (r ∷ []), e) refl

  abbrev out_of : Walk → Option (ℕ × ℕ)
  out_of t = t.found

  abbrev say : Value index_form → Option (ℕ × ℕ)
  say v = rows_walked series h 0 None v.1.1.1

  ended : (g : Said) → g.runs ≡ [] → out_of (walk_of g) ≡ say (value g)
  unfolding runs_walked
  ended g o = rw o refl

  start_is : walk_of nothing_said ≡ start_walk
  unfolding held runs_walked rows_walked
  start_is = refl

  -- what a pass over a text comes to
  abbrev pub WalkedTo : List ℕ → Verdict Walk
  WalkedTo t = end_of (Whole (tell_walk series h) shut_walk start_walk t)

  text-walked : (t : List ℕ) → verdict_of out_of (WalkedTo t) ≡ verdict_of say (read_text index_form t)
  text-walked t =
      ap (λ x. verdict_of out_of (end_of (Whole (tell_walk series h) shut_walk x t))) (sym start_is)
      ∙ text-viewed (tell_walk series h) shut_walk walk_of tells shuts out_of say ended t

  fine-same : {A : Type 0} {a b : A} → fine a ≡ fine b → a ≡ b
  fine-same e = cc

  unfit-fine : {A X : Type 0} {a : A} {n : ℕ} → unfit n ≡ fine a → X
  unfit-fine q = let z : ◌≡◌ {A = ℕ} 0 1 = cc in absurd (omega arith)

  -- a pass that comes to what is kept, and a pass over a text that cannot be read
  pub walked_by : (t : List ℕ) (x : Walk) → WalkedTo t ≡ fine x → Walked series h t x.found
  unfolding Walked
  walked_by t x e v r = fine-same (sym (ap (verdict_of out_of) e) ∙ text-walked t ∙ ap (verdict_of say) r)

  pub walked_none : (t : List ℕ) (p : ℕ) (s : Option (ℕ × ℕ)) → WalkedTo t ≡ unfit p → Walked series h t s
  unfolding Walked
  walked_none t p s e v r = unfit-fine (sym (ap (verdict_of out_of) e) ∙ text-walked t ∙ ap (verdict_of say) r)

  pub walked_end : (t : List ℕ) (s : State) (x : Walk) (i : ℕ) → Kept (tell_walk series h) shut_walk start_walk t s x i → length t ≤ i → Walked series h t x.found
  walked_end t s x i k g = by s (kept-end (tell_walk series h) shut_walk start_walk t s x i k g)
    where
      by : (s : State) → WalkedTo t ≡ at_end (kept_at s x) i → Walked series h t x.found
      by (State.In w n) e = walked_none t i x.found e
      by (State.At p n) e = walked_none t i x.found e
      by (State.Before b) e = walked_none t i x.found e
      by State.Done e = walked_by t x e

  pub walked-refuse : (t : List ℕ) (s : State) (x : Walk) (i : ℕ) → Kept (tell_walk series h) shut_walk start_walk t s x i → i < length t → index_step s (get_or t i 0) ≡ Moved.Refuse → Walked series h t x.found
  walked-refuse t s x i k b e = walked_none t i x.found (kept-refuse (tell_walk series h) shut_walk start_walk t s x i k b e)

  -- ---- an offset filed wrongly stays the first

  run-stays : (t : Walk) (r : ℕ) (p : ℕ × ℕ) → t.found ≡ Some p → after_run series h t r ≡ t.found
  unfolding after_run or_else
  run-stays t r p e = rw e refl

  tell-stays : (f : Field) (z : ℤ) (t : Walk) (p : ℕ × ℕ) → t.found ≡ Some p → (tell_walk series h f z t).found ≡ t.found
  unfolding tell_walk
  tell-stays Field.Window z t p e = refl
  tell-stays Field.Width z t p e = refl
  tell-stays Field.Windows z t p e = refl
  tell-stays Field.Low z t p e = refl
  tell-stays Field.Up z t p e = refl
  tell-stays Field.Left z t p e = refl
  tell-stays Field.Right z t p e = run-stays t (held z) p e

  -- what was found, at the end
  abbrev Ends : Option (ℕ × ℕ) → Verdict Walk → Type 0
  Ends s (fine x) = x.found ≡ s
  Ends s (unfit p) = Unit {0}

  -- .. from each state that has found one, over some bytes
  abbrev Stays : ℕ × ℕ → List ℕ → ℕ → Type 0
  Stays p l i = (x : Seen Walk) → x.kept.found ≡ Some p → Ends (Some p) (end_of (feed (keep (tell_walk series h) shut_walk) (going x i) l))

  fed-stays : (l : List ℕ) (s : State) (t : Walk) (i : ℕ) (p : ℕ × ℕ) → t.found ≡ Some p → Ends (Some p) (end_of (feed (keep (tell_walk series h) shut_walk) (going (seen s t) i) l))
  unfolding feed keep shut_walk
  fed-stays [] (State.In w n) t i p e = tt
  fed-stays [] (State.At q n) t i p e = tt
  fed-stays [] (State.Before b) t i p e = tt
  fed-stays [] State.Done t i p e = e
  fed-stays (b ∷ l) s t i p e = by (λ x g. fed-stays l x.state x.kept (suc i) p g) (index_step s b) refl
    where
      to : Stays p l (suc i) → (x : Seen Walk) → keep (tell_walk series h) shut_walk (seen s t) b ≡ Some x → x.kept.found ≡ t.found → Ends (Some p) (end_of (feed (keep (tell_walk series h) shut_walk) (going (seen s t) i) (b ∷ l)))
      to ih x k f = rw (feed-one (keep (tell_walk series h) shut_walk) (seen s t) x b l i k) (ih x (f ∙ e))

      by : Stays p l (suc i) → (m : Moved) → index_step s b ≡ m → Ends (Some p) (end_of (feed (keep (tell_walk series h) shut_walk) (going (seen s t) i) (b ∷ l)))
      by ih (Moved.To n) f = to ih (seen n t) (ap (λ m. moved_to (tell_walk series h) shut_walk m t) f) refl
      by ih (Moved.Value n q z) f = to ih (seen n (tell_walk series h q z t)) (ap (λ m. moved_to (tell_walk series h) shut_walk m t) f) (tell-stays q z t p e)
      by ih (Moved.Closed n) f = to ih (seen n (shut_walk t)) (ap (λ m. moved_to (tell_walk series h) shut_walk m t) f) refl
      by ih Moved.Refuse f = rw (feed-none (keep (tell_walk series h) shut_walk) (seen s t) b l i (ap (λ m. moved_to (tell_walk series h) shut_walk m t) f)) tt

  pub walked-stopped : (t : List ℕ) (s : State) (x : Walk) (i : ℕ) (p : ℕ × ℕ) → Kept (tell_walk series h) shut_walk start_walk t s x i → x.found ≡ Some p → Walked series h t x.found
  walked-stopped t s x i p k e = by (WalkedTo t) refl
    where
      stays : Ends (Some p) (WalkedTo t)
      stays = rw k.same (fed-stays (drop i t) s x i p e)

      by : (y : Verdict Walk) → WalkedTo t ≡ y → Walked series h t x.found
      by (fine y) f = rw (e ∙ sym (rw f at stays)) (walked_by t y f)
      by (unfit q) f = walked_none t q x.found f

  -- ---- how many rows are closed

  pub tell-rows : (p : Field) (z : ℤ) (t : Walk) → (tell_walk series h p z t).rows ≡ t.rows
  unfolding tell_walk
  tell-rows Field.Window z t = refl
  tell-rows Field.Width z t = refl
  tell-rows Field.Windows z t = refl
  tell-rows Field.Low z t = refl
  tell-rows Field.Up z t = refl
  tell-rows Field.Left z t = refl
  tell-rows Field.Right z t = refl

pub shut-rows : (t : Walk) → (shut_walk t).rows ≡ t.rows + 1
unfolding shut_walk
shut-rows t = refl
