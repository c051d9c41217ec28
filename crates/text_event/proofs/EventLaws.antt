-- Laws of specs/Event.
use Rattle.meaning_numbers.proofs.Prelude.{◌≡◌, List, ℕ, ◌+◌, ◌<◌, ◌≤◌, arith, ℤ, length, get_or}
use Rattle.text_index.specs.{declared.Field.Field, declared.State.State, declared.Moved.Moved, Step.index_step}
use Rattle.text_event.specs.Event.{Quiet, still, more, ValueAt, ClosedAt, at_runs, at_rows, RunAt, OpenAt, RunsFrom, none, one}

-- ---- what an event keeps

module _ {T : Type 0} (tell : Field → ℤ → T → T) (text : List ℕ) (P : State → T → ℕ → Type 0)
    (to : (s : State) (t : T) (i : ℕ) → P s t i → i < length text → (n : State) → index_step s (get_or text i 0) ≡ Moved.To n → P n t (i + 1))
    (value : (s : State) (t : T) (i : ℕ) → P s t i → i < length text → (n : State) (p : Field) (z : ℤ) → index_step s (get_or text i 0) ≡ Moved.Value n p z → P n (tell p z t) (i + 1)) where
  pub quiet_keeps : {s : State} {i : ℕ} {n : State} {j : ℕ} (t : T) → Quiet text s i n j → P s t i → P n t j
  quiet_keeps t still p = p
  quiet_keeps t (more {n} {m} {j} q h e) p = to n t j (quiet_keeps t q p) h m e

  pub value_keeps : {s : State} {i : ℕ} {n : State} {p : Field} {z : ℤ} {j : ℕ} (t : T) → ValueAt text s i n p z j → P s t i → P n (tell p z t) j
  value_keeps {s} {i} {n} {p} {z} {j} t v k = rw v.next (value v.last t v.place (quiet_keeps t v.quiet k) v.inside n p z v.ends)

  pub run-keeps : {s : State} {i : ℕ} {l r : ℤ} {j : ℕ} (t : T) → RunAt text s i l r j → P s t i → P at_runs (tell Field.Right r (tell Field.Left l t)) j
  run-keeps {s} {i} {l} {r} {j} t v k = value_keeps _ v.right (value_keeps t v.left k)

  pub row_keeps : {i : ℕ} {low up l r : ℤ} {j : ℕ} (t : T) → OpenAt text i low up l r j → P at_rows t i → P at_runs (tell Field.Right r (tell Field.Left l (tell Field.Up up (tell Field.Low low t)))) j
  row_keeps {i} {low} {up} {l} {r} {j} t v k =
      run-keeps _ v.run (value_keeps _ v.row.upper (value_keeps t v.row.lower k))

  pub runs-keeps : {t : T} {i : ℕ} {u : T} {j : ℕ} → RunsFrom tell text t i u j → P at_runs t i → P at_runs u j
  runs-keeps none k = k
  runs-keeps (one {u} m v) k = run-keeps u v (runs-keeps m k)

-- ---- places go up

pub quiet-up : {text : List ℕ} {s : State} {i : ℕ} {n : State} {j : ℕ} → Quiet text s i n j → i ≤ j
quiet-up still = omega arith
quiet-up (more q h e) = omega (arith, quiet-up q)

pub value-up : {text : List ℕ} {s : State} {i : ℕ} {n : State} {p : Field} {z : ℤ} {j : ℕ} → ValueAt text s i n p z j → (i < j) × (j ≤ length text)
value-up v = (omega (arith, quiet-up v.quiet, v.next), omega arith)

pub run_up : {text : List ℕ} {s : State} {i : ℕ} {l r : ℤ} {j : ℕ} → RunAt text s i l r j → (i < j) × (j ≤ length text)
run_up v = let a = value-up v.left in let b = value-up v.right in (omega arith, b.1)

pub runs_up : {T : Type 0} {tell : Field → ℤ → T → T} {text : List ℕ} {t : T} {i : ℕ} {u : T} {j : ℕ} → RunsFrom tell text t i u j → i ≤ length text → (i ≤ j) × (j ≤ length text)
runs_up none h = (omega arith, h)
runs_up (one m v) h = let a = runs_up m h in let b = run_up v in (omega arith, b.1)

pub row_up : {text : List ℕ} {i : ℕ} {low up l r : ℤ} {j : ℕ} → OpenAt text i low up l r j → (i < j) × (j ≤ length text)
row_up v = let a = value-up v.row.lower in let b = value-up v.row.upper in let d = run_up v.run in (omega arith, d.1)

pub closed-up : {text : List ℕ} {s : State} {i : ℕ} {n : State} {j : ℕ} → ClosedAt text s i n j → (i < j) × (j ≤ length text)
closed-up v = (omega (arith, quiet-up v.quiet, v.next), omega arith)
