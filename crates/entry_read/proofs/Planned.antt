-- A plan that nothing refuses is one for a text that can be read, and the columns of the run buffer by the plan.
use Prim.Native.Nat.{ℕ}
use Rattle.std.specs.Prelude.{Ok, Err}
use Rattle.meaning_entries.specs.declared.{Held.Held, Refusal.Refusal}
use lib.ListN.{length, replicate}
use mathlib.Core.List.{List}
use mathlib.Core.Path.{◌≡◌, refl, sym, ap}
use native.Mathlib.Omega.{arith}
use Rattle.meaning_rows.specs.Index.{Index}
use Rattle.meaning_text.specs.{Form.Value, Read.Verdict, Read.fine, Read.unfit, Read.read_text, Texts.index_form}
use Rattle.meaning_entries.proofs.Again.{text-fine}
use Rattle.entry_read.specs.{Plan.plan_scanned, Plan.plan_for, Plan.text_runs, Plan.held_lefts, Plan.held_rights, Plan.column_after, Runs.FilledRuns}

pub on-verdict : {A B : Type 0} (x : Verdict A) → ((a : A) → x ≡ fine a → B) → ((p : ℕ) → x ≡ unfit p → B) → B
on-verdict (fine a) f g = f a refl
on-verdict (unfit p) f g = g p refl

pub readable : (t : List ℕ) (rows runs : ℕ) {m : Held} → plan_for t rows runs ≡ Ok m → (v : Value index_form) × (read_text index_form t ≡ fine v)
unfolding plan_scanned
readable t rows runs h =
    on-verdict _
    (λ v e. (v, e))
    (λ p e. not-both (rw e at h))
  where
    not-both : {m : Held} {r : Refusal} {A : Type 0} → Err r ≡ Ok m → A
    not-both q = let z : ◌≡◌ {A = ℕ} 0 1 = cc in absurd (omega arith)

-- a refusal alters nothing
pub column-stays : (r : Refusal) (new old : List ℕ) → old ≡ column_after (Err r) new old
unfolding column_after
column-stays r new old = refl

-- a buffer that was cleared and filled
module _ (t left right : List ℕ) (m : Held) (rows runs : ℕ) (e : Ok m ≡ plan_for t rows runs) (z w left' right' : List ℕ) (a : z ≡ replicate (length left) 0) (b : w ≡ replicate (length right) 0) (f : FilledRuns t z w left' right') where
  pub column-filled : (left' ≡ column_after (Ok m) (held_lefts (text_runs t)) left) × (right' ≡ column_after (Ok m) (held_rights (text_runs t)) right)
  unfolding column_after FilledRuns
  column-filled =
      let v = readable t rows runs (sym e) in
      let g = f v.0 v.1 in
      rw (ap (λ (x : Index). x.runs) (text-fine t v.0 v.1), ← a, ← b) (g.0, g.1)
