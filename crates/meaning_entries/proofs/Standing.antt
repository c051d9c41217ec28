-- What stands in the buffers after a build that answered an index passes against the series (`build-stands`); so does what an extension leaves there, if the old index passes against the part of the series that it covers (`extend-stands`).
-- Each has at most as many rows and runs as windows. Both are laws of the promises, so of every function that keeps them.
use Rattle.std.specs.Prelude.{Ok, Err}
use Rattle.meaning_numbers.proofs.Prelude.{◌≡◌, refl, sym, ap, ◌∙◌, List, [], ◌∷◌, ◌++◌, map, None, Some, ℕ, ◌≤◌, arith, ℤ, pos, nat_abs, length, take, length-map, take-append_seam}
use Rattle.meaning_curves.specs.Curve.{window_count}
use Rattle.meaning_rows.specs.Index.{zero_row, Index, Entry, entries, lent, laid_out, all_runs}
use Rattle.meaning_rows.specs.{declared.Row.Row, declared.Head.Head, Runs.runs, Build.SetRow, Build.merged, Build.entry, Build.with_runs, Build.built_rows, Build.built, Extend.insert_rows, Extend.extended_rows, Extend.extended}
use Rattle.meaning_entries.specs.Extend.{ExtendCall, lent_extend, extend_index, extend_head, extend_counts, extend_after, extend_windows}
use Rattle.meaning_entries.specs.{Answers.held, Buffers.IndexBuffers, Buffers.filled, Buffers.lefts, Buffers.rights, Buffers.index_in, Answers.head_of, Build.BuildCall, Build.lent_build, Build.build_index, Build.build_head, Build.build_counts, Build.build_after, Build.build_windows, Audit.Passes, Audit.PassesCovered, Demand2.BuildKept, Demand2.ExtendKept}
use Rattle.meaning_entries.proofs.Made.{build-passes, build-most, extend-passes, extend-most}

-- an index of n rows and k runs out of buffers
abbrev pub index_of : Head → ℕ → ℕ → IndexBuffers → Index
index_of h n k b = lent h (take n b.rows) (take k b.left) (take k b.right)

-- it passes, and is at most as large as there are windows
pub record Stands (x : Index) (s : List ℤ) (windows n k : ℕ) : Type 0 where
  pub passes : Passes x s
  pub few-rows : n ≤ windows
  pub few-runs : k ≤ windows

-- the written entries of a buffer
take-filled : {A : Type 0} (z : A) (new old : List A) (n : ℕ) → n ≡ length new → take n (filled z new old) ≡ new
unfolding filled
take-filled z new old n e = rw e (take-append_seam new _)

-- entries of offsets are the pairs of their two columns
paired-runs : (xs : List (ℕ × ℕ)) (l : List Entry) → entries (lefts l) (rights l) ≡ l → entries (lefts (map entry xs ++ l)) (rights (map entry xs ++ l)) ≡ map entry xs ++ l
unfolding entries
paired-runs [] l h = h
paired-runs (x ∷ xs) l h = rw (paired-runs xs l h)

paired : (n : ℕ) (rows : List SetRow) → let l = all_runs (map (with_runs n) rows) in entries (lefts l) (rights l) ≡ l
unfolding all_runs with_runs entries
paired n [] = refl
paired n (r ∷ rows) = paired-runs (runs _ n) (all_runs (map (with_runs n) rows)) (paired n rows)

-- an index with the runs of sets of offsets, out of the buffers that it was put into
read_back : (w d n : ℕ) (rows : List SetRow) (b : IndexBuffers) → let x = laid_out (pos w) (pos d) (pos n) (map (with_runs n) rows) in index_of (head_of x) (length x.rows) (length x.runs) (index_in x b) ≡ x
unfolding index_in
read_back w d n rows b =
    let x = laid_out (pos w) (pos d) (pos n) _ in
    let l = take-filled 0 _ b.left _ (sym (length-map x.runs (λ (y : Entry). nat_abs y.0))) in
    let r = take-filled 0 _ b.right _ (sym (length-map x.runs (λ (y : Entry). nat_abs y.1))) in
    λ i. record {
      window = pos w;
      width = pos d;
      windows = pos n;
      rows = take-filled zero_row x.rows b.rows _ refl i;
      runs = ((λ j. entries (l j) (r j)) ∙ paired n rows) i;
    }

-- whatever index the answer tells of stands in the buffers that it was put into
stood : (x : Index) (s : List ℤ) (windows : ℕ) (before after : IndexBuffers) (h : Head) (n k : ℕ) → Some h ≡ Some (head_of x) → ◌≡◌ {A = ℕ × ℕ} (n, k) (length x.rows, length x.runs) → after ≡ index_in x before
    → index_of (head_of x) (length x.rows) (length x.runs) (index_in x before) ≡ x → Passes x s → (length x.rows ≤ windows) × (length x.runs ≤ windows) → Stands (index_of h n k after) s windows n k
stood x s windows before after h n k p c b whole passes most =
    let q : h ≡ head_of x = ap (λ o. elim o [ Some y ↦ y | None ↦ h ]) p in
    record {
      passes = rw ((λ i. index_of (q i) (c i).0 (c i).1 (b i)) ∙ whole) passes;
      few-rows = omega (arith, ap (λ z. z.0) c, most.0);
      few-runs = omega (arith, ap (λ z. z.1) c, most.1);
    }

module _ (s : List ℤ) (w d g : ℕ) (before : IndexBuffers) where
  abbrev build : BuildCall
  build = lent_build s w d g

  build-whole : let x = build_index build in index_of (head_of x) (length x.rows) (length x.runs) (index_in x before) ≡ x
  unfolding build_index built built_rows
  build-whole = let m = window_count _ w in read_back w d m (merged g m _) before

  pub build-stands : (after : IndexBuffers) (h : Head) (n k : ℕ) → BuildKept build before (Ok (held h n k)) after → Stands (index_of h n k after) s (build_windows build) n k
  unfolding build_head build_counts build_after
  build-stands after h n k kept =
      let e = sym kept.refused in
      stood _ s _ before after h n k (kept.headed ∙ rw (e, build_head)) (kept.counted ∙ rw (e, build_counts)) ((λ i. record { rows = kept.rows i; left = kept.left i; right = kept.right i }) ∙ rw (e, build_after))
      build-whole (build-passes build before e) (build-most build before e)

module _ (s : List ℤ) (head : Head) (from : List Row) (olds : List ℕ) (ends : List ℕ) (before : IndexBuffers) where
  abbrev extend : ExtendCall
  extend = lent_extend s head from olds ends

  extend-whole : let x = extend_index extend in index_of (head_of x) (length x.rows) (length x.runs) (index_in x before) ≡ x
  unfolding extend_index extended extended_rows
  extend-whole =
      read_back _ head.width (window_count _ _) (insert_rows _ _) before

  pub extend-stands : (after : IndexBuffers) (h : Head) (n k : ℕ) → ExtendKept extend before (Ok (held h n k)) after
      → PassesCovered extend.index s → Stands (index_of h n k after) s (extend_windows extend) n k
  unfolding extend_head extend_counts extend_after
  extend-stands after h n k kept p =
      let e = sym kept.refused in
      stood _ s _ before after h n k (kept.headed ∙ rw (e, extend_head)) (kept.counted ∙ rw (e, extend_counts)) ((λ i. record { rows = kept.rows i; left = kept.left i; right = kept.right i }) ∙ rw (e, extend_after))
      extend-whole (extend-passes extend before e p) (extend-most extend before e)
