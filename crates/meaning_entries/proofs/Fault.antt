-- The fault that 02, item 1 is for, ruled out: a search fell into an extension, went through the old index over the longer series, and passed over the windows that reach into new prices.
-- An index was made for a series and prices have come since, any number of them: no search is refused for going through it (`accepted`), and one that kept its promise lists exactly all matches of the longer series, which is what a scan of all offsets lists (`grown-scans`).
-- So through what a build left in the buffers (`build-scans`), through the old index of an extension that is cut off after any number of its new prices (`cut-off-scans`), and through what an extension left (`extend-scans`). Laws of the promises, so of every function that keeps them.
use Rattle.std.specs.Prelude.{Ok, Err}
use Rattle.meaning_numbers.proofs.Prelude.{◌≡◌, refl, sym, ap, subst, ◌∙◌, List, ◌++◌, None, ℕ, ◌+◌, ◌-◌, ◌≤◌, arith, ℤ, pos, nat_abs, ◌-ℤ◌, length, length-take, take, take-append_seam, take-take, zarith, z-add, z-sub}
use Rattle.meaning_rows.proofs.Judge.{none-bad}
use Rattle.meaning_rows.specs.{declared.Row.Row, declared.Head.Head, Index.Index, Index.lent, Index.covered}
use Rattle.meaning_filter.specs.{declared.Ask.Ask, Matches.Exactly}
use Rattle.meaning_filter.proofs.Matches.{all-exactly}
use Rattle.meaning_entries.specs.Search.{SearchCall, SearchBuffers, lent_ask, lent_search, question}
use Rattle.meaning_entries.specs.{Answers.held, Buffers.IndexBuffers, Build.lent_build, Extend.lent_extend, Refusal.ill_formed, Refusal.more_windows, Audit.Passes, Audit.PassesCovered, Demand2.BuildKept, Demand2.ExtendKept, Demand3.list_in, Demand3.Lists, Demand3.Scans}
use Rattle.meaning_entries.proofs.{Lines.more-passes, Demand3.all_listed, Passes.passed, Standing.index_of, Standing.build-stands, Standing.extend-stands}

-- such a search is refused for its own input and room alone, never for its index; by 21 no search is (`search-never-21`)
pub accepted : (x : Index) (s : List ℤ) → PassesCovered x s → ((ill_formed x).place ≡ None) × ((more_windows x (length s)).place ≡ None)
unfolding ill_formed
accepted x s p =
    let y = passed x (covered x s) p in
    let short : length (covered x s) ≤ length s = simp length-take (omega arith) in
    let w : x.window ≡ pos (nat_abs x.window) = y.formed.head.window.is in
    let n : x.windows ≡ pos (nat_abs x.windows) = y.formed.head.windows.is in
    (none-bad x y.formed, more-passes x (length s) (omega (zarith, y.windows, z-add (pos (length s) -ℤ x.window) (pos 1), z-sub (pos (length s)) x.window)))

-- through an index that passes against the part that it covers
covered-scans : (c : SearchCall) (count : ℕ) (after : SearchBuffers) → PassesCovered c.index c.series → Lists c count after → Scans c count after
covered-scans c count after p l =
    let a = all_listed c count (list_in count after) (record { passes = p; before = l.0; after = after; candidates = l.1; kept = l.2; listed = refl }) in
    record { all = a.0; exact = subst (Exactly (question c)) (sym a.0) (all-exactly (question c)); long = a.1 ∙ ap length (sym a.0) }

-- `Scans` leaves one count and one list
pub scans-only : (c : SearchCall) (n k : ℕ) (a b : SearchBuffers) → Scans c n a → Scans c k b → (n ≡ k) × (list_in n a ≡ list_in k b)
scans-only c n k a b s t = let e = s.all ∙ sym t.all in (s.long ∙ ap length e ∙ sym t.long, e)

-- an index covers what it passes against, whatever comes behind it
still-passes : (x : Index) (s more : List ℤ) → Passes x s → PassesCovered x (s ++ more)
still-passes x s more p =
    let e : nat_abs x.windows + nat_abs x.window - 1 ≡ length s = omega (arith, (passed x s p).windows) in
    rw (e, take-append_seam s more) p

pub grown-scans : (c : SearchCall) (s more : List ℤ) (count : ℕ) (after : SearchBuffers) → Passes c.index s → c.series ≡ s ++ more → Lists c count after → Scans c count after
grown-scans c s more count after p e l = covered-scans c count after (rw e (still-passes c.index s more p)) l

-- a search of a series through the first rows and runs of buffers
abbrev search_of : List ℤ → Head → ℕ → ℕ → IndexBuffers → Ask → List ℤ → SearchCall
search_of s h n k b ask q = record { series = s; index = index_of h n k b; query = q; ask = lent_ask ask }

module _ (ask : Ask) (q : List ℤ) (count : ℕ) (after : SearchBuffers) where
  -- a build over s, and prices that came since
  pub build-scans : (s more : List ℤ) (w d g : ℕ) (old new : IndexBuffers) (h : Head) (n k : ℕ) → BuildKept (lent_build s w d g) old (Ok (held h n k)) new
      → Lists (search_of (s ++ more) h n k new ask q) count after → Scans (search_of (s ++ more) h n k new ask q) count after
  build-scans s more w d g old new h n k kept l = grown-scans _ s more count after (build-stands s w d g old new h n k kept).passes refl l

  module _ (s : List ℤ) (head : Head) (rows : List Row) (left right : List ℕ) (passes : PassesCovered (lent head rows left right) s) where
    -- the extension of this index over s is cut off: of its new prices, so many have come, and the old index is what there is
    pub cut-off-scans : (came : ℕ) → let c = lent_search (take (head.windows + head.window - 1 + came) s) head rows left right ask q in Lists c count after → Scans c count after
    cut-off-scans came l =
        let k = head.windows + head.window - 1 in
        covered-scans _ count after (rw (take-take k (k + came) s (omega arith)) passes) l

    -- it has ended, and prices came since
    pub extend-scans : (more : List ℤ) (old new : IndexBuffers) (h : Head) (n k : ℕ) → ExtendKept (lent_extend s head rows left right) old (Ok (held h n k)) new
        → Lists (search_of (s ++ more) h n k new ask q) count after → Scans (search_of (s ++ more) h n k new ask q) count after
    extend-scans more old new h n k kept l = grown-scans _ s more count after (extend-stands s head rows left right old new h n k kept passes).passes refl l
