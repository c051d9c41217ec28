-- Finding candidates, where nothing refuses the search before it looks: what its parts ask for is had (`put-asked`, `meet-asked`, `hand-asked`), and what they promise is that the candidates are gathered (`gathered`). By the plan that is the promise of finding (`halts`, `went`).
use Prim.Native.Nat.{ℕ, zero, suc, ◌+◌, ◌-◌, ◌*◌, ◌/◌, ◌<◌, ◌≤◌}
use Rattle.std.specs.Prelude.{Ok, Err}
use Rattle.std.specs.declared.result.Result.{Result}
use lib.Dec.{leb, eqb}
use lib.IntN.{ℤ}
use lib.ListN.{length, get_or, length-replicate}
use mathlib.Core.Bool.{Bool, ◌||◌}
use mathlib.Core.List.{List, [], map}
use mathlib.Core.Path.{◌≡◌, refl, sym, ap, ◌∙◌}
use native.Mathlib.Nat.{div-le_self, div-mul-le_self}
use native.Mathlib.Omega.{arith}
use Rattle.meaning_rows.specs.{declared.Row.Row, declared.Head.Head, Index.Index, Index.lent, Index.entries, Runs.runs}
use Rattle.meaning_rows.proofs.Runs.{runs-cong}
use Rattle.meaning_filter.specs.{declared.Ask.Ask, Range.range_of, Range.ranges, Candidates.admits, Matches.candidate_at, Matches.candidate_runs, Matches.candidate_count}
use Rattle.meaning_filter.proofs.Candidates.{count, count-cong}
use Rattle.meaning_entries.specs.Buffers.{filled, pair_room}
use Rattle.meaning_entries.specs.Search.{SearchCall, SearchBuffers, lent_search, question, list_room, search_plan}
use Rattle.rows_judge.specs.Judged.{Judged, judged_of}
use Rattle.rows_judge.proofs.Scan.{length-entries}
use Rattle.meaning_entries.specs.declared.Refusal.{Refusal}
use Rattle.refusals.specs.Refusal.{refuses}
use Rattle.candidate_counts.proofs.{LeadingLaws.leading, LeadingLaws.Counted, Leading.leading-all}
use Rattle.candidate_met.specs.{declared.Span.Span, Met.clamp_of, Met.met_span}
use Rattle.candidate_met.proofs.{Parts.FoundAll, Meaning.cleared-zeros, Meaning.found_all, Stored.raised-most, Stored.lowered, Spanned.span-met, Spanned.span-inside, Spanned.span-few, Spanned.clamp-stands, Spanned.climbs}
use Rattle.candidate_plan.specs.{Tables.plan_of, Allowed.Allowed, Allowed.the_plan, Allowed.plan-is, Allowed.goes_on, Allowed.allowed}
use Rattle.candidate_spans.specs.{Held.at, Held.RangesReady, Held.RangesHeld, Met.span_at, Met.MeetReady, Met.AllMet, Raised.stretch_hit}
use Rattle.candidate_spans.proofs.Raised.{counted-all}
use Rattle.candidate_find.specs.{declared.Sought.Sought, Sought.HandReady, Sought.HandedOut, Sought.Gathered, Sought.SoughtKept}

length-cleared : (l : List ℕ) → length (filled 0 [] l) ≡ length l
unfolding filled
length-cleared l = omega (arith, length-replicate {A = ℕ} (length l - 0) 0)

-- a buffer is filled by its length
filled-same : (l a b : List ℕ) → length a ≡ length b → ◌≡◌ {A = List ℕ} (filled 0 l a) (filled 0 l b)
unfolding filled
filled-same l a b e = rw e

-- a query has at most as many parts as there are windows
more : (k w : ℕ) → 1 ≤ w → k + w ≤ suc k * w
more k zero a = absurd (omega arith)
more k (suc w) a = omega arith

parts-le : (m w n : ℕ) → 1 ≤ w → w ≤ m → m ≤ n → m / w ≤ n + 1 - w
parts-le m w n a b c = by (m / w) (div-mul-le_self m w)
  where
    by : (k : ℕ) → k * w ≤ m → k ≤ n + 1 - w
    by zero h = omega arith
    by (suc k) h = omega (arith, more k w a)

module _ (s : List ℤ) (h : Head) (rows : List Row) (left right : List ℕ) (ask : Ask) (q : List ℤ) (first last scratch : List ℕ) (a : Allowed s h (lent h rows left right) ask q (pair_room first last) (length scratch)) where
  abbrev m : ℕ
  m = length q

  abbrev w : ℕ
  w = h.window

  abbrev p : ℕ
  p = m / w

  abbrev n : ℕ
  n = length s + 1 - m

  abbrev x : Index
  x = lent h rows left right

  abbrev call : SearchCall
  call = lent_search s h rows left right ask q

  abbrev range : ℕ → ℤ × ℤ
  range = range_of ask.kind (at q) m ask.limits w

  window-in : (1 ≤ w) × (w ≤ 256)
  window-in = (a.formed.head.window.least, a.formed.head.window.most)

  pub put-asked : RangesReady ask.kind q ask.limits w first last
  put-asked =
      let k = parts-le m w _ window-in.0 a.window a.inside in
      record {
        values = a.query;
        some = a.some;
        few = a.few;
        not-flat = a.not-flat;
        window = window-in.0;
        limits = record { window = window-in.1; threshold = a.threshold; scale = omega (arith, a.scale-low); scale-most = a.scale-high; shift = a.shift };
        first-room = omega (arith, k, a.candidates-fit);
        last-room = omega (arith, k, a.candidates-fit);
      }

  module _ {first₁ last₁ : List ℕ} (held : RangesHeld ask.kind q ask.limits w first last first₁ last₁) where
    pub meet-asked : MeetReady rows p first₁ last₁
    meet-asked = record {
      climbs = climbs x a.formed;
      few = λ lo hi. let f = span-few x a.formed lo hi in (omega (arith, f.0, a.formed.head.windows.most), omega (arith, f.1, a.formed.head.windows.most));
      ends = λ i k. record {
        in-first = omega (arith, held.first-long, put-asked.first-room);
        in-last = omega (arith, held.last-long, put-asked.last-room);
        first-most = rw (held.held.first-at i (omega arith) k) (raised-most _);
        last-most = rw (held.held.last-at i (omega arith) k) (raised-most _);
      };
    }

    abbrev met : ℕ → Span
    met i = met_span rows (clamp_of (range i).0) (clamp_of (range i).1)

    span-is : (i : ℕ) → i < p → span_at rows first₁ last₁ i ≡ met i
    span-is i k = rw (held.held.first-at i (omega arith) k, held.held.last-at i (omega arith) k, lowered _, lowered _)

    module _ {first₂ last₂ : List ℕ} (all : AllMet rows p first₁ last₁ first₂ last₂) where
      from_is : (i : ℕ) → i < p → get_or first₂ i 0 ≡ (met i).from
      from_is i k = all.held.first-at i (omega arith) k ∙ rw (span-is i k)

      to_is : (i : ℕ) → i < p → get_or last₂ i 0 ≡ (met i).to
      to_is i k = all.held.last-at i (omega arith) k ∙ rw (span-is i k)

      inside : (i : ℕ) → i < p → get_or last₂ i 0 ≤ length (entries left right)
      inside i k = rw (to_is i k) (span-inside x a.formed _ _)

      pub hand-asked : HandReady s h left right q first₂ last₂ scratch
      hand-asked = record {
        long = a.long;
        some = a.some;
        inside = a.inside;
        window = window-in.0;
        window-most = window-in.1;
        stretches = record {
          most = omega (arith, div-le_self m w, a.few);
          window = window-in.1;
          first-room = omega (arith, all.first-long, held.first-long, put-asked.first-room);
          last-room = omega (arith, all.last-long, held.last-long, put-asked.last-room);
          inside-left = λ i k. omega (arith, inside i k, length-entries left right);
          inside-right = λ i k. omega (arith, inside i k, length-entries left right);
          room = omega (arith, length-cleared scratch, a.scratch-fits, a.window);
          zeros = cleared-zeros _;
        };
        room = omega (arith, a.scratch-fits, a.window);
        first-room = omega (arith, all.first-long, held.first-long, a.candidates-fit, a.window);
        last-room = omega (arith, all.last-long, held.last-long, a.candidates-fit, a.window);
      }

      hit-is : (i j : ℕ) → i < p → stretch_hit left right first₂ last₂ h.windows w i j ≡ admits x (range i) (j + i * w)
      hit-is i j k = rw (from_is i k, to_is i k) (ap (λ t. leb h.windows (j + i * w) || t) (span-met x a.formed _ _ _ ∙ clamp-stands x a.formed _ _))

      module _ {t : Sought} {left' right' scratch' : List ℕ} (e : HandedOut s h left right q first₂ last₂ scratch t left' right' scratch') where
        counted : Counted x range n p e.counts
        counted = counted-all x range _ n p _ hit-is e.counted

        found : FoundAll x range p n first₂ last₂ left' right' t.runs t.candidates
        found = found_all x range p n _ counted e.handed

        abbrev lead : ℕ → Bool
        lead j = eqb (leading x range p j) p

        lead_is : (j : ℕ) → lead j ≡ candidate_at x (question call) j
        unfolding candidate_at ranges question
        lead_is j = leading-all x range p j

        runs-are : runs lead n ≡ candidate_runs x (question call)
        unfolding candidate_runs question
        runs-are = runs-cong lead _ n (λ j _. lead_is j)

        count-is : count lead n ≡ candidate_count x (question call)
        unfolding candidate_count question
        count-is = count-cong lead _ n (λ j _. lead_is j)

        pub gathered : Gathered call first last scratch t left' right' scratch'
        gathered = record {
          runs = found.count-is ∙ ap length runs-are;
          candidates = found.found-is ∙ count-is;
          handed-left = found.left_is ∙ ap (λ (y : List (ℕ × ℕ)). filled 0 (map (λ t. t.0) y) first₂) runs-are ∙ filled-same _ first₂ _ (all.first-long ∙ held.first-long);
          handed-right = found.right_is ∙ ap (λ (y : List (ℕ × ℕ)). filled 0 (map (λ t. t.1) y) last₂) runs-are ∙ filled-same _ last₂ _ (all.last-long ∙ held.last-long);
          cleared = e.cleared;
        }

-- ---- by the plan

module _ (s : List ℤ) (h : Head) (rows : List Row) (left right : List ℕ) (ask : Ask) (q : List ℤ) (b : SearchBuffers) {j : Judged} {p : Result (Unit {0}) Refusal}
    (judged : j ≡ judged_of (lent h rows left right)) (planned : p ≡ plan_of s h j ask q (list_room b) (pair_room b.left b.right) (length b.scratch)) where
  abbrev plan : Result (Unit {0}) Refusal
  plan = the_plan s h rows left right ask q b

  abbrev C : SearchCall
  C = lent_search s h rows left right ask q

  plan-here : plan ≡ p
  plan-here = sym (planned ∙ rw judged)

  -- it refuses
  pub halts : {r : Refusal} → p ≡ Err r → SoughtKept C b (Err r) b.left b.right b.scratch
  halts e = record { judged = sym (refuses (search_plan C b) (plan-is s h rows left right ask q b) (plan-here ∙ e)); left = (refl, refl, refl) }

  -- it does not
  module _ (z : p ≡ Ok tt) where
    free : plan ≡ Ok tt
    free = plan-here ∙ z

    pub goes : Allowed s h (lent h rows left right) ask q (pair_room b.left b.right) (length b.scratch)
    goes = allowed s h rows left right ask q b free

    pub went : {t : Sought} {left' right' scratch' : List ℕ} → Gathered C b.left b.right b.scratch t left' right' scratch' → SoughtKept C b (Ok t) left' right' scratch'
    went g = record { judged = sym (goes_on s h rows left right ask q b free); left = g }
