-- Laws of specs/Answer.
use Rattle.std.specs.Prelude.{Ok, Err}
use Rattle.meaning_numbers.specs.Place.{any}
use Rattle.meaning_numbers.proofs.Prelude.{◌≡◌, refl, sym, ap, ◌∙◌, true, List, [], ◌∷◌, ◌++◌, map, None, ℕ, ◌+◌, ◌-◌, ◌*◌, ◌<◌, ◌≤◌, arith, ℤ, length, get_or, replicate, length-append, length-map, clash}
use Rattle.meaning_curves.specs.Curve.{window_sum, window_count}
use Rattle.meaning_rows.specs.{declared.Row.Row, Build.SetRow, Build.with_runs, Build.built, Build.built_rows}
use Rattle.meaning_rows.proofs.{Build.merged_rows, Build.holds_sum, Build.built-covers, Laid.length-records}
use Rattle.meaning_entries.specs.{declared.Refusal.Refusal, Answers.held, Buffers.IndexBuffers, Buffers.filled, Buffers.run_room, Buffers.index_in, Build.lent_build, Build.build_table, Build.build_refusal, Build.build_index, Build.build_answer, Build.build_after, Demand2.BuildKept}
use Rattle.meaning_entries.proofs.{Refused.AllPass, Refused.passed_is, Demand2.build-kept}
use Rattle.rows_records.specs.Records.{zero_row}
use Rattle.refusals.specs.Refusal.{passes, refuses}
use Rattle.sums_slide.specs.Levels.{Lent, windows_of}
use Rattle.build_lay.specs.Laid.{LayAsked}
use Rattle.build_passes.specs.Filled.{Holds}
use Rattle.build_passes.proofs.{Rowed.no_row, Filled.last-part}
use Rattle.build_plan.specs.{declared.BuildPlan.BuildPlan, Plan.Planned, Plan.Lifts}
use Rattle.build_plan.proofs.PlanLaws.{Goes, goes}
use Rattle.entry_build.specs.Answer.{index_as, PlannedFor}

some-row : (z : ℤ) (l : List SetRow) → holds_sum z l ≡ true → 1 ≤ length l
unfolding any
some-row z [] h = clash h refl
some-row z (r ∷ l) h = omega arith

-- a refused call leaves the buffers as they were
pub refused-kept : (s : List ℤ) (w d g : ℕ) (b : IndexBuffers) {r : Refusal} → Planned s w d g (length b.rows) (length b.left) (length b.right) (Err r) → BuildKept (lent_build s w d g) b (Err r) b
unfolding build_table build_answer build_after
refused-kept s w d g b {r} h =
    let e = refuses (build_table (lent_build s w d g) b) refl h in
    build-kept (lent_build s w d g) b (Err r) b (rw (build_answer, e) refl) (rw (build_after, e) refl)

module _ (s : List ℤ) (w d g : ℕ) (b : IndexBuffers) (p : BuildPlan) (h : PlannedFor s w d g b p) where
  t : AllPass (build_table (lent_build s w d g) b)
  unfolding build_table
  t = passes (build_table (lent_build s w d g) b) refl h.0

  not-refused : build_refusal (lent_build s w d g) b ≡ None
  not-refused = passed_is t

  go : Goes s w d g (length b.rows) (run_room b)
  unfolding build_table
  go = goes s w d g (length b.rows) (run_room b) t

  abbrev lifts : Lifts w d p
  lifts = h.1

  pub plan-lent : Lent s w p.extra
  plan-lent = record { all = go.values; some = go.some; most = go.most; fits = go.fits; long = go.long; small = lifts.small }

  pub plan-window : p.window ≡ w
  plan-window = lifts.window

  pub plan-width : p.width ≡ d
  plan-width = lifts.width

  -- what the answer asks
  pub plan-sizes : (w ≤ length s) × (length s ≤ 1048576)
  plan-sizes = (go.fits, go.long)

  -- what the build asks
  pub plan-lays : (LayAsked s p.window p.extra p.width b.left b.right) × (p.bias ≡ 10000 * p.window + p.extra) × (windows_of s p.window ≤ length b.rows) × (g ≤ 100)
  plan-lays = rw (lifts.window, lifts.width) (
    record { lent = plan-lent; least = go.least-width; most = go.most-width; rows = lifts.rows; bias = sym lifts.is ∙ lifts.multiple; in_left = omega (arith, go.in-runs); in_right = omega (arith, go.in-runs) },
    lifts.is,
    go.in_rows,
    go.most-merge,
  )

  abbrev l : List SetRow
  l = merged_rows (window_sum s w) d g (windows_of s w)

  rows_long : length (built s w d g).rows ≡ length l
  unfolding built built_rows
  rows_long = length-records 0 (map (with_runs (windows_of s w)) l) ∙ length-map l (with_runs (windows_of s w))

  -- each window has a row, so there is one
  pub some-rows : {n : ℕ} → n ≡ length (built s w d g).rows → 1 ≤ n
  some-rows e = omega (arith, e, rows_long, some-row (window_sum s w 0) l (built-covers (window_sum s w) d (windows_of s w) go.least-width g 0 (omega (arith, go.fits))))

  module _ {new : IndexBuffers} {n : ℕ} (e : n ≡ length (built s w d g).rows) (k : Holds d g s w b new) where
    rows_are : new.rows ≡ (built s w d g).rows ++ replicate (length b.rows - length (built s w d g).rows) zero_row
    unfolding index_in filled
    rows_are = ap (λ (x : IndexBuffers). x.rows) k

    pub last-in : n - 1 < length new.rows
    last-in =
        let rest : List Row = replicate (length b.rows - length (built s w d g).rows) zero_row in
        omega (arith, e, some-rows e, ap length rows_are, length-append (built s w d g).rows rest)

    -- the last row's part ends where all parts end
    last-total : (get_or new.rows (n - 1) zero_row).first + (get_or new.rows (n - 1) zero_row).runs ≡ length (built s w d g).runs
    unfolding built built_rows index_in
    last-total =
        let c : n - 1 ≡ length l - 1 = omega (arith, e, rows_long) in
        ap (λ (x : IndexBuffers). let r = get_or x.rows (n - 1) zero_row in r.first + r.runs) k ∙ ap (λ (y : ℕ). let r = get_or (filled zero_row (built s w d g).rows b.rows) y zero_row in r.first + r.runs) c ∙ last-part no_row (with_runs (windows_of s w)) l b.rows

    pub built-kept : {r : Row} → r ≡ get_or new.rows (n - 1) zero_row → BuildKept (lent_build s w d g) b (Ok (index_as (window_count (length s) w) w d n r)) new
    unfolding build_answer build_after build_index built
    built-kept {r} q =
        let t : r.first + r.runs ≡ length (built s w d g).runs = ap (λ (x : Row). x.first + x.runs) q ∙ last-total in
        build-kept (lent_build s w d g) b (Ok (index_as (window_count (length s) w) w d n r)) new
        ((λ j. Ok (held (record { window = w; width = d; windows = window_count (length s) w }) (e j) (t j))) ∙ rw (build_answer, not-refused) refl)
        (k ∙ rw (build_after, not-refused) refl)
