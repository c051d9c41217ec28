-- Laws of specs/Answer.
use Prim.Native.Nat.{ℕ, ◌+◌, ◌-◌, ◌*◌, ◌<◌, ◌≤◌}
use lib.IntN.{ℤ}
use lib.ListN.{length, get_or, replicate, length-append, length-replicate, length-map}
use mathlib.Core.List.{List}
use Rattle.std.specs.Prelude.{None, Ok, Err}
use Rattle.std.specs.declared.result.Result.{Result}
use mathlib.Core.Path.{◌≡◌, refl, sym, ap, ◌∙◌}
use native.Mathlib.Omega.{arith}
use Rattle.meaning_curves.specs.Curve.{window_count, window_sum}
use Rattle.meaning_curves.proofs.Values.{none-outside}
use Rattle.meaning_rows.specs.{declared.Row.Row, declared.Head.Head, Index.Index, Index.RangeRow, Index.lent, Index.records, Index.all_runs, Extend.extended_rows, Extend.extended}
use Rattle.meaning_rows.proofs.{Laid.length-records, Woven.woven_rows, Woven.grown_runs}
use Rattle.meaning_entries.specs.Extend.{ExtendCall, lent_extend, extend_refusal, extend_index, extend_answer, extend_after}
use Rattle.meaning_entries.specs.{declared.Refusal.Refusal, Answers.held, Buffers.IndexBuffers, Buffers.filled, Buffers.index_in, Demand2.ExtendKept}
use Rattle.meaning_entries.proofs.Demand2.{extend-kept}
use Rattle.rows_records.specs.Records.{zero_row}
use Rattle.build_passes.proofs.Filled.{last-part}
use Rattle.extend_plan.proofs.Planned.{the_plan, stopped, goes_on, Sound, sound}
use Rattle.extend_runs.proofs.Rowed.{rows_are}
use Rattle.extend_passes.specs.{Finished.HoldsExtended, Whole.PassesAsked}
use Rattle.entry_extend.specs.{declared.Lift.Lift, Answer.index_as, Answer.Lifts}

module _ (s : List ℤ) (h : Head) (from : List Row) (lefts rights : List ℕ) (b : IndexBuffers) where
  abbrev x : Index
  x = lent h from lefts rights

  abbrev call : ExtendCall
  call = lent_extend s h from lefts rights

  abbrev plan : Result (Unit {0}) Refusal
  plan = the_plan s h from lefts rights b

  -- a refused call leaves the buffers as they were
  pub refused-kept : {r : Refusal} → plan ≡ Err r → ExtendKept call b (Err r) b
  unfolding extend_answer extend_after
  refused-kept {r} f =
      let e = stopped s h from lefts rights b f in
      extend-kept call b (Err r) b (rw (extend_answer, e) refl) (rw (extend_after, e) refl)

  module _ (z : plan ≡ Ok tt) where
    not-refused : extend_refusal call b ≡ None
    not-refused = goes_on s h from lefts rights b z

    so : Sound s h from lefts rights b
    so = sound s h from lefts rights b z

    -- what raising asks
    pub lift-asked : (h.window ≤ 256) × ((1 ≤ h.width) × (h.width ≤ 1000000))
    lift-asked = (so.formed.head.window.most, (so.formed.head.width.least, so.formed.head.width.most))

    -- what the answer asks
    pub sizes : (h.window ≤ length s) × (length s ≤ 1048576)
    sizes = (omega (arith, so.longer.longer, so.formed.head.windows.least), so.longer.short)

    -- what the passes ask
    pub passes-asked : {l : Lift} → Lifts h.window h.width h.windows l → (PassesAsked s l.window l.extra l.width l.base l.old from lefts rights b.rows b.left b.right) × (l.bias ≡ 10000 * l.window + l.extra)
    passes-asked u = rw (u.window, u.width, u.old-is) (
      record {
        formed = so.formed;
        longer = so.longer;
        lent = record { all = none-outside s so.longer.values; some = so.formed.head.window.least; most = so.formed.head.window.most; fits = sizes.0; long = so.longer.short; small = u.small };
        bias = sym u.is ∙ u.multiple;
        in_rows = so.row_room;
        in_left = omega (arith, so.runs_fit);
        in_right = omega (arith, so.runs_fit);
      },
      u.is,
    )

    module _ {new : IndexBuffers} {n : ℕ} (e : n ≡ length (extended x s).rows) (k : HoldsExtended x s b new) where
      -- there is a record at the place of the last row, of zeros where there is no row
      pub last-in : n - 1 < length new.rows
      unfolding index_in filled
      last-in =
          let rest : List Row = replicate (length b.rows - length (extended x s).rows) zero_row in
          omega (arith, e, ap (λ (o : IndexBuffers). length o.rows) k, length-append (extended x s).rows rest, length-replicate {A = Row} (length b.rows - length (extended x s).rows) zero_row, so.row_room, sizes)

      last-total : (get_or new.rows (n - 1) zero_row).first + (get_or new.rows (n - 1) zero_row).runs ≡ length (extended x s).runs
      unfolding extended index_in
      last-total =
          let made = woven_rows x s so.formed so.longer in
          let G = grown_runs x (window_sum s h.window) h.windows (window_count (length s) h.window) in
          let q = rows_are x s so.formed so.longer in
          let c : n - 1 ≡ length made - 1 = omega (arith, e, length-records 0 (extended_rows x (window_sum s h.window) (window_count (length s) h.window)), ap length q, length-map made G) in
          ap (λ (o : IndexBuffers). let r = get_or o.rows (n - 1) zero_row in r.first + r.runs) k
          ∙ (λ i. let r = get_or (filled zero_row (records 0 (q i)) b.rows) (c i) zero_row in r.first + r.runs)
          ∙ last-part zero_row G made b.rows ∙ ap (λ (l : List RangeRow). length (all_runs l)) (sym q)

      pub extended-kept : {r : Row} → r ≡ get_or new.rows (n - 1) zero_row → ExtendKept call b (Ok (index_as (window_count (length s) h.window) h n r)) new
      unfolding extend_answer extend_after extend_index extended
      extended-kept {r} q =
          let t : r.first + r.runs ≡ length (extended x s).runs = ap (λ (p : Row). p.first + p.runs) q ∙ last-total in
          extend-kept call b (Ok (index_as (window_count (length s) h.window) h n r)) new
          ((λ j. Ok (held (record { window = h.window; width = h.width; windows = window_count (length s) h.window }) (e j) (t j))) ∙ rw (extend_answer, not-refused) refl)
          (k ∙ rw (extend_after, not-refused) refl)
