-- `join_first` meets its contract.
use Rattle.meaning_numbers.proofs.Prelude.{◌≡◌, ap, ◌∙◌, Bool, List, ℕ, ◌+◌, ◌*◌, ℤ, pos, negsuc, ◌≤ℤ◌, w32, of_z, to_z, to_z-of_z, zarith, zmach32}
use Rattle.meaning_rows.specs.declared.Row.{Row}
use Rattle.meaning_rows.proofs.Grown.{last_ends}
use Rattle.sums_slide.specs.Ends.{raised_end}
use Rattle.build_fill.specs.Turn.{Small}
use Rattle.extend_rows.specs.Steps.{first_new, joins_of}
use Rattle.extend_runs.proofs as own
use own.Joining.{joinable-as, joined_as, joins-some, joinable-lent, joined_back}
use Rattle.extend_runs.proofs.join_first.Goals as goal

-- an end of a range, as the machine reads it
end_read : (z : ℤ) → negsuc 999999999 ≤ℤ z → z ≤ℤ pos 1000000000 → to_z w32 (of_z w32 z) ≡ z
end_read z a b = to_z-of_z w32 z (omega (zmach32, a, b))

low-is : (bias : ℕ) (r : Row) {n : ℕ} → Small r → n ≡ raised_end bias (to_z w32 (of_z w32 r.low)) → n ≡ raised_end bias r.low
low-is bias r h e = e ∙ ap (raised_end bias) (end_read r.low h.least (omega zarith))

up_is : (bias : ℕ) (r : Row) {n : ℕ} → Small r → n ≡ raised_end bias (to_z w32 (of_z w32 r.up)) → n ≡ raised_end bias r.up
up_is bias r h e = e ∙ ap (raised_end bias) (end_read r.up (omega zarith) h.most)

-- whether the run joins, as it is asked
joins-is : (s : List ℤ) (w old : ℕ) (r : Row) (olds : List ℕ) {k : ℕ} {b : Bool} → k ≡ first_new s w old → b ≡ last_ends r olds k → b ≡ joins_of s w old r olds
unfolding joins_of
joins-is s w old r olds first ends = ends ∙ ap (last_ends r olds) first

pub join_run-requires : goal.join_run-requires
join_run-requires c =
    let a = c.args in
    let q = c.requires.1 in
    let bias = 10000 * a.w + a.e in
    let able = q.can _ c.place_at-at.ensures.0 c.place_at-at.ensures.1 in
    record {
      lent = q.lent;
      joinable = joinable-as (joins-is a.s.now a.w a.old a.r a.olds.now c.first_new.ensures c.last_ends-joins.ensures) (low-is bias a.q q.small c.raise_end-low.ensures) (up_is bias a.q q.small c.raise_end-up.ensures) c.spot_of-spot.ensures
          (joinable-lent a.q a.r a.right.now (joins-some _ a.w _ a.r _) able);
    }

pub returns : goal.returns
returns c =
    let a = c.args in
    let q = c.requires.1 in
    let bias = 10000 * a.w + a.e in
    record {
      place = c.place_at-at.result;
      start = c.place_at-at.ensures.0;
      begins = c.place_at-at.ensures.1;
      run = joined_back a.q a.r _ (joins-some _ a.w _ a.r _) _ _
          (joined_as (joins-is a.s.now a.w a.old a.r a.olds.now c.first_new.ensures c.last_ends-joins.ensures) (low-is bias a.q q.small c.raise_end-low.ensures) (up_is bias a.q q.small c.raise_end-up.ensures) c.spot_of-spot.ensures c.join_run.ensures);
    }
