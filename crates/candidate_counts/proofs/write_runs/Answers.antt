use Rattle.meaning_numbers.specs.Sum.{bit, count}
use Rattle.meaning_numbers.proofs.Count.{count_none, count-le}
use Rattle.meaning_numbers.proofs.Prelude.{◌≡◌, sym, ap, Bool, List, ℕ, ◌+◌, ◌-◌, ◌≤◌, arith, length}
use Rattle.meaning_rows.proofs.{Runs.runs-le, Runs.before-some, Columns.Filling, Columns.filling-starts, Columns.filling-left, Columns.filling-right}
use Rattle.candidate_counts.specs.{declared.Found.Found, Handed.Columns, Take.TakeReady, Take.Took}
use Rattle.candidate_counts.proofs.write_runs.Goals as goal

-- the runs of the offsets below j stand at the front
module _ {set : ℕ → Bool} {offsets j : ℕ} {left₀ right₀ left right : List ℕ} {out : Found} (f : Filling set left₀ right₀ j out.runs out.going left right)
    (e : out.candidates ≡ count set j) (in_left : offsets ≤ length left₀) (in_right : offsets ≤ length right₀) where
  few : out.runs ≤ j
  few = omega (arith, f.count-is, runs-le set j)

  ready : {scratch : List ℕ} (n : ℕ) → j + n ≤ offsets → offsets ≤ length scratch → offsets ≤ 1048576 → TakeReady scratch j n out left right
  ready n h s short = record {
    in-scratch = omega arith;
    in_left = omega (arith, h, in_left, filling-left f (omega (arith, few, h, in_left)));
    in_right = omega (arith, h, in_right, filling-right f (omega (arith, few, h, in_right)));
    short = omega arith;
    few = few;
    fewer = omega (arith, e, count-le set j);
    begun = omega (arith, ap bit f.prev-is, f.count-is, before-some set j);
  }

  -- after the block, or after the rest, so many offsets are taken in
  module _ {n : ℕ} {b : Found} {left' right' : List ℕ} (h : j + n ≤ offsets) (t : Took set j n out b left right left' right') where
    counts : b.candidates ≡ count set (j + n)
    counts = t.counted e

    fills : Filling set left₀ right₀ (j + n) b.runs b.going left' right'
    fills = t.filling _ _ (omega arith) (omega arith) f

  -- at the end all are
  full : {b : Found} {left' right' : List ℕ} → j ≤ offsets → Took set j (offsets - j) out b left right left' right' → Columns set offsets left₀ right₀ left' right' b.runs b.candidates
  full h t =
      let all : j + (offsets - j) ≤ offsets = omega arith in
      let i : j + (offsets - j) ≡ offsets = omega arith in
      let g = rw i at (fills all t) in
      record { count-is = g.count-is; found-is = rw i at (counts all t); left_is = g.left_is; right_is = g.right_is }

pub loop-j-init : goal.loop-j-init
loop-j-init c = let e = c.default-out.ensures in rw (e.0, e.1.0, e.1.1) (omega arith, sym (count_none _), filling-starts _ _ _)

pub take_block-out-requires : goal.take_block-out-requires
take_block-out-requires c = let v = c.loop-j.invariant in ready v.2 v.1 c.requires.1 c.requires.2 64 (omega (arith, c.loop-j-test.true, v.0)) c.requires.0 c.requires.3

pub loop-j-preserved : goal.loop-j-preserved
loop-j-preserved c =
    let v = c.loop-j.invariant in
    let h : c.loop-j.j + 64 ≤ c.args.offsets = omega (arith, c.loop-j-test.true, v.0) in
    let t = c.take_block-out.ensures in
    (h, counts v.2 v.1 c.requires.1 c.requires.2 h t, fills v.2 v.1 c.requires.1 c.requires.2 h t)

pub take_each-requires : goal.take_each-requires
take_each-requires c = let v = c.loop-j.invariant in ready v.2 v.1 c.requires.1 c.requires.2 _ (omega (arith, v.0)) c.requires.0 c.requires.3

pub returns : goal.returns
returns c = let v = c.loop-j.invariant in full v.2 v.1 c.requires.1 c.requires.2 v.0 c.take_each.ensures
