-- `judge_runs`: a run that is not good ends the judgement (`inside-bad`), a good one leaves the rest to be judged (`inside-next`), and where none is left only the last is held to the windows.
use Rattle.meaning_numbers.proofs.Prelude.{◌≡◌, refl, sym, ◌∙◌, ap, ℕ, ◌+◌, ◌<◌, ◌≤◌, length, List, [], ◌∷◌, arith, pos, get_or, le-leb}
use Rattle.meaning_rows.specs.Index.{Entry}
use Rattle.std.specs.Prelude.{Some}
use Rattle.std.specs.declared.option.Option.{Option}
use Rattle.rows_judge.specs.Judging.{scan}
use Rattle.rows_judge.proofs as own
use own.Scan.{part, part-next, part_none, inside, follows, inside-next, inside-bad, scan-end}
use Rattle.rows_judge.proofs.judge_runs.Goals as goal

-- the loop at run i
module _ (left right : List ℕ) (windows least total i to : ℕ) where
  -- what the loop judges from it on
  abbrev judged : List Entry → Option ℕ
  judged rest = inside windows least (scan (pos windows) (pos least) total rest)

  -- the run is the first of those that are left
  whole : {e : Option ℕ} → i < to → to ≤ length left → to ≤ length right → judged (part left right i to) ≡ e
      → judged ((pos (get_or left i 0), pos (get_or right i 0)) ∷ part left right (i + 1) to) ≡ e
  whole h a b is = ap judged (sym (part-next left right i to h a b)) ∙ is

  ended : {e : Option ℕ} → to ≤ i → judged (part left right i to) ≡ e → judged [] ≡ e
  ended h is = ap judged (sym (part_none left right i to h)) ∙ is

  ended-good : {e : Option ℕ} → to ≤ i → judged (part left right i to) ≡ e → least ≤ windows + 1 → Some total ≡ e
  ended-good h is l =
      let n : judged [] ≡ Some total = rw (le-leb least (windows + 1) l, scan-end _ _ _) refl in
      sym n ∙ ended h is

pub returns-then-l-least : goal.returns-then-l-least
returns-then-l-least c =
    let a = c.args in let o = c.loop-i in let left = a.left.now in let right = a.right.now in
    sym (inside-bad a.windows o.least o.total (get_or left o.i 0) (get_or right o.i 0) (part left right (o.i + 1) a.to) c.if-l-least.true)
    ∙ whole left right a.windows o.least o.total o.i a.to c.loop-i-test.true c.requires.1 c.requires.2 o.invariant.2

pub loop-i-preserved : goal.loop-i-preserved
loop-i-preserved c =
    let a = c.args in let o = c.loop-i in let left = a.left.now in let right = a.right.now in
    let l = get_or left o.i 0 in let r = get_or right o.i 0 in
    let g = follows o.least l r c.if-l-least.false in
    let fits = c.type_inv.right o.i in (
      omega (arith, g.below, g.order),
      omega (arith, fits),
      inside-next a.windows o.least o.total l r (part left right (o.i + 1) a.to) g
          ∙ whole left right a.windows o.least o.total o.i a.to c.loop-i-test.true c.requires.1 c.requires.2 o.invariant.2,
    )

pub returns-then-least-windows : goal.returns-then-least-windows
returns-then-least-windows c = ended-good _ _ _ _ _ _ _ c.loop-i-test.false c.loop-i.invariant.2 (omega arith)
