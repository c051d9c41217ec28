-- `fill_rows`. A turn reads the next line of the text and writes its record.
use Prim.Native.Nat.{ℕ}
use mathlib.Core.Path.{◌≡◌, sym, ap, ◌∙◌}
use native.Mathlib.Omega.{arith}
use Rattle.text_rows.specs.Line.{stored}
use Rattle.text_rows.proofs.Turn.{line-ready, line-none, line-more, stored-none, stored_more}
use Rattle.text_rows.proofs.fill_rows.Goals as goal

pub loop-k-init : goal.loop-k-init
loop-k-init c = record { read = c.no_line-p.ensures ∙ line-none _; records = sym (stored-none _ _) }

pub next_line-p-requires : goal.next_line-p-requires
next_line-p-requires c = rw c.loop-k.invariant.read (line-ready _ _)

pub loop-k-preserved : goal.loop-k-preserved
loop-k-preserved c =
    let k = c.loop-k.invariant in
    record {
      read = c.next_line-p.ensures ∙ rw k.read (line-more _ _);
      records = rw (c.line_row.ensures, c.next_line-p.ensures, k.read, k.records) (sym (stored_more _ _ _));
    }

pub returns : goal.returns
returns c =
    let e : c.loop-k.k ≡ c.args.to = omega arith in
    c.loop-k.invariant.records ∙ ap (λ (j : ℕ). stored c.args.text.now j c.args.rows.now) e
