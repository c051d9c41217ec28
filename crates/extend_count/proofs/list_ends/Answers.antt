-- `list_ends`: a turn reads a record, and writes its raised upper end and its number of runs.
use Rattle.meaning_numbers.proofs.Prelude.{rules, ◌≡◌, sym, ap, ◌∙◌, ℕ, arith, w32, to_z, of_z, to_z-of_z}
use Rattle.extend_count.specs.Listed.{listed, end_of, size_of}
use Rattle.extend_count.proofs.Listed.{listed-none, listed_more}
use Rattle.extend_count.proofs.list_ends.Goals as goal

pub loop-i-init : goal.loop-i-init
loop-i-init c = (sym (listed-none _ _), sym (listed-none _ _))

pub raised_end-requires : goal.raised_end-requires
raised_end-requires c =
    let back : to_z w32 (of_z w32 c.row_at-r.result.up) ≡ c.row_at-r.result.up = to_z-of_z w32 _ (record { sfits = search rules }) in
    rw (back, c.row_at-r.ensures) (c.requires.ends c.loop-i.i c.loop-i-test.true)

pub loop-i-preserved : goal.loop-i-preserved
loop-i-preserved c =
    let a = c.args in
    let back : to_z w32 (of_z w32 c.row_at-r.result.up) ≡ c.row_at-r.result.up = to_z-of_z w32 _ (record { sfits = search rules }) in (
      rw (c.loop-i.invariant.0, c.raised_end.ensures, back, c.row_at-r.ensures) (sym (listed_more (end_of a.rows.now a.bias) c.loop-i.i a.ups.now)),
      rw (c.loop-i.invariant.1, c.row_at-r.ensures) (sym (listed_more (size_of a.rows.now) c.loop-i.i a.counts.now)),
    )

pub returns : goal.returns
returns c =
    let a = c.args in
    let e : c.loop-i.i ≡ a.count = omega arith in (
      c.loop-i.invariant.0 ∙ ap (λ (j : ℕ). listed (end_of a.rows.now a.bias) j a.ups.now) e,
      c.loop-i.invariant.1 ∙ ap (λ (j : ℕ). listed (size_of a.rows.now) j a.counts.now) e,
    )
