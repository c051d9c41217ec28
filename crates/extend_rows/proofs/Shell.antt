-- Laws of specs/Shell.
use Rattle.meaning_numbers.proofs.Prelude.{◌≡◌, ap, ◌∙◌, List, ◌++◌, ℕ, ◌-◌, ◌≤◌, arith, ℤ, nat_abs, length, take, replicate}
use Rattle.meaning_rows.specs.{declared.Row.Row, Index.Index}
use Rattle.meaning_rows.proofs.Woven.{woven-most}
use Rattle.rows_records.specs.Records.{zero_row}
use Rattle.sums_slide.specs.{Levels.Lent, Levels.windows_of, Picked.Appended}
use Rattle.extend_new.specs.New.{new_table}
use Rattle.extend_weave.specs.Weave.{Weavable, Made}
use Rattle.extend_weave.proofs.Woven.{table_fits, weavable, count-is, woven-rows}
use Rattle.extend_rows.specs.Shell.{made_rows, Extending, WeaveAsked, WovenAs}
pub use Rattle.extend_weave.proofs.Woven.{row_is, rows_long}

module _ {x : Index} {s : List ℤ} {w e d b old : ℕ} {from rows : List Row} {left : List ℕ} (h : WeaveAsked x s w e d b old from rows left) where
  abbrev can : Extending x s w e d b old from
  can = h.can

  pub lists : (Lent s w e) × (old ≤ windows_of s w) × ((1 ≤ d) × (d ≤ 1000000)) × (length (new_table s old w e d) ≤ length left)
  lists = rw (can.window, can.width, can.windows) (
    can.lent,
    can.longer.longer,
    (can.formed.head.width.least, can.formed.head.width.most),
    omega (arith, table_fits x s can.formed can.longer e b can.lent can.bias, ap (windows_of s) can.window, h.in_left),
  )

  module _ {k : ℕ} {left' : List ℕ} (a : Appended (new_table s old w e d) 0 k left left') where
    listed : Appended (new_table s (nat_abs x.windows) (nat_abs x.window) e (nat_abs x.width)) 0 k left left'
    listed = rw (← can.window, ← can.width, ← can.windows) a

    fits : k ≤ length left'
    fits = omega (arith, a.count, a.long, lists.3)

    pub weaves : Weavable from left' k d b (length rows)
    weaves = rw (can.width, can.rows_are) (weavable x s can.formed can.longer e b can.lent can.bias listed fits _ (omega arith))

    module _ {count : ℕ} {rows' : List Row} (m : Made from left' k d b rows count rows') where
      made : Made x.rows left' k (nat_abs x.width) b rows count rows'
      made = rw (← can.width, ← can.rows_are) m

      many : count ≡ length (made_rows x s)
      many = count-is x s can.formed can.longer e b can.lent can.bias listed fits made

      pub clears : count ≤ length rows'
      clears = omega (arith, many, m.long, woven-most x s can.formed can.longer, ap (windows_of s) can.window, h.in_rows)

      pub woven-as : {rows'' : List Row} → rows'' ≡ take count rows' ++ replicate (length rows' - count) zero_row → WovenAs x s rows rows'' count
      woven-as q = (many, q ∙ woven-rows x s can.formed can.longer e b can.lent can.bias listed fits made)
