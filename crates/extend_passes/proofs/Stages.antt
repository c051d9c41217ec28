-- What each pass of an extension asks, by what the passes before it left, and what the last one leaves. A count of rows is that of the rows made, and a record that is read is the one that stands there.
use Rattle.meaning_numbers.proofs.Prelude.{◌≡◌, subst, Bool, List, ℕ, ◌+◌, ◌*◌, ◌<◌, ◌≤◌, ℤ, nat_abs, length, get_or}
use Rattle.meaning_curves.specs.Curve.{window_sum}
use Rattle.meaning_rows.specs.{declared.Row.Row, Index.Index, Extend.grown, Extend.extended}
use Rattle.meaning_entries.specs.Buffers.{index_buffers}
use Rattle.rows_records.specs.Records.{zero_row}
use Rattle.sums_slide.specs.declared.Window.{Window}
use Rattle.build_fill.specs.Pass.{Passable, PassMade}
use Rattle.extend_parts.proofs.OldRuns.{row_has}
use Rattle.extend_rows.specs.{Steps.joins_of, Passes.CountAsked, Passes.CountedAs, Passes.LayAsked, Passes.LaidBy, Shell.made_rows, Shell.WovenAs}
use Rattle.extend_runs.specs.{Joining.JoinAsked, Joining.JoinedAt, Copied.CopyAsked, Copied.CopiedAs}
use Rattle.extend_passes.specs.{Finished.HoldsExtended, Whole.index_of, Whole.PassesAsked}
use Rattle.extend_passes.proofs.Whole.{count-asked, first-in, lays-asked, copies-asked, old-fits, join-asked, fill-asked, extended-held, rows-counted}

-- the windows that each row of an extension has
abbrev pub tests : Index → List ℤ → ℕ → ℕ → Bool
tests x s i = (grown x (window_sum s (nat_abs x.window)) (nat_abs x.windows) (get_or (made_rows x s) i zero_row)).has

module _ {s : List ℤ} {w e d base bias old : ℕ} {from : List Row} {lefts rights : List ℕ} {rows : List Row} {left right : List ℕ} (asked : PassesAsked s w e d base old from lefts rights rows left right × (bias ≡ 10000 * w + e)) where
  -- the windows that each row has
  abbrev pub has : ℕ → ℕ → Bool
  has = row_has (index_of w d old from lefts rights) s asked.0.formed asked.0.longer

  abbrev size : ℕ
  size = length (made_rows (index_of w d old from lefts rights) s)

  module _ {n : ℕ} {ua : List Row} {ul : List ℕ} (woven : WovenAs (index_of w d old from lefts rights) s rows ua n) (long-ul : length ul ≡ length left) where
    pub counts : CountAsked s w e bias old ua n ul right
    counts = rw asked.1 (count-asked asked.0 ul long-ul ua n woven)

    module _ {i : ℕ} {vl vr : List ℕ} (counted : CountedAs s w e bias old ua n ul right i vl vr) where
      counted' : CountedAs s w e (10000 * w + e) old ua size ul right i vl vr
      counted' = rw asked.1 at (rw woven.0 at counted)

      pub in_rows : i < length ua
      in_rows = first-in asked.0 ul long-ul ua n woven i vl vr counted'

      module _ {row : Row} (is_row : row ≡ get_or ua i zero_row) where
        pub lays : LayAsked s w old row rights i ua n vl
        lays = rw (is_row, woven.0) (lays-asked asked.0 ul long-ul ua n woven i vl vr counted')

        module _ {za : List Row} (laid : LaidBy s w old row rights i ua n vl za) where
          laid' : LaidBy s w old (get_or ua i zero_row) rights i ua size vl za
          laid' = rw is_row at (rw woven.0 at laid)

          module _ {wl : List ℕ} (long-wl : length wl ≡ length left) (long-vr : length vr ≡ length right) where
            pub copies : CopyAsked from lefts rights za n wl vr
            copies = rw woven.0 (copies-asked asked.0 ul long-ul ua n woven i vl vr counted' za laid' wl vr long-wl long-vr)

            module _ {kl kr : List ℕ} (copied : CopiedAs from lefts rights za n wl vr kl kr) where
              copied' : CopiedAs from lefts rights za size wl vr kl kr
              copied' = rw woven.0 at copied

              module _ {q : Row} (is-q : q ≡ get_or za i zero_row) where
                pub joins : (row.first + row.runs ≤ length rights) × JoinAsked s w e old (joins_of s w old row rights) q row (length kr)
                joins = rw (is_row, is-q) (old-fits asked.0 ul long-ul ua n woven i vl vr counted', join-asked asked.0 ul long-ul ua n woven i vl vr counted' za laid' wl vr long-wl long-vr kl kr copied')

                module _ {t : Window} {jr : List ℕ} (joined : JoinedAt s w e old (joins_of s w old row rights) q row kr t jr) where
                  joined' : JoinedAt s w e old (joins_of s w old (get_or ua i zero_row) rights) (get_or za i zero_row) (get_or ua i zero_row) kr t jr
                  joined' = rw is-q at (rw is_row at joined)

                  pub fills : Passable has s w e t za n kl jr
                  fills = rw woven.0 (fill-asked asked.0 ul long-ul ua n woven i vl vr counted' za laid' wl vr long-wl long-vr kl kr copied' t jr joined')

                  pub extends : {zl zr : List ℕ} → PassMade has s w n kl jr zl zr → (n ≡ length (extended (index_of w d old from lefts rights) s).rows) × HoldsExtended (index_of w d old from lefts rights) s (index_buffers rows left right) (index_buffers za zl zr)
                  extends {zl} {zr} p = (rows-counted asked.0 woven, extended-held asked.0 ul long-ul ua n woven i vl vr counted' za laid' wl vr long-wl long-vr kl kr copied' t jr joined' zl zr (subst (λ m. PassMade has s w m kl jr zl zr) woven.0 p))
