-- A turn of merging over plain variables: what the loop keeps, that the calls may be made and the places are there, how it starts, moves and ends.
use Rattle.meaning_numbers.proofs.Prelude.{◌≡◌, subst, ℕ, ◌<◌, ◌≤◌, ◌^◌, ◌+◌, arith, List, length, set, get_or}
use Rattle.meaning_rows.specs.{declared.Row.Row, Build.merged}
use Rattle.rows_records.specs.Records.{zero_row}
use Rattle.rows_pack.specs.PackedAs.{PackedAs}
use Rattle.build_merge.specs.{declared.Group.Group, Group.first_group, Group.next_group, Group.Joinable, Merging.Rows, Merging.Ready, Merging.Mergeable}
use Rattle.build_merge.proofs.Merging.{Merging, merging_start, merging-turn, merging-place, merging-joinable, merging-end}

-- the group, the place of the next row, and the records
pub record Kept (ys : List Row) (n : ℕ) (us ws : List ℕ) (g : ℕ) (m : Group) (i : ℕ) (l : List Row) : Type 0 where
  pub merging : (t : Rows) → Ready t ys n us ws → Merging t n us ws g i l m
  pub upto : i ≤ n

module _ (ys : List Row) (n : ℕ) (us ws : List ℕ) (g : ℕ) (asked : Mergeable ys n us ws × (g ≤ 100)) where
  abbrev t₀ : Rows
  t₀ = asked.0.some

  abbrev r₀ : Ready t₀ ys n us ws
  r₀ = asked.0.ready

  pub first-in : 0 < length ys
  first-in = omega arith

  pub started : {m : Group} → m ≡ first_group (get_or ys 0 zero_row) → Kept ys n us ws g m 1 ys
  started e = record { merging = λ t r. rw e (merging_start t n us ws g ys r); upto = r₀.some }

  pub last_fits : {m : Group} {i : ℕ} {l : List Row} → Kept ys n us ws g m i l → m.place + 1 < 2 ^ 64
  last_fits k = omega (arith, k.upto, r₀.few, (k.merging t₀ r₀).stand.place-below)

  pub ended : {m : Group} {i : ℕ} {l : List Row} → Kept ys n us ws g m i l → n ≤ i → (t : Rows) → Ready t ys n us ws → PackedAs t.windows (merged g t.windows t.list) l (m.place + 1)
  ended {m} {i} {l} k done t r =
      let e : i ≡ n = omega arith in
      merging-end t n us ws g l m (rw e at (k.merging t r))

  module _ {m : Group} {i : ℕ} {l : List Row} (k : Kept ys n us ws g m i l) (less : i < n) where
    pub in_rows : i < length ys
    in_rows = omega arith

    pub able : Joinable m i (get_or l i zero_row) us ws g
    able = merging-joinable t₀ n us ws g r₀.names r₀.short r₀.in_left r₀.in_right r₀.few asked.1 i l m (k.merging t₀ r₀) less

    module _ {m' : Group} (e : m' ≡ next_group us ws g m i (get_or l i zero_row)) where
      pub in_place : length l ≡ length ys → m'.place < length ys
      in_place long = subst (λ (c : ℕ). m'.place < c) long (rw e (merging-place t₀ n us ws g r₀.names i l m (k.merging t₀ r₀) less))

      pub turned : Kept ys n us ws g m' (i + 1) (set l m'.place m'.row)
      turned = record { merging = λ t r. rw e (merging-turn t n us ws g r.names i l m (k.merging t r) less); upto = omega arith }
