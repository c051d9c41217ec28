-- A local array in a walk: it is lent whole, as a `&mut [T]`, or its first k elements are, as a `&[T]`, for one call, and it is taken back.
--     array            the plain data `[T; n]`.        is-repeat       what is known of `[x; n]`
--     Local            where a local array lies: its elements' type, how many there are, and its block
--     mut_of, shr-of   the slice that it is lent as
--     lends-array      [..; its cell; ..] → [the slice's token; what the slice owns; ..; the loan; ..]      back-array      the same back, at the list that the slice holds by then
--     shares_array, unshares-array     likewise for the first k elements, and the array is as it was.        The first asks that T is lent as `&` with no other token (`Shares` at no lifetime), as a type that is Copy is (`Borrow/Table/Copies.antt`'s `Shares-copy`)
--     first_of         the first k elements of a slice that the function was lent as a `&κ [T]`.       shares-first, unshares-first     they are lent for one call, under the token of the whole
--     recount          the count in a slice's cell, written another way.       big-lit     an operand that MIR writes by a bound
-- Assumes `Logic`.
use base.Fml.{GName, Share, fat, flent, fres, Lft, Incl-refl, fsep, fdead, flft}
use base.Logic.{ent, sep, via, guard_i, mono_r}
use borrow.Rule.Slice.Prefix.{shs_prefix_same}
use contract.BorrowLft.{meet_⊑_right}
use denote.Array.{Array, each, array_vals, Array-Tells, Array-Makes, Array-Lawful}
use denote.ArrayMemory.{Single, Array-apart, Array-whole}
use denote.Index.{row, whole_in, whole_out}
use denote.Laws.{Is, Tells, shows}
use denote.Lend.{Held, lends_slice, slice_back, lends_shr_slice}
use denote.Memory.{lone, shares, mem, cell_at, part_of}
use denote.RattleType.{RattleType, RowLaws}
use denote.Ref.{Bor}
use denote.Shares.{Shares as SharesRow}
use denote.Shadow.{shadow, pure_l, pure_i}
use denote.Slice.{slice_val, Room, heres, coded_holeys, finally, res-finally, MutSlice, ShrSlice, room, shr_slice_at}
use denote.Steps.{owned, only, peeks}
use types.Logic.{Logic}
use base.Fraction.{full_share}
use seplogic.Ra.Ura.{Ura}
use mir.Syntax.{Ty, Width, erased, ty_array, int_big, Lifetime}
use mir.Val.{Val, vint, Fits}
use native.Mathlib.Nat.{le_of_eq, le_trans, lt_of_le_of_lt, mul-le-mul_right}
use prog.Wp.{Env}
use types.Kit.{Goal, Soaks, Item, ‵, raw, ◌⊛◌, ⋆, mean, nth, del, put, pull, fill, push, pop, Seq, Step, step, ◌$◌, by, use1, use2, move, keep, drop, split, rewrite, fsplit, later, use3, pick, await, fjoin, fpick, fpack, feq_i}
use types.Run.{Opd}
use types.SemTy.{cells, Arr}
use types.Share.{arr_parts}
use types.Tokens.{lft_new, lft_end, lent_back}
use Rattle.meaning_numbers.proofs.Prelude.{ℕ, zero, suc, ◌≤◌, length, take, replicate, length-replicate, List, [], ◌∷◌, map, ◌≡◌, refl, sym, ◌∙◌, subst}
use Rattle.rows_records.proofs.Rest.{take_less}
use Rattle.walk_kit.proofs.{Passing.Data, Passing.Lent, Passing.token, Passing.viewed, Passing.lent_at, Lends.Own, Lends.twin}

module _ {M : Type 1} {𝓤 : Ura M} (𝓛 : Logic 𝓤) where
  abbrev pub array : Data 𝓛 → ℕ → Data 𝓛
  array D n = record { row = Array D.row n; val = λ xs. only (array_vals (λ x. D.val x ∷ []) xs); tells = Array-Tells D.row (λ x. D.val x ∷ []) D.tells n; makes = Array-Makes 𝓛 D.row D.makes n; lawful = Array-Lawful 𝓛 D.row D.lawful n }

  is-each : (D : Data 𝓛) (n : ℕ) (x : D.row.Denot) → Is D.row x (D.val x ∷ []) → shadow (each D.row.Denot D.row.own_val (replicate n x) (map (λ y. D.val y) (replicate n x)))
  is-each D zero x is = tt
  is-each D (suc n) x is = (is, is-each D n x is)

  pub is-repeat : (D : Data 𝓛) (n : ℕ) (x : D.row.Denot) → Is D.row x (D.val x ∷ []) → Is (array D n).row (replicate n x) ((array D n).val (replicate n x) ∷ [])
  is-repeat D n x is = (map (λ y. D.val y) (replicate n x), ((refl, length-replicate n x), is-each D n x is))

-- ---- a local array lent whole, for any T that is plain data
module _ {M : Type 1} {𝓤 : Ura M} {𝓛 : Logic 𝓤} {K : Type 0} {Γ : List (Item 𝓤)} {G : Goal 𝓤 𝓛.H} where
  mut-lent : K → Soaks G → (R : RattleType) → Single R.mir → (ℓ : Lifetime) (κ : Lft) (n : ℕ) (xs : List R.Denot) → length xs ≡ n → Room R n → (v : Val) (b : ℕ)
      → ((γ : GName) → Seq K 𝓛 (‵ ((MutSlice ℓ κ R).own_val (record { ref_ptr = (b, 0); ghost_name = γ; now = xs }) (slice_val (b, 0) n ∷ [])) ∷ ‵ (flent κ (Held R (length xs) b 0 γ)) ∷ Γ) G)
      → Seq K 𝓛 (‵ (fat full_share (ty_array (lone R.mir) n) b 0 v) ∷ ‵ ((Array R n).own_val xs (v ∷ [])) ∷ Γ) G
  unfolding part_of
  mut-lent t z R one ℓ κ n xs e room v b k =
      use1 𝓛 _ (𝓛.laws.at_raw full_share _ b 0 v) $ fjoin t $
      fpack t (List Val) (λ vs. fsep (cell_at full_share (Array R n).mir vs b 0) ((Array R n).own_val xs vs)) (v ∷ []) $
      use1 𝓛 (‵ ((arr_parts (shares R) n).part full_share xs b 0)) (Array-apart 𝓛 R full_share one n xs b 0) $ fsplit t $ drop t $
      use1 𝓛 (‵ (cells (mem R) xs b 0)) (whole_in 𝓛 R xs b 0) $
      use1 𝓛 _
      (lends_slice 𝓛 R ℓ κ xs b 0 (subst (Room R) (sym e) room)) $ await t z $ pick t (λ γ. split t $
      rewrite t 0 (λ (c : ℕ). ‵ ((MutSlice ℓ κ R).own_val (record { ref_ptr = (b, 0); ghost_name = γ; now = xs }) (slice_val (b, 0) c ∷ []))) e refl $ k γ)

  mut_back : K → Soaks G → (R : RattleType) (vals : R.Denot → List Val) → Tells R (Is R) vals → {κ : Lft} (n m : ℕ) (γ : GName) (zs : List R.Denot) → length zs ≡ n → (v : Val) → array_vals vals zs ≡ v ∷ [] → (b : ℕ)
      → (Is (Array R n) zs (v ∷ []) → Seq K 𝓛 (‵ (fat full_share (ty_array (lone R.mir) n) b 0 v) ∷ ‵ ((Array R n).own_val zs (v ∷ [])) ∷ Γ) G)
      → Seq K 𝓛 (‵ (fdead κ) ∷ ‵ (flent κ (Held R m b 0 γ)) ∷ ‵ (finally R γ zs) ∷ Γ) G
  unfolding part_of
  mut_back t z R vals tl {κ} n m γ zs e v is-v b k =
      use3 𝓛 (later (‵ ((Arr (mem R) m).own_at zs b 0))) (slice_back 𝓛 R κ γ zs m b 0) $ await t z $ fsplit t $ drop t $ use1 𝓛 (‵ (row R full_share zs b 0)) (whole_out 𝓛 R zs b 0) $
      feq_i t ℕ (length zs) n e $ fjoin t $ use1 𝓛 _ (Array-whole 𝓛 R full_share n zs b 0) $ fpick t (λ vs. fsplit t $ move t (1 ∷ []) $
      peeks t (Array R n) (Is (Array R n)) (shows 𝓛 (Array R n)) zs vs (λ p.
      rewrite t 0 (λ (us : List Val). ‵ ((Array R n).own_val zs us)) (Array-Tells R vals tl n zs vs p ∙ is-v) refl $
      rewrite t 1 (λ (us : List Val). ‵ (cell_at full_share (Array R n).mir us b 0)) (Array-Tells R vals tl n zs vs p ∙ is-v) refl $ move t (1 ∷ 0 ∷ []) $
      use1 𝓛 _ (𝓛.laws.raw_at full_share (ty_array (lone R.mir) n) b 0 v) $ k (subst (Is (Array R n) zs) (Array-Tells R vals tl n zs vs p ∙ is-v) p)))

  shr-lent : K → Soaks G → (R : RattleType) → SharesRow 𝓛 R [] → Single R.mir → (ℓ : Lifetime) (ν : ℕ) (q : Share) (n : ℕ) (xs : List R.Denot) → length xs ≡ n → Room R (length xs) → (v : Val) (b : ℕ)
      → Step K 𝓛 (‵ ((ShrSlice ℓ (ν ∷ []) R).own_val (record { ref_ptr = (b, 0); now = xs }) (slice_val (b, 0) (length xs) ∷ [])) ∷ ‵ (flent (ν ∷ []) ((arr_parts (shares R) (length xs)).part full_share xs b 0)) ∷ ‵ (flft (ν ∷ []) q) ∷ Γ) G
      (‵ (fat full_share (ty_array (lone R.mir) n) b 0 v) ∷ ‵ ((Array R n).own_val xs (v ∷ [])) ∷ ‵ (flft (ν ∷ []) q) ∷ Γ) G
  unfolding part_of
  shr-lent t z R sh one ℓ ν q n xs e room v b = step (λ k.
      use1 𝓛 _ (𝓛.laws.at_raw full_share _ b 0 v) $ fjoin t $
      fpack t (List Val) (λ vs. fsep (cell_at full_share (Array R n).mir vs b 0) ((Array R n).own_val xs vs)) (v ∷ []) $
      use1 𝓛 _ (Array-apart 𝓛 R full_share one n xs b 0) $
      rewrite t 0 (λ (m : ℕ). ‵ ((arr_parts (shares R) m).part full_share xs b 0)) (sym e) refl $
      use2 𝓛 (later ((‵ ((ShrSlice ℓ (ν ∷ []) R).own_val (record { ref_ptr = (b, 0); now = xs }) (slice_val (b, 0) (length xs) ∷ [])) ⊛ ‵ (flent (ν ∷ []) ((arr_parts (shares R) (length xs)).part full_share xs b 0))) ⊛ ‵ (flft (ν ∷ []) q)))
      (lends_shr_slice 𝓛 R ℓ (ν ∷ []) full_share xs b 0 room [] sh ((ν ∷ [], q) ∷ []) (meet_⊑_right (ν ∷ []) []) (Incl-refl (ν ∷ []))) $ await t z $ split t $ split t $ move t (0 ∷ 1 ∷ []) $ k)

  shr-back : K → Soaks G → (R : RattleType) (vals : R.Denot → List Val) → Tells R (Is R) vals → {κ : Lft} (n : ℕ) (xs : List R.Denot) → length xs ≡ n → (v : Val) → array_vals vals xs ≡ v ∷ [] → (b : ℕ)
      → Step K 𝓛 (‵ (fat full_share (ty_array (lone R.mir) n) b 0 v) ∷ Γ) G (‵ (fdead κ) ∷ ‵ (flent κ ((arr_parts (shares R) (length xs)).part full_share xs b 0)) ∷ Γ) G
  unfolding part_of
  shr-back t z R vals tl n xs e v is-v b = step (λ s. lent_back t z $ rewrite t 0 (λ (m : ℕ). ‵ ((arr_parts (shares R) m).part full_share xs b 0)) e refl $
      use1 𝓛 _ (Array-whole 𝓛 R full_share n xs b 0) $ fpick t (λ vs. fsplit t $ move t (1 ∷ []) $
      peeks t (Array R n) _ (shows 𝓛 (Array R n)) xs vs (λ p. drop t $
      rewrite t 0 (λ (us : List Val). ‵ (cell_at full_share (Array R n).mir us b 0)) (Array-Tells R vals tl n xs vs p) refl $
      rewrite t 0 (λ (us : List Val). ‵ (cell_at full_share (Array R n).mir us b 0)) is-v refl $
      use1 𝓛 _ (𝓛.laws.raw_at full_share (ty_array (lone R.mir) n) b 0 v) $ s)))

-- ---- the first k elements of a `&κ [T]`, at its own lifetime: the slice owns `take k` of its list afterwards
module _ (R : RattleType) (b o : ℕ) where
  abbrev ref-at : List R.Denot → Bor (List R.Denot)
  ref-at l = record { ref_ptr = (b, o); now = l }

  abbrev counted : List R.Denot → List Val
  counted l = slice_val (b, o) (length l) ∷ []

  module _ {M : Type 1} {𝓤 : Ura M} {𝓛 : Logic 𝓤} {K : Type 0} {Γ : List (Item 𝓤)} {G : Goal 𝓤 𝓛.H} where
    prefix : K → Soaks G → (ℓ : Lifetime) (κ : Lft) (q : Share) (ys : List R.Denot) (k : ℕ)
        → Step K 𝓛 (‵ ((ShrSlice ℓ κ R).own_val (ref-at (take k ys)) (counted (take k ys))) ∷ ‵ (flft κ q) ∷ Γ) G (‵ ((ShrSlice ℓ κ R).own_val (ref-at ys) (counted ys)) ∷ ‵ (flft κ q) ∷ Γ) G
    prefix t z ℓ κ q ys k = step (λ next.
        fsplit t $ pure_l t (shr_slice_at R (ref-at ys) (counted ys)) (λ p. pure_i t (room R (length ys)) (tt, tt) p.1 $ fjoin t $
        use2 𝓛 _ (shs_prefix_same 𝓛 R κ q b o ys k) $ await t z $ split t $
        fsplit t $ pure_l t (room R _) (λ rm. pure_i t (shr_slice_at R (ref-at (take k ys)) _) (tt, (tt, tt)) (refl, rm) $ fjoin t $ next)))

pub less : (R : RattleType) {m n : ℕ} → m ≤ n → Room R n → Room R m
less R l r = (lt_of_le_of_lt l r.0, lt_of_le_of_lt (mul-le-mul_right (mem R).size l) r.1)

abbrev pub first_of : Lent → ℕ → Lent
first_of p k = record { row = p.row; ref = record { ref_ptr = p.ref.ref_ptr; now = take k p.ref.now }; name = p.name; lft = p.lft; share = p.share; has_room = less p.row (take_less k p.ref.now) p.has_room }

module _ {M : Type 1} {𝓤 : Ura M} {𝓛 : Logic 𝓤} {K : Type 0} {Γ : List (Item 𝓤)} {G : Goal 𝓤 𝓛.H} where
  pub shares-first : K → Soaks G → (p : Lent) → RowLaws p.row → (k : ℕ) → Step K 𝓛 (token 𝓛 (first_of p k) ∷ viewed 𝓛 (first_of p k) ∷ viewed 𝓛 p ∷ Γ) G (token 𝓛 p ∷ viewed 𝓛 p ∷ Γ) G
  shares-first t z p L k = step (λ next. move t (1 ∷ []) $ twin t p.row L erased p.lft p.ref $ move t (0 ∷ 2 ∷ []) $
      prefix p.row p.ref.ref_ptr.0 p.ref.ref_ptr.1 t z erased p.lft p.share p.ref.now k $ move t (1 ∷ []) $ next)

  pub unshares-first : K → (p : Lent) (k : ℕ) → Step K 𝓛 (token 𝓛 p ∷ Γ) G (token 𝓛 (first_of p k) ∷ viewed 𝓛 (first_of p k) ∷ Γ) G
  unshares-first t p k = step (λ s. move t (1 ∷ []) $ drop t $ s)

-- where a local array lies
pub record Local {M : Type 1} {𝓤 : Ura M} (𝓛 : Logic 𝓤) : Type 2 where
  pub of : Data 𝓛
  pub count : ℕ
  pub block : ℕ
  pub one : Single of.row.mir
  pub room : Room of.row count

module _ {M : Type 1} {𝓤 : Ura M} {𝓛 : Logic 𝓤} (L : Local 𝓛) (xs : List L.of.row.Denot) where
  abbrev R : RattleType
  R = L.of.row

  abbrev pub vals : List Val
  vals = array_vals (λ x. L.of.val x ∷ []) xs

  abbrev pub Known : Type 0
  Known = Is (Array R L.count) xs vals

  abbrev cell : Item 𝓤
  cell = ‵ (fat full_share (ty_array (lone R.mir) L.count) L.block zero (only vals))

  abbrev pub of_array : (l : List R.Denot) → length l ≤ L.count → ℕ → GName → Lent
  of_array l le ν γ = record { row = R; ref = record { ref_ptr = (L.block, zero); now = l }; name = γ; lft = ν ∷ []; share = full_share; has_room = less R le L.room }

  module _ (is : Known) where
    abbrev pub mut_of : ℕ × GName → Lent
    mut_of f = of_array xs (le_of_eq is.1.0.1) f.0 f.1

    abbrev pub shr-of : ℕ → ℕ → Lent
    shr-of k ν = of_array (take k xs) (le_trans (take_less k xs) (le_of_eq is.1.0.1)) ν zero

    -- what stands in the cell's place meanwhile
    abbrev pub mut-loan : ℕ × GName → Item 𝓤
    mut-loan f = ‵ (flent (f.0 ∷ []) (Held R (length xs) L.block zero f.1))

    abbrev pub shr-loan : ℕ → Item 𝓤
    shr-loan ν = ‵ (flent (ν ∷ []) ((arr_parts (shares R) (length xs)).part full_share xs L.block zero))

module _ {M : Type 1} {𝓤 : Ura M} {𝓛 : Logic 𝓤} {K : Type 0} {Γ : List (Item 𝓤)} {G : Goal 𝓤 𝓛.H} where
  -- entry c is taken to the head, and another is put where it stood
  out : K → (c : ℕ) (i : Item 𝓤) → nth 𝓛 c Γ ≡ i → Step K 𝓛 (i ∷ raw (⋆ 𝓛 (del 𝓛 c Γ)) ∷ []) G Γ G
  out t c i e = step (λ s. by t (via 𝓤 _ (subst (λ (j : Item 𝓤). ent 𝓤 (⋆ 𝓛 Γ) (sep 𝓤 (mean 𝓛 j) (⋆ 𝓛 (del 𝓛 c Γ)))) e (pull 𝓛 c Γ)) s.prf))

  apart : K → (i k : Item 𝓤) → Step K 𝓛 (i ∷ k ∷ raw (⋆ 𝓛 Γ) ∷ []) G (i ∷ k ∷ Γ) G
  apart t i k = step (λ s. by t (via 𝓤 _ (mono_r 𝓤 (mean 𝓛 i) (pop 𝓛 k Γ)) s.prf))

  within : K → (i k : Item 𝓤) → Step K 𝓛 (i ∷ k ∷ Γ) G (i ∷ k ∷ raw (⋆ 𝓛 Γ) ∷ []) G
  within t i k = step (λ s. by t (via 𝓤 _ (mono_r 𝓤 (mean 𝓛 i) (push 𝓛 k Γ)) s.prf))

  whole : K → Step K 𝓛 Γ G (raw (⋆ 𝓛 Γ) ∷ []) G
  whole t = step (λ s. by t s.prf)

module _ {M : Type 1} {𝓤 : Ura M} {𝓛 : Logic 𝓤} {K : Type 0} {Γ : List (Item 𝓤)} {G : Goal 𝓤 𝓛.H} (L : Local 𝓛) (xs : List L.of.row.Denot) (is : Known L xs) where
  pub lends-array : K → Soaks G → (c : ℕ) → nth 𝓛 c Γ ≡ cell L xs → ((f : ℕ × GName) → Seq K 𝓛 (token 𝓛 (mut_of L xs is f) ∷ lent_at 𝓛 (mut_of L xs is f) xs ∷ put 𝓛 c (mut-loan L xs is f) Γ) G) → Seq K 𝓛 Γ G
  lends-array t z c e k = out t c (cell L xs) e $ lft_new t z (λ ν. owned t (Array (R L xs) L.count) (Is (Array (R L xs) L.count)) (array 𝓛 L.of L.count).makes xs (vals L xs) is $ move t (2 ∷ 0 ∷ []) $
      mut-lent t z (R L xs) L.one erased (ν ∷ []) L.count xs is.1.0.1 L.room _ L.block (λ γ.
      -- [what the slice owns; the loan; its token; the others]
      rewrite t 0 (λ (m : ℕ). ‵ (Own (R L xs) L.block zero m erased (ν ∷ []) γ xs)) (sym is.1.0.1) refl $
      move t (1 ∷ 3 ∷ []) $ use2 𝓛 (raw (⋆ 𝓛 (put 𝓛 c (mut-loan L xs is (ν, γ)) Γ))) (fill 𝓛 c (mut-loan L xs is (ν, γ)) Γ) $ move t (2 ∷ 1 ∷ 0 ∷ []) $ within t _ _ $ k (ν, γ)))

  pub back-array : K → Soaks G → (c : ℕ) (f : ℕ × GName) (zs : List L.of.row.Denot) → length zs ≡ length xs → nth 𝓛 c Γ ≡ mut-loan L xs is f
      → (Known L zs → Seq K 𝓛 (put 𝓛 c (cell L zs) Γ) G) → Seq K 𝓛 (token 𝓛 (mut_of L xs is f) ∷ lent_at 𝓛 (mut_of L xs is f) zs ∷ Γ) G
  back-array t z c f zs same e k = apart t _ (lent_at 𝓛 (mut_of L xs is f) zs) $ lft_end t z $ move t (1 ∷ []) $ fsplit t $
      -- [that it is a slice; what it owns; its lifetime is over; the others]
      drop t $ fsplit t $ use1 𝓛 (‵ (fres f.1 ((coded_holeys (R L xs)).code (heres (R L xs) zs)))) (𝓛.names.obs-res f.1 ((coded_holeys (R L xs)).code (heres (R L xs) zs))) $
      use1 𝓛 (‵ (finally (R L xs) f.1 zs)) (res-finally 𝓛 erased (f.0 ∷ []) (R L xs) f.1 zs) $ move t (3 ∷ []) $
      use1 𝓛 (mut-loan L xs is f ⊛ raw (⋆ 𝓛 (del 𝓛 c Γ))) (subst (λ (j : Item 𝓤). ent 𝓤 (⋆ 𝓛 Γ) (sep 𝓤 (mean 𝓛 j) (⋆ 𝓛 (del 𝓛 c Γ)))) e (pull 𝓛 c Γ)) $ split t $
      -- [the loan; the others; the last list; the borrow; its lifetime is over]
      move t (4 ∷ 0 ∷ 2 ∷ []) $ mut_back t z (R L xs) (λ x. L.of.val x ∷ []) L.of.tells L.count (length xs) f.1 zs (same ∙ is.1.0.1) (only (vals L zs)) refl L.block (λ is-zs.
      move t (0 ∷ 2 ∷ []) $ use2 𝓛 (raw (⋆ 𝓛 (put 𝓛 c (cell L zs) Γ))) (fill 𝓛 c (cell L zs) Γ) $ keep t (0 ∷ []) $ whole t $ k is-zs)

  pub shares_array : K → Soaks G → SharesRow 𝓛 L.of.row [] → (c k : ℕ) → nth 𝓛 c Γ ≡ cell L xs → ((ν : ℕ) → Seq K 𝓛 (token 𝓛 (shr-of L xs is k ν) ∷ viewed 𝓛 (shr-of L xs is k ν) ∷ put 𝓛 c (shr-loan L xs is ν) Γ) G) → Seq K 𝓛 Γ G
  shares_array t z sh c n e k = out t c (cell L xs) e $ lft_new t z (λ ν. owned t (Array (R L xs) L.count) (Is (Array (R L xs) L.count)) (array 𝓛 L.of L.count).makes xs (vals L xs) is $ move t (2 ∷ 0 ∷ []) $
      shr-lent t z (R L xs) sh L.one erased ν full_share L.count xs is.1.0.1 (subst (Room (R L xs)) (sym is.1.0.1) L.room) _ L.block $ move t (0 ∷ 2 ∷ []) $ prefix (R L xs) L.block zero t z erased (ν ∷ []) full_share xs n $
      -- [what the slice owns; its token; the loan; the others]
      move t (2 ∷ 3 ∷ []) $ use2 𝓛 (raw (⋆ 𝓛 (put 𝓛 c (shr-loan L xs is ν) Γ))) (fill 𝓛 c (shr-loan L xs is ν) Γ) $ move t (2 ∷ 1 ∷ 0 ∷ []) $ within t _ _ $ k ν)

  pub unshares-array : K → Soaks G → (c k ν : ℕ) → nth 𝓛 c Γ ≡ shr-loan L xs is ν → Step K 𝓛 (put 𝓛 c (cell L xs) Γ) G (token 𝓛 (shr-of L xs is k ν) ∷ viewed 𝓛 (shr-of L xs is k ν) ∷ Γ) G
  unshares-array t z c n ν e = step (λ s. apart t (token 𝓛 (shr-of L xs is n ν)) _ $ lft_end t z $ move t (2 ∷ []) $
      use1 𝓛 (shr-loan L xs is ν ⊛ raw (⋆ 𝓛 (del 𝓛 c Γ))) (subst (λ (j : Item 𝓤). ent 𝓤 (⋆ 𝓛 Γ) (sep 𝓤 (mean 𝓛 j) (⋆ 𝓛 (del 𝓛 c Γ)))) e (pull 𝓛 c Γ)) $ split t $
      -- [the loan; the others; the lifetime is over; the slice]
      move t (2 ∷ 0 ∷ []) $ shr-back t z (R L xs) (λ x. L.of.val x ∷ []) L.of.tells L.count xs is.1.0.1 (only (vals L xs)) refl L.block $
      use2 𝓛 (raw (⋆ 𝓛 (put 𝓛 c (cell L xs) Γ))) (fill 𝓛 c (cell L xs) Γ) $ keep t (0 ∷ []) $ whole t $ s)

module _ {M : Type 1} {𝓤 : Ura M} {𝓛 : Logic 𝓤} {K : Type 0} {Γ : List (Item 𝓤)} where
  open 𝓛 use {H}

  pub recount : K → {G : Goal 𝓤 H} (n : ℕ) {τ : Ty} {l b o m : ℕ} {m' : ℕ} → m ≡ m' → nth 𝓛 n Γ ≡ ‵ (fat full_share τ l zero (slice_val (b, o) m)) → Step K 𝓛 (put 𝓛 n (‵ (fat full_share τ l zero (slice_val (b, o) m'))) Γ) G Γ G
  recount t n {τ} {l} {b} {o} e at_n = rewrite t n (λ (c : ℕ). ‵ (fat full_share τ l zero (slice_val (b, o) c))) e at_n

  pub big-lit : K → {E : Env 𝓤 H} {w : Width} {n : ℕ} → Fits w n → Opd K 𝓛 Γ E (int_big w n) (vint w n)
  big-lit t {E} {w} {n} z = record { go = λ Kt h. via 𝓤 _ h (guard_i 𝓤 (Fits w n) _ z) }
