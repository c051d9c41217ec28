-- Loops and elements of slices in a walk.
--     loops            a `while` and what follows it, over states s of any type: Δ s is what is had of slices and cs s what the locals hold before a turn, F s what is known, and μ s falls with each turn
--     reads-lent, reads-shared     an element of a `&κ mut [T]`, or of a `&κ [T]`, is read into an empty local through the pointer in another one.        writes-lent    an element is written
--     offset-fits      the byte offset of an element fits a usize
-- The token and what is had of the slice are at the head, and stay there.
-- Assumes `Logic`.
use base.Fml.{Share, Lft, fat, froom, flft, fobs, fauth, fobor}
use base.Logic.{SProp, ent}
use denote.Index.{row, opens_slice, closes_slice, looks_slice, shuts_slice}
use denote.Copied.{Copied}
use denote.Laws.{Is}
use denote.Lend.{Held}
use denote.Memory.{cell_at, mem}
use denote.RattleType.{RattleType}
use denote.Ref.{Bor, MutBor}
use denote.Shadow.{pure_l, pure_i}
use denote.Slice.{slice_val, MutSlice, ShrSlice, Room, mut_slice_at, heres, coded_holeys, shr_slice_vals, shr_slice_at}
use types.Logic.{Logic}
use base.Fraction.{full_share}
use seplogic.Ra.Ura.{Ura}
use mir.Raw.{raw as raw_ty}
use mir.Syntax.{Ty, Opd as Operand, copy, rv_opd, place, deref, Body, assign, seq, block, loop, erased}
use mir.Val.{Val, vptr, has_ty, WT}
use native.Mathlib.Nat.{mul-le-mul_right, le_of_lt}
use prog.Wp.{Out, next, exits, Env, spot_of, Calls, Loops, Tables, Wp, after_seq, after_block, after_turn}
use types.Kit.{Goal, Soaks, Item, nth, put, ‵, ⋆, Post, post, any_q, prop, runs, Seq, Step, step, ◌$◌, move, rewrite, fsplit, fjoin}
use types.Run.{Opd, look, init, stop, hop, from, load, of_opd, assigns}
use Rattle.meaning_numbers.proofs.Prelude.{ℕ, suc, ◌+◌, ◌*◌, ◌^◌, ◌<◌, T as True, length, get_or, set, length-set, List, [], ◌∷◌, ◌++◌, ◌≡◌, refl, sym, ◌∙◌, subst, arith}
use Rattle.walk_kit.proofs.{Elem.Elem, Elem.knows, Elem.look-elem, Elem.store-elem, Lends.Own, Passing.Data, Passing.Cell, Passing.Cells, Walk.loops-by}

pub offset-fits : (R : RattleType) (i n : ℕ) → i < n → Room R n → i * (mem R).size < 2 ^ 64
offset-fits R i n below room = omega (arith, mul-le-mul_right (mem R).size (le_of_lt below), room.1)

-- ---- a loop
module _ {M : Type 1} {𝓤 : Ura M} {𝓛 : Logic 𝓤} {K : Type 0} {Γ : List (Item 𝓤)} {E : Env 𝓤 𝓛.H} {q : Post 𝓤 𝓛.H} {turn rest : Body} where
  open 𝓛 use {H}

  -- a turn is handed what is to hold after it, Q, the way on to another turn, and the way out
  pub loops : K → (𝓣 : Tables 𝓤 H) {S : Type 0} (μ : S → ℕ) (F : S → Type 0) (Δ : S → List (Item 𝓤)) (cs : S → List Cell) (s : S) → F s → Γ ≡ Δ s ++ Cells 𝓤 H E (cs s)
      → ((s : S) → F s → (Q : Out → SProp 𝓤) → ((s' : S) → μ s' < μ s → F s' → ent 𝓤 (⋆ 𝓛 (Δ s' ++ Cells 𝓤 H E (cs s'))) (Q next)) → ((Θ : List (Item 𝓤)) → Step K 𝓛 Θ (runs 𝓣.C 𝓣.Λ E rest q) Θ (prop (Q (exits 1))))
      → Seq K 𝓛 (Δ s ++ Cells 𝓤 H E (cs s)) (runs 𝓣.C 𝓣.Λ E turn (any_q Q)))
      → Seq K 𝓛 Γ (runs 𝓣.C 𝓣.Λ E (seq (block (loop turn)) rest) q)
  unfolding after_turn
  loops t 𝓣 μ F Δ cs s f e each =
      let Left = after_block 𝓤 H (after_seq 𝓤 H (Wp 𝓤 H 𝓣.C 𝓣.Λ E rest (post 𝓤 H q)) (post 𝓤 H q)) in
      let all = loops-by 𝓛 𝓣 E turn Left μ F (λ s. Δ s ++ Cells 𝓤 H E (cs s)) (λ s f X on. (each s f _ on (λ Θ. step (λ r. record { prf = r.prf }))).prf) s f in
      record { prf = rw e all }

-- ---- elements
module _ (R : RattleType) (x : MutBor (List R.Denot)) where
  abbrev b : ℕ
  b = x.ref_ptr.0

  abbrev o : ℕ
  o = x.ref_ptr.1

  abbrev at : List R.Denot → MutBor (List R.Denot)
  at l = record { ref_ptr = (b, o); ghost_name = x.ghost_name; now = l }

module _ (R : RattleType) (x : MutBor (List R.Denot)) (l : List R.Denot) {M : Type 1} {𝓤 : Ura M} {𝓛 : Logic 𝓤} {K : Type 0} {Γ : List (Item 𝓤)} {G : Goal 𝓤 𝓛.H} {κ : Lft} {s : Share} where
  -- a `&κ mut [T]` at a list is opened, and closed at another
  opens : K → Soaks G → length l ≡ length x.now
      → Step K 𝓛 (‵ (row R full_share l (b R x) (o R x)) ∷ ‵ (fobor κ s (Held R (length l) (b R x) (o R x) x.ghost_name)) ∷ ‵ (fobs x.ghost_name ((coded_holeys R).code (heres R l))) ∷ ‵ (fauth x.ghost_name ((coded_holeys R).code (heres R l))) ∷ Γ) G
      (‵ (flft κ s) ∷ ‵ (Own R (b R x) (o R x) (length x.now) erased κ x.ghost_name l) ∷ Γ) G
  opens t z e = step (λ k. rewrite t 1 (λ (c : ℕ). ‵ ((MutSlice erased κ R).own_val (at R x l) (slice_val (b R x, o R x) c ∷ []))) (sym e) refl $ move t (1 ∷ []) $ fsplit t $
      pure_l t (mut_slice_at R (at R x l) _) (λ p. fsplit t $ opens_slice t z R l (b R x) (o R x) $ k))

  closes : K → Soaks G → (l' : List R.Denot) → length l' ≡ length l → length l ≡ length x.now → Room R (length x.now)
      → Step K 𝓛 (‵ (flft κ s) ∷ ‵ (Own R (b R x) (o R x) (length x.now) erased κ x.ghost_name l') ∷ Γ) G
      (‵ (row R full_share l' (b R x) (o R x)) ∷ ‵ (fobor κ s (Held R (length l) (b R x) (o R x) x.ghost_name)) ∷ ‵ (fobs x.ghost_name ((coded_holeys R).code (heres R l))) ∷ ‵ (fauth x.ghost_name ((coded_holeys R).code (heres R l))) ∷ Γ) G
  closes t z l' e' e room = step (λ k. closes_slice t z R l l' e' (b R x) (o R x) $ fjoin t $
      pure_i t (mut_slice_at R (at R x l') _) (tt, (tt, tt)) (refl, subst (Room R) (sym (e' ∙ e)) room) $ fjoin t $
      rewrite t 0 (λ (c : ℕ). ‵ ((MutSlice erased κ R).own_val (at R x l') (slice_val (b R x, o R x) c ∷ []))) (e' ∙ e) refl $ move t (1 ∷ 0 ∷ []) $ k)

module _ {M : Type 1} {𝓤 : Ura M} (𝓛 : Logic 𝓤) (D : Data 𝓛) where
  open 𝓛 use {H}

  -- how an element lies in memory
  abbrev Lies : Ty → Type 1
  Lies τ = (q : Share) (b o : ℕ) (v : Val) → cell_at q D.row.mir (v ∷ []) b o ≡ fat q (raw_ty τ) b o v

  abbrev elem : {τ : Ty} → Lies τ → Elem D.row τ
  elem cell = record { val = D.val; tells = D.tells; cell = cell }

  -- entry n is local j, which points to element i of the slice that begins at p
  abbrev Points : List (Item 𝓤) → Env 𝓤 H → ℕ × ℕ → ℕ → ℕ → ℕ → Type 2
  Points Γ E p i j n = nth 𝓛 n Γ ≡ ‵ (fat full_share (spot_of 𝓤 H E j).0 (spot_of 𝓤 H E j).1 (spot_of 𝓤 H E j).2 (vptr p.0 (i * (mem D.row).size + p.1)))

  abbrev Typed : Ty → D.row.Denot → Type 0
  Typed τ y = True (has_ty τ (D.val y)) × WT (D.val y)

module _ {M : Type 1} {𝓤 : Ura M} {𝓛 : Logic 𝓤} {K : Type 0} {Γ : List (Item 𝓤)} {E : Env 𝓤 𝓛.H} {C : Calls 𝓤 𝓛.H} {Λ : Loops 𝓤 𝓛.H} {q : Post 𝓤 𝓛.H} {rest : Body} {κ : Lft} {s : Share} where
  open 𝓛 use {H}

  pub reads-lent : K → (D : Data 𝓛) (x : MutBor (List D.row.Denot)) (l : List D.row.Denot) (i : ℕ) (d : D.row.Denot) {τ : Ty} {j k : ℕ} → Lies 𝓛 D τ → Room D.row (length x.now) → length l ≡ length x.now → i < length x.now
      → (n m : ℕ) → Points 𝓛 D Γ E x.ref_ptr i j n → nth 𝓛 m Γ ≡ ‵ (froom (spot_of 𝓤 H E k).0 (spot_of 𝓤 H E k).1 (spot_of 𝓤 H E k).2) → (Is D.row (get_or l i d) (D.val (get_or l i d) ∷ []) → Typed 𝓛 D (spot_of 𝓤 H E k).0 (get_or l i d))
      → (Is D.row (get_or l i d) (D.val (get_or l i d) ∷ [])
      → Seq K 𝓛 (‵ (flft κ s) ∷ ‵ (Own D.row x.ref_ptr.0 x.ref_ptr.1 (length x.now) erased κ x.ghost_name l) ∷ put 𝓛 m (‵ (fat full_share (spot_of 𝓤 H E k).0 (spot_of 𝓤 H E k).1 (spot_of 𝓤 H E k).2 (D.val (get_or l i d)))) Γ) (runs C Λ E rest q))
      → Seq K 𝓛 (‵ (flft κ s) ∷ ‵ (Own D.row x.ref_ptr.0 x.ref_ptr.1 (length x.now) erased κ x.ghost_name l) ∷ Γ) (runs C Λ E (seq (assign (place k []) (rv_opd (copy (place j (deref τ ∷ []))))) rest) q)
  reads-lent t D x l i d {τ} cell room long below n m at-ptr to typed k' =
      let in-l : i < length l = subst (λ (c : ℕ). i < c) (sym long) below in
      opens D.row x l t tt long $ knows {τ = τ} t (elem 𝓛 D cell) 0 full_share l i d x.ref_ptr.0 x.ref_ptr.1 in-l refl (λ is.
      assigns t (of_opd t (load t (from t (hop t (look t (suc (suc (suc (suc n)))) at-ptr) (stop t))) (look-elem t (elem 𝓛 D cell) 0 full_share l i d x.ref_ptr.0 x.ref_ptr.1 in-l refl))) (from t (stop t)) (init t (suc (suc (suc (suc m)))) to (typed is)) $
      closes D.row x l t tt l refl long room $ k' is)

  pub reads-shared : K → (D : Data 𝓛) → Copied 𝓛 D.row → (x : Bor (List D.row.Denot)) (i : ℕ) (d : D.row.Denot) {τ : Ty} {j k : ℕ} → Lies 𝓛 D τ → i < length x.now
      → (n m : ℕ) → Points 𝓛 D Γ E x.ref_ptr i j n → nth 𝓛 m Γ ≡ ‵ (froom (spot_of 𝓤 H E k).0 (spot_of 𝓤 H E k).1 (spot_of 𝓤 H E k).2) → (Is D.row (get_or x.now i d) (D.val (get_or x.now i d) ∷ []) → Typed 𝓛 D (spot_of 𝓤 H E k).0 (get_or x.now i d))
      → (Is D.row (get_or x.now i d) (D.val (get_or x.now i d) ∷ [])
      → Seq K 𝓛 (‵ (flft κ s) ∷ ‵ ((ShrSlice erased κ D.row).own_val x (shr_slice_vals x)) ∷ put 𝓛 m (‵ (fat full_share (spot_of 𝓤 H E k).0 (spot_of 𝓤 H E k).1 (spot_of 𝓤 H E k).2 (D.val (get_or x.now i d)))) Γ) (runs C Λ E rest q))
      → Seq K 𝓛 (‵ (flft κ s) ∷ ‵ ((ShrSlice erased κ D.row).own_val x (shr_slice_vals x)) ∷ Γ) (runs C Λ E (seq (assign (place k []) (rv_opd (copy (place j (deref τ ∷ []))))) rest) q)
  reads-shared t D cp x i d {τ} cell below n m at-ptr to typed k' =
      move t (1 ∷ []) $ fsplit t $ pure_l t (shr_slice_at D.row x (shr_slice_vals x)) (λ p.
      looks_slice t tt D.row cp x.now x.ref_ptr.0 x.ref_ptr.1 (λ s'.
      -- [the row; the way back; what a `&` to each element holds; ..]
      knows {τ = τ} t (elem 𝓛 D cell) 0 s' x.now i d x.ref_ptr.0 x.ref_ptr.1 below refl (λ is.
      assigns t (of_opd t (load t (from t (hop t (look t (suc (suc (suc n))) at-ptr) (stop t))) (look-elem t (elem 𝓛 D cell) 0 s' x.now i d x.ref_ptr.0 x.ref_ptr.1 below refl))) (from t (stop t)) (init t (suc (suc (suc m))) to (typed is)) $
      shuts_slice t tt D.row s' x.now x.ref_ptr.0 x.ref_ptr.1 $ move t (1 ∷ []) $ pure_i t (shr_slice_at D.row x (shr_slice_vals x)) (tt, (tt, tt)) p $ fjoin t $ move t (1 ∷ 0 ∷ []) $ k' is)))

  pub writes-lent : K → (D : Data 𝓛) (x : MutBor (List D.row.Denot)) (l : List D.row.Denot) (i : ℕ) (y : D.row.Denot) {τ : Ty} {j : ℕ} {u : Operand} → Lies 𝓛 D τ → Room D.row (length x.now) → length l ≡ length x.now → i < length x.now
      → (n : ℕ) → Points 𝓛 D Γ E x.ref_ptr i j n → Is D.row y (D.val y ∷ []) → Typed 𝓛 D τ y
      → Opd K 𝓛 (‵ (row D.row full_share l x.ref_ptr.0 x.ref_ptr.1) ∷ ‵ (fobor κ s (Held D.row (length l) x.ref_ptr.0 x.ref_ptr.1 x.ghost_name)) ∷ ‵ (fobs x.ghost_name ((coded_holeys D.row).code (heres D.row l))) ∷ ‵ (fauth x.ghost_name ((coded_holeys D.row).code (heres D.row l))) ∷ Γ) E u (D.val y)
      → Step K 𝓛 (‵ (flft κ s) ∷ ‵ (Own D.row x.ref_ptr.0 x.ref_ptr.1 (length x.now) erased κ x.ghost_name (set l i y)) ∷ Γ) (runs C Λ E rest q)
      (‵ (flft κ s) ∷ ‵ (Own D.row x.ref_ptr.0 x.ref_ptr.1 (length x.now) erased κ x.ghost_name l) ∷ Γ) (runs C Λ E (seq (assign (place j (deref τ ∷ [])) (rv_opd u)) rest) q)
  writes-lent t D x l i y cell room long below n at-ptr is typed u = step (λ k.
      opens D.row x l t tt long $
      assigns t (of_opd t u) (from t (hop t (look t (suc (suc (suc (suc n)))) at-ptr) (stop t))) (store-elem t (elem 𝓛 D cell) D.makes 0 l i y x.ref_ptr.0 x.ref_ptr.1 (rw long below) typed is refl) $
      closes D.row x l t tt (set l i y) (length-set l i y) long room $ k)
