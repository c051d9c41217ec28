-- A `&κ mut [T]` that a walk lends for a call and has back, and a `&κ [T]` that it lends and keeps, as steps.
--     Own, Shr         what a `&κ mut [T]`, and a `&κ [T]`, owns at the list l, where m is the count that its machine value has.        given_back       what a contract says of the first at its last list
--     lend, back       it is lent again as a `&mut`, for a lifetime ν that is made for the call; and comes back at the list zs' that the callee's contract says.     comes     `back`, from the entry that `Told`'s `Ends` has of it
--     share, unshare   it is lent as a `&`, likewise, where T is lent so with no other token (`Shares` at no lifetime); and comes back as it was.        SharedAgain      what the holder keeps meanwhile
--     twin             a `&κ [T]` is had twice
-- [own; [κ]_q; ..]  lend  [[ν]; what is lent; what is kept; ..]    the call    [[ν]; what is kept; the last list (`finally`); ..]  back  [own; [κ]_q; ..]
-- [own; [κ]_q; ..]  share  [[ν]; what is lent; what is kept; ..]   the call    [[ν]; what is kept; ..]  unshare  [own; [κ]_q; ..]
-- Assumes `Logic`.
use base.Fml.{Lft, GName, Share, Fml, Incl-refl, fsep, feq, flft, fbor, fobs, fauth, flent, fobor}
use contract.BorrowLft.{meet_⊑_right}
use denote.Index.{opens_slice, closes_slice}
use denote.Lend.{Held, lends_shr_slice}
use denote.Memory.{shares}
use denote.RattleType.{RattleType, RowLaws}
use denote.Shares.{Shares}
use denote.Ref.{Bor, MutBor}
use denote.Shadow.{pure_l, pure_i}
use denote.Slice.{slice_val, MutSlice, ShrSlice, heres, Room, finally, mut_slice_at, coded_holeys, shr_slice_vals, shr_slice_copy}
use types.Logic.{Logic}
use base.Fraction.{full_share}
use seplogic.Ra.Ura.{Ura}
use mir.Syntax.{Lifetime}
use types.Kit.{Goal, Soaks, Item, ‵, ◌⊛◌, later, Seq, Step, step, ◌$◌, move, use1, use2, use3, drop, split, pick, rewrite, fsplit, fjoin, feq_i, feq_l, await}
use types.Share.{arr_parts}
use types.Tokens.{lft_new, lft_end, lent_back}
use Rattle.meaning_numbers.proofs.Prelude.{ℕ, length, List, [], ◌∷◌, ◌≡◌, refl, sym, subst}
use Rattle.walk_kit.proofs.Again.{LentAgain, lends_again, comes_back}

-- what is said of a `&κ mut [T]` of m elements at its last list l: which it is, that it is as long, and the borrow, closed
abbrev pub given_back : (R : RattleType) → ℕ → ℕ → ℕ → Lft → GName → List R.Denot → Fml
given_back R b o m κ γ l = fsep (fsep (finally R γ l) (feq ℕ (length l) m)) (fbor κ (Held R m b o γ))

module _ (R : RattleType) (b o m : ℕ) where
  abbrev at : GName → List R.Denot → MutBor (List R.Denot)
  at δ l = record { ref_ptr = (b, o); ghost_name = δ; now = l }

  abbrev pub Own : Lifetime → Lft → GName → List R.Denot → Fml
  Own ℓ κ δ l = (MutSlice ℓ κ R).own_val (at δ l) (slice_val (b, o) m ∷ [])

  abbrev pub Shr : Lifetime → Lft → List R.Denot → Fml
  Shr ℓ κ l = (ShrSlice ℓ κ R).own_val (record { ref_ptr = (b, o); now = l }) (slice_val (b, o) m ∷ [])

  abbrev pub SharedAgain : Lft → Lft → Share → GName → List R.Denot → Fml
  SharedAgain κ κ' q γ ys = fsep (flent κ' ((arr_parts (shares R) (length ys)).part full_share ys b o)) (fsep (fobor κ q (Held R (length ys) b o γ)) (fsep (fobs γ ((coded_holeys R).code (heres R ys))) (fauth γ ((coded_holeys R).code (heres R ys)))))

  module _ {M : Type 1} {𝓤 : Ura M} {𝓛 : Logic 𝓤} {K : Type 0} {Γ : List (Item 𝓤)} {G : Goal 𝓤 𝓛.H} (ℓ ℓ' : Lifetime) (κ : Lft) (q : Share) (γ : GName) (ys : List R.Denot) (e : length ys ≡ m) where
    pub lend : K → Soaks G → ((ν : ℕ) (δ : GName) → Seq K 𝓛 (‵ (flft (ν ∷ []) full_share) ∷ ‵ (Own ℓ' (ν ∷ []) δ ys) ∷ ‵ (LentAgain R κ (ν ∷ []) q γ b o δ ys) ∷ Γ) G) → Seq K 𝓛 (‵ (Own ℓ κ γ ys) ∷ ‵ (flft κ q) ∷ Γ) G
    lend t z k =
        lft_new t z (λ ν. rewrite t 1 (λ (c : ℕ). ‵ ((MutSlice ℓ κ R).own_val (at γ ys) (slice_val (b, o) c ∷ []))) (sym e) refl $ move t (1 ∷ 2 ∷ []) $
        use2 𝓛 _ (lends_again R κ (ν ∷ []) q γ b o 𝓛 ℓ ℓ' ys) $
        await t z $ pick t (λ δ. split t $ rewrite t 0 (λ (c : ℕ). ‵ ((MutSlice ℓ' (ν ∷ []) R).own_val (at δ ys) (slice_val (b, o) c ∷ []))) e refl $ move t (2 ∷ 0 ∷ []) $ k ν δ))

    pub back : K → Soaks G → (ν : ℕ) (δ : GName) (zs : List R.Denot) → Room R m → length zs ≡ length ys
        → Step K 𝓛 (‵ (Own ℓ κ γ zs) ∷ ‵ (flft κ q) ∷ Γ) G (‵ (flft (ν ∷ []) full_share) ∷ ‵ (LentAgain R κ (ν ∷ []) q γ b o δ ys) ∷ ‵ (finally R δ zs) ∷ Γ) G
    back t z ν δ zs room l = step (λ k. lft_end t z $
        use3 𝓛 _ (comes_back R κ (ν ∷ []) q γ b o 𝓛 ℓ ℓ' ys δ zs (subst (Room R) (sym e) room) l) $ await t z $ split t $
        rewrite t 0 (λ (c : ℕ). ‵ ((MutSlice ℓ κ R).own_val (at γ zs) (slice_val (b, o) c ∷ []))) e refl $ k)

    pub comes : K → Soaks G → (ν : ℕ) (δ : GName) (zs : List R.Denot) → Room R m → (length zs ≡ length ys → Seq K 𝓛 (‵ (Own ℓ κ γ zs) ∷ ‵ (flft κ q) ∷ Γ) G)
        → Seq K 𝓛 (‵ (flft (ν ∷ []) full_share) ∷ ‵ (LentAgain R κ (ν ∷ []) q γ b o δ ys) ∷ ‵ (given_back R b o (length ys) (ν ∷ []) δ zs) ∷ Γ) G
    comes t z ν δ zs room k = move t (2 ∷ []) $ fsplit t $ move t (1 ∷ []) $ drop t $ fsplit t $ move t (1 ∷ []) $ feq_l t (λ l. move t (1 ∷ 2 ∷ 0 ∷ []) $ back t z ν δ zs room l $ k l)

    pub share : K → Soaks G → Shares 𝓛 R [] → ((ν : ℕ) → Seq K 𝓛 (‵ (flft (ν ∷ []) full_share) ∷ ‵ (Shr ℓ' (ν ∷ []) ys) ∷ ‵ (SharedAgain κ (ν ∷ []) q γ ys) ∷ Γ) G) → Seq K 𝓛 (‵ (Own ℓ κ γ ys) ∷ ‵ (flft κ q) ∷ Γ) G
    share t z sh k =
        lft_new t z (λ ν. rewrite t 1 (λ (c : ℕ). ‵ ((MutSlice ℓ κ R).own_val (at γ ys) (slice_val (b, o) c ∷ []))) (sym e) refl $ move t (1 ∷ []) $ fsplit t $ pure_l t (mut_slice_at R (at γ ys) _) (λ p. fsplit t $
        move t (0 ∷ 1 ∷ 3 ∷ []) $ opens_slice t z R ys b o $ feq_i t ℕ (length ys) (length ys) refl $ fjoin t $
        -- [the row; the open borrow; obs; auth; [ν]]
        move t (0 ∷ 4 ∷ []) $
        use2 𝓛 (later ((‵ ((ShrSlice ℓ' (ν ∷ []) R).own_val (record { ref_ptr = (b, o); now = ys }) (slice_val (b, o) (length ys) ∷ [])) ⊛ ‵ (flent (ν ∷ []) ((arr_parts (shares R) (length ys)).part full_share ys b o))) ⊛ ‵ (flft (ν ∷ []) full_share)))
        (lends_shr_slice 𝓛 R ℓ' (ν ∷ []) full_share ys b o p.1 [] sh ((ν ∷ [], full_share) ∷ []) (meet_⊑_right (ν ∷ []) []) (Incl-refl (ν ∷ []))) $
        await t z $ split t $ split t $ rewrite t 0 (λ (c : ℕ). ‵ ((ShrSlice ℓ' (ν ∷ []) R).own_val (record { ref_ptr = (b, o); now = ys }) (slice_val (b, o) c ∷ []))) e refl $
        -- [what is lent; the lender's part; [ν]; the open borrow; obs; auth]
        move t (4 ∷ 5 ∷ []) $ fjoin t $ move t (4 ∷ 0 ∷ []) $ fjoin t $ move t (2 ∷ 0 ∷ []) $ fjoin t $ move t (2 ∷ 1 ∷ 0 ∷ []) $ k ν))

    pub unshare : K → Soaks G → (ν : ℕ) → Room R m → Step K 𝓛 (‵ (Own ℓ κ γ ys) ∷ ‵ (flft κ q) ∷ Γ) G (‵ (flft (ν ∷ []) full_share) ∷ ‵ (SharedAgain κ (ν ∷ []) q γ ys) ∷ Γ) G
    unshare t z ν room = step (λ k. lft_end t z $ move t (1 ∷ []) $ fsplit t $ move t (2 ∷ 0 ∷ []) $ lent_back t z $ fsplit t $ drop t $ move t (1 ∷ []) $ fsplit t $ move t (1 ∷ []) $ fsplit t $
        -- [obs; auth; the open borrow; the row]
        move t (3 ∷ 2 ∷ 0 ∷ 1 ∷ []) $ closes_slice t z R ys ys refl b o $ fjoin t $ pure_i t (mut_slice_at R (at γ ys) (slice_val (b, o) (length ys) ∷ [])) (tt, (tt, tt)) (refl, subst (Room R) (sym e) room) $ fjoin t $
        rewrite t 0 (λ (c : ℕ). ‵ ((MutSlice ℓ κ R).own_val (at γ ys) (slice_val (b, o) c ∷ []))) e refl $ k)

module _ {M : Type 1} {𝓤 : Ura M} {𝓛 : Logic 𝓤} {K : Type 0} {Γ : List (Item 𝓤)} {G : Goal 𝓤 𝓛.H} where
  pub twin : K → (R : RattleType) → RowLaws R → (ℓ : Lifetime) (κ : Lft) (v : Bor (List R.Denot))
      → Step K 𝓛 (‵ ((ShrSlice ℓ κ R).own_val v (shr_slice_vals v)) ∷ ‵ ((ShrSlice ℓ κ R).own_val v (shr_slice_vals v)) ∷ Γ) G (‵ ((ShrSlice ℓ κ R).own_val v (shr_slice_vals v)) ∷ Γ) G
  twin t R L ℓ κ v = step (λ k. use1 𝓛 _ ((shr_slice_copy 𝓛 ℓ κ R L).twice v (shr_slice_vals v)) $ split t $ k)
