-- An element of an open slice, read and written in place: entry n of the context is the row of the slice's elements, and stays where it is.
--     Elem R τ     what is asked of the elements' type R, whose MIR type is τ: its machine value, and that the type's relation tells it
--     knows        entry n is a share of the row ys: element i's relation is learned, and nothing changes
--     look-elem    `Types/Run.antt`'s `look` for element i: `load ! (from ! (hop ! (look ! p refl) (stop !))) (look-elem ! E n q ys i d b o within refl)`, where local p is the pointer that `offset` made
--     store-elem   `Types/Run.antt`'s `store` for element i: entry n becomes the row with y at i.        R is plain (`Makes`)
-- The row of a `&mut [T]` whose borrow is opened (`opens_slice`), and that of a `&[T]` that is looked into (`looks_slice`), is such an entry.
-- The place is i * size + o, which is what MIR's `mul` and `offset` make: no pointer has to be rewritten.
-- Assumes `Logic`.
use base.Fml.{Share, Fml, fat, froom}
use base.Logic.{SProp, ent, sep, wand, ex, via, fst∗}
use contract.Monad.{fact, fact_i, fact_use}
use denote.Index.{row, place, place_is, elem_out, elem_back, elem_put}
use denote.Laws.{Is, Tells, Makes, shows}
use denote.Memory.{cell_at, mem}
use denote.RattleType.{RattleType}
use denote.Steps.{owned}
use types.Logic.{Logic, sem}
use base.Fraction.{full_share}
use seplogic.Ra.Ura.{Ura}
use mir.Raw.{raw as raw_ty}
use mir.Syntax.{Ty}
use mir.Val.{Val, has_ty, WT}
use prog.Wp.{read, write}
use types.Kit.{Goal, Item, ‵, raw, mean, ⋆, nth, del, put, pull, unpull, fill, Seq, ◌$◌, ◌∵◌, !, qed, by, move, drop, use1, rewrite, show, frame, assume, check}
use types.Run.{Reads, Writes}
use Rattle.meaning_numbers.proofs.Prelude.{ℕ, ◌<◌, ◌+◌, ◌*◌, T, length, set, get_or, [], ◌∷◌, List, ◌≡◌, refl, sym, subst}

pub record Elem (R : RattleType) (τ : Ty) : Type 1 where
  pub val : R.Denot → Val
  pub tells : Tells R (Is R) (λ y. val y ∷ [])
  pub cell : (q : Share) (b o : ℕ) (v : Val) → cell_at q R.mir (v ∷ []) b o ≡ fat q (raw_ty τ) b o v

module _ {M : Type 1} {𝓤 : Ura M} {𝓛 : Logic 𝓤} {K : Type 0} {Γ : List (Item 𝓤)} {R : RattleType} {τ : Ty} where
  open 𝓛 use {H}

  pub knows : K → (E : Elem R τ) (n : ℕ) (q : Share) (ys : List R.Denot) (i : ℕ) (d : R.Denot) (b o : ℕ) {G : Goal 𝓤 H} → i < length ys → nth 𝓛 n Γ ≡ ‵ (row R q ys b o)
      → (Is R (get_or ys i d) (E.val (get_or ys i d) ∷ []) → Seq K 𝓛 Γ G) → Seq K 𝓛 Γ G
  knows t E n q ys i d b o l e k = record {
    prf = fact_use 𝓤 φ
        (via 𝓤 (sep 𝓤 (sem 𝓛 (row R q ys b o)) (⋆ 𝓛 (del 𝓛 n Γ))) (subst (λ (j : Item 𝓤). ent 𝓤 (⋆ 𝓛 Γ) (sep 𝓤 (mean 𝓛 j) (⋆ 𝓛 (del 𝓛 n Γ)))) e (pull 𝓛 n Γ))
        (via 𝓤 (sem 𝓛 (row R q ys b o)) (fst∗ 𝓤 (sem 𝓛 (row R q ys b o)) (⋆ 𝓛 (del 𝓛 n Γ))) one))
        (λ g. (k g).prf);
  }
    where
      φ : Type 0
      φ = Is R (get_or ys i d) (E.val (get_or ys i d) ∷ [])

      one : ent 𝓤 (sem 𝓛 (row R q ys b o)) (fact 𝓤 φ)
      one = qed 𝓛 (‵ (row R q ys b o) ∷ []) ∵ elem_out ! R (Is R) (shows 𝓛 R) (λ y. E.val y ∷ []) E.tells q ys i d b o l (λ g. by ! (fact_i 𝓤 φ _ g))

  pub look-elem : K → (E : Elem R τ) (n : ℕ) (q : Share) (ys : List R.Denot) (i : ℕ) (d : R.Denot) (b o : ℕ) → i < length ys → nth 𝓛 n Γ ≡ ‵ (row R q ys b o)
      → Reads K 𝓛 Γ τ b (i * (mem R).size + o) (E.val (get_or ys i d))
  look-elem t E n q ys i d b o l e = record {
    go = λ Kt h. subst (λ (p : ℕ). ent 𝓤 (⋆ 𝓛 Γ) (read 𝓤 H τ b p Kt)) (place_is (mem R).size o i)
        (via 𝓤 (sep 𝓤 (sem 𝓛 (row R q ys b o)) rest) (subst (λ (j : Item 𝓤). ent 𝓤 (⋆ 𝓛 Γ) (sep 𝓤 (mean 𝓛 j) rest)) e (pull 𝓛 n Γ))
        (qed 𝓛 (‵ (row R q ys b o) ∷ raw rest ∷ []) ∵ elem_out ! R (Is R) (shows 𝓛 R) (λ y. E.val y ∷ []) E.tells q ys i d b o l (λ g.
        rewrite ! 0 (λ (F : Fml). ‵ F) (E.cell q b at v) refl $ use1 𝓛 (‵ (fat q τ b at v)) (𝓛.laws.raw_at q τ b at v) $
        show ! (λ (s : Share). ex 𝓤 (λ (u : Val). sep 𝓤 (H.at s τ b at u) (wand 𝓤 (H.at s τ b at u) (Kt u)))) q $ show ! (λ (u : Val). sep 𝓤 (H.at q τ b at u) (wand 𝓤 (H.at q τ b at u) (Kt u))) v $ frame ! $
        assume ! (‵ (fat q τ b at v)) $ use1 𝓛 (‵ (fat q (raw_ty τ) b at v)) (𝓛.laws.at_raw q τ b at v) $ rewrite ! 0 (λ (F : Fml). ‵ F) (sym (E.cell q b at v)) refl $
        elem_back ! R q ys i d (v ∷ []) b o l $ by ! (via 𝓤 (⋆ 𝓛 Γ) (subst (λ (j : Item 𝓤). ent 𝓤 (sep 𝓤 (mean 𝓛 j) rest) (⋆ 𝓛 Γ)) e (unpull 𝓛 n Γ)) h))));
  }
    where
      rest : SProp 𝓤
      rest = ⋆ 𝓛 (del 𝓛 n Γ)

      at : ℕ
      at = place (mem R).size o i

      v : Val
      v = E.val (get_or ys i d)

  pub store-elem : K → (E : Elem R τ) → Makes 𝓛 R (Is R) → (n : ℕ) (ys : List R.Denot) (i : ℕ) (y : R.Denot) (b o : ℕ) → i < length ys → T (has_ty τ (E.val y)) × WT (E.val y) → Is R y (E.val y ∷ [])
      → nth 𝓛 n Γ ≡ ‵ (row R full_share ys b o) → Writes K 𝓛 Γ τ b (i * (mem R).size + o) (E.val y) (put 𝓛 n (‵ (row R full_share (set ys i y) b o)) Γ)
  store-elem t E mk n ys i y b o l wt is e = record {
    go = λ P h. subst (λ (p : ℕ). ent 𝓤 (⋆ 𝓛 Γ) (write 𝓤 H τ b p v P)) (place_is (mem R).size o i)
        (via 𝓤 (sep 𝓤 (sem 𝓛 (row R full_share ys b o)) rest) (subst (λ (j : Item 𝓤). ent 𝓤 (⋆ 𝓛 Γ) (sep 𝓤 (mean 𝓛 j) rest)) e (pull 𝓛 n Γ))
        (qed 𝓛 (‵ (row R full_share ys b o) ∷ raw rest ∷ []) ∵ check ! wt $ elem_out ! R (Is R) (shows 𝓛 R) (λ z. E.val z ∷ []) E.tells full_share ys i y b o l (λ g.
        rewrite ! 0 (λ (F : Fml). ‵ F) (E.cell full_share b at was) refl $ use1 𝓛 (‵ (fat full_share τ b at was)) (𝓛.laws.raw_at full_share τ b at was) $ use1 𝓛 (‵ (froom τ b at)) (𝓛.laws.at_room τ b at was) $ frame ! $
        assume ! (‵ (fat full_share τ b at v)) $ use1 𝓛 (‵ (fat full_share (raw_ty τ) b at v)) (𝓛.laws.at_raw full_share τ b at v) $ rewrite ! 0 (λ (F : Fml). ‵ F) (sym (E.cell full_share b at v)) refl $
        move ! (1 ∷ []) $ drop ! $ owned ! R (Is R) mk y (v ∷ []) is $ move ! (1 ∷ 0 ∷ []) $ elem_put ! R full_share ys i y (v ∷ []) b o l $
        by ! (via 𝓤 (⋆ 𝓛 (put 𝓛 n (‵ (row R full_share (set ys i y) b o)) Γ)) (fill 𝓛 n (‵ (row R full_share (set ys i y) b o)) Γ) h))));
  }
    where
      rest : SProp 𝓤
      rest = ⋆ 𝓛 (del 𝓛 n Γ)

      at : ℕ
      at = place (mem R).size o i

      v : Val
      v = E.val y

      was : Val
      was = E.val (get_or ys i y)
