-- A struct that holds a slice in field k, beside plain data, in a walk.
--     Holder, holder   its row, its machine value, and what is known of it
--     in_struct        what the struct owns, of what its slice owns.       of_struct       what its slice owns, of what the struct owns
--     same_view        what a lent slice owns, where it is named otherwise
-- Assumes `Logic`.
use base.Logic.{SProp, ent, id⊢}
use denote.Laws.{Is, Tells, Lawful}
use denote.RattleType.{RattleType}
use denote.Ref.{Bor}
use denote.Shadow.{Pure, shadow, makes_shadow}
use denote.Slice.{ShrSlice, shr_slice_vals}
use denote.Struct.At.{FieldAt, get_at, put_at, spelled}
use denote.Struct.Declared.{Declared, shape, row}
use denote.Struct.Laws.{Laws}
use denote.Struct.Rest.{all_own, field_own, rest, own_in, own_out, own_open, own_shut}
use denote.Struct.Struct.{Struct}
use denote.Struct.Values.{Values, intos}
use types.Logic.{Logic, sem}
use seplogic.Ra.Ura.{Ura}
use mir.Syntax.{erased}
use mir.Val.{Val, vstruct}
use types.Kit.{‵, raw, given, mean, ◌⊛◌, ◌$◌, ◌∵◌, !, qed, move, keep, use0, use1, use2, split, learn, done}
use Rattle.meaning_numbers.proofs.Prelude.{ℕ, List, [], ◌∷◌, ◌≡◌, sym, subst}
use Rattle.walk_kit.proofs.Passing.{Lent, viewed}
use denote.Struct.Laws as LL

pub record Holder {M : Type 1} {𝓤 : Ura M} (𝓛 : Logic 𝓤) : Type 2 where
  pub row : RattleType
  pub val : row.Denot → Val
  pub tells : Tells row (Is row) (λ x. val x ∷ [])
  pub lawful : Lawful 𝓛 row

module _ {M : Type 1} {𝓤 : Ura M} (𝓛 : Logic 𝓤) where
  abbrev pub holder : (N : Declared) → Laws N → Holder 𝓛
  holder N L = record { row = row N; val = LL.val N L; tells = LL.tells N L; lawful = LL.lawful N L 𝓛 }

  pub same_view : (p : Lent) {x : Bor (List p.row.Denot)} → x ≡ p.ref → ent 𝓤 (mean 𝓛 (viewed 𝓛 p)) (sem 𝓛 ((ShrSlice erased p.lft p.row).own_val x (shr_slice_vals x)))
  same_view p e = subst (λ (x : Bor (List p.row.Denot)). ent 𝓤 (mean 𝓛 (viewed 𝓛 p)) (sem 𝓛 ((ShrSlice erased p.lft p.row).own_val x (shr_slice_vals x)))) (sym e) (id⊢ 𝓤 _)

  module _ (N : Declared) (L : Laws N) (k : ℕ) (v : Values N.parts) where
    pub in_struct : {P : SProp 𝓤} (x : (FieldAt N.parts k).Value) → Pure (rest N.parts L k v) → shadow (rest N.parts L k v) → ent 𝓤 P (sem 𝓛 (field_own N.parts L k x))
        → ent 𝓤 P (sem 𝓛 ((Struct (shape N)).own_val (intos N.parts (put_at N.parts k x v)) (vstruct (spelled N.parts L (put_at N.parts k x v)) ∷ [])))
    in_struct {P} x pure known slice =
        qed 𝓛 (raw P ∷ []) ∵ use1 𝓛 (‵ (field_own N.parts L k x)) slice $ use0 𝓛 (‵ (rest N.parts L k v)) (makes_shadow 𝓛 (rest N.parts L k v) pure known) $ move ! (1 ∷ 0 ∷ []) $
        use2 𝓛 (‵ (all_own N.parts L (put_at N.parts k x v))) (own_in 𝓛 N.parts L k x v) $
        use1 𝓛 (‵ ((Struct (shape N)).own_val _ _)) (own_shut 𝓛 N L (put_at N.parts k x v)) $ done !

    pub of_struct : (w : Val) → ent 𝓤 (sem 𝓛 ((Struct (shape N)).own_val (intos N.parts v) (w ∷ []))) (sem 𝓛 (field_own N.parts L k (get_at N.parts k v)))
    of_struct w =
        qed 𝓛 (‵ ((Struct (shape N)).own_val _ (w ∷ [])) ∷ []) ∵ use1 𝓛 (given _ (‵ (all_own N.parts L v))) (own_open 𝓛 N L v w) $ learn ! (λ _.
        use1 𝓛 (‵ (field_own N.parts L k _) ⊛ ‵ (rest N.parts L k v)) (own_out 𝓛 N.parts L k v) $ split ! $ keep ! (0 ∷ []) $ done !)
