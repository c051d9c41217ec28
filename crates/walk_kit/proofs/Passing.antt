-- Arguments and parameters passed on in a walk.
--     Data             a type of plain data in a walk: its row, a value's machine value, and that what it owns is had for nothing.        uint, sint, boolean, nothing, struct, enum     the types
--     Lent             a slice that the function was lent, `&κ [T]` or `&κ mut [T]`: its row, the reference, the ghost name of a `&mut` (nothing reads that of a `&`), the lifetime with a share of its token, and that its elements have room.        token, viewed, lent_at       that share; what a `&κ [T]` owns; what a `&κ mut [T]` owns at a list
--     Arg              an argument of a call: a value; what is made of a copy of a `&κ [T]`, by the laws of a `&` to its elements, as that copy itself (`kept`) or a struct that holds it (`Holding`); a `&κ mut [T]` at the list that it holds, which is lent again for the call, as a `&mut`, or as a `&` where its elements' type is lent so with no other token (`Shares` at no lifetime)
--     Had, Again       what is had of the arguments before the call, and after it
--     calls-with       a call: what is had of its arguments is at the head, and after it again, at the lists that the callee leaves
--     leaves-with      the walk's end: from what is had of the parameters at their last lists.        leaves-holding      the same where the result is made of one entry more
--     meets-with       the function meets its contract, from a walk with the parameters' machine values written out
--     Cell, Cells      what a local holds, or that it is empty; the locals of a function in their order.        tidy     the context written out anew.       frees_all    the locals are freed
--     loc, part, part_of, put-at   an operand that is a local, or a field of one; an assignment to a local.       start    where a slice begins
-- Assumes `Logic`, and that the table of calls is monotone under a frame, as every `Tables` is.
use base.Fml.{fat, froom, fres, fbor, flft, Lft, GName, Share, fdies}
use base.Logic.{SProp, ent, sep, wand, wand_i, apply∗, emp, id⊢, via, mono∗, mono_r, mono_l, emp∗, comm∗}
use contract.Lifetimes.{Lfts, Shares, AllOutlive, toks}
use contract.Monad.{Fun, fact}
use denote.Enum.Declared.{Declared as EnumDeclared, row as Enum-Row, shape, variants}
use denote.Enum.Enum.{Few, Plainss}
use denote.Exit.{Exit, unchanged, leaves, Last, left}
use denote.Laws.{Is, Tells, Makes, Lawful, Are, Ises, Spells, valss, Tellss}
use denote.Plain.{UInt, Boolean, Nothing, uint_Tells, uint_Makes, uint_Lawful, bool_Tells, bool_Makes, bool_Lawful, Nothing-Tells, Nothing-Makes, Nothing-Lawful}
use denote.RattleType.{RattleType, RowLaws, Denots, Valss, owns, flat, mirs}
use denote.Lend.{Held}
use denote.Ref.{Bor}
use denote.Shares.{Shares as SharesRow}
use denote.Signature.{Signature, Slot, type_at, types_at}
use denote.Signed.{SInt, sint_Tells, sint_Makes, sint_Lawful}
use denote.Slice.{ShrSlice, Room, shr_slice_vals, shr_slice_copy, finally, res-finally, coded_holeys, heres}
use denote.Steps.{said}
use denote.Struct.Declared.{Declared, fields, row, shape as declared-shape}
use denote.Struct.Struct.{Plains, layout, to_tys}
use denote.Triple.Clauses.{Ended, Clauses, at_exit, lasts, ensured, closing, Lasts as LastsOf}
use denote.Triple.End.{Kepts, Fins, lasts_of}
use denote.Triple.Entry.{Args, Vals, Res, alive, on_entry}
use denote.Triple.Spec.{Spec, Back, Meets, triple_of}
use denote.Triple.Statement.{Triple}
use types.Logic.{Logic, sem}
use base.Fraction.{full_share}
use seplogic.Ra.Ura.{Ura}
use mathlib.Core.Option.{some as just}
use mir.Fields.{get_v, set_v}
use mir.Syntax.{Width, Ty, Callee, Place, place, field, deref, Opd as Operand, copy, Rv as RValue, addr_of, Body, assign, seq, call, erased}
use mir.Val.{Val, Vals as MirVals, vstruct, of_list, of_z, vint, vbool, vunit, vptr, has_ty, WT}
use prog.Memory.{field_of, field_at}
use prog.Wp.{Heap, Env, spot_of, Calls, Loops}
use sound.WpLaws.{FmC}
use types.Kit.{Item, nth, put, mean, ‵, raw, ◌⊛◌, some, given, later, ⋆, push, pop, ⊢++, Post, lands, runs, Seq, Step, ◌$◌, ◌∵◌, !, qed, by, cut, rewrite, use0, use1, use2, use3, split, split3, join, fsplit, fjoin, feq_i, move, keep, pick, learn, await, check, updating, now as at_once, show, frame, done, Goal, frees, step, ++⊢}
use types.Part.{Part, look_in, sub, whole}
use types.Run.{Opd, Opds, Rv, look, init, stop, hop, fld, from, load, addr, assigns, forget, free1, free0}
use Rattle.meaning_numbers.proofs.Prelude.{ℕ, zero, suc, ◌+◌, T as True, length, List, [], ◌∷◌, ◌++◌, ◌≡◌, refl, sym, ◌∙◌, subst}
use Rattle.walk_kit.proofs.{Again.LentAgain, Lends.Own, Lends.Shr, Lends.SharedAgain, Lends.given_back, Lends.lend, Lends.comes, Lends.share, Lends.unshare, Told.Tokens, Told.End, Told.Ends, Told.calls-ended, Walk.Owned, Walk.AtEntry, Walk.at_entry}
use denote.Struct.Laws as LL
use denote.Enum.Laws as EL

-- plain data
pub record Data {M : Type 1} {𝓤 : Ura M} (𝓛 : Logic 𝓤) : Type 2 where
  pub row : RattleType
  pub val : row.Denot → Val
  pub tells : Tells row (Is row) (λ x. val x ∷ [])
  pub makes : Makes 𝓛 row (Is row)
  pub lawful : Lawful 𝓛 row

module _ {M : Type 1} {𝓤 : Ura M} (𝓛 : Logic 𝓤) where
  abbrev pub uint : Width → Data 𝓛
  uint w = record { row = UInt w; val = vint w; tells = uint_Tells w; makes = uint_Makes 𝓛 w; lawful = uint_Lawful 𝓛 w }

  abbrev pub sint : Width → Data 𝓛
  sint w = record { row = SInt w; val = λ z. vint w (of_z w z); tells = sint_Tells w; makes = sint_Makes 𝓛 w; lawful = sint_Lawful 𝓛 w }

  abbrev pub boolean : Data 𝓛
  boolean = record { row = Boolean; val = vbool; tells = bool_Tells; makes = bool_Makes 𝓛; lawful = bool_Lawful 𝓛 }

  abbrev pub nothing : Data 𝓛
  nothing = record { row = Nothing; val = λ _. vunit; tells = Nothing-Tells; makes = Nothing-Makes 𝓛; lawful = Nothing-Lawful 𝓛 }

  abbrev pub struct : (T : Declared) → LL.Laws T → Plains (fields T) → Data 𝓛
  struct T L pl = record { row = row T; val = LL.val T L; tells = LL.tells T L; makes = LL.makes T pl 𝓛; lawful = LL.lawful T L 𝓛 }

  abbrev pub enum : (T : EnumDeclared) → EL.Laws T → Few (shape T) → Plainss (variants T) → Data 𝓛
  enum T L few pl = record { row = Enum-Row T; val = EL.val T L; tells = EL.tells T L; makes = EL.makes T pl 𝓛; lawful = EL.lawful T L 𝓛 few }

pub record Lent : Type 2 where
  pub row : RattleType
  pub ref : Bor (List row.Denot)
  pub name : GName
  pub lft : Lft
  pub share : Share
  pub has_room : Room row (length ref.now)

module _ {M : Type 1} {𝓤 : Ura M} (𝓛 : Logic 𝓤) where
  abbrev pub token : Lent → Item 𝓤
  token p = ‵ (flft p.lft p.share)

  abbrev pub viewed : Lent → Item 𝓤
  viewed p = ‵ ((ShrSlice erased p.lft p.row).own_val p.ref (shr_slice_vals p.ref))

  abbrev pub lent_at : (p : Lent) → List p.row.Denot → Item 𝓤
  lent_at p l = ‵ (Own p.row p.ref.ref_ptr.0 p.ref.ref_ptr.1 (length p.ref.now) erased p.lft p.name l)

  pub data Arg : Type 2 where
    value : (D : Data 𝓛) (x : D.row.Denot) → Is D.row x (D.val x ∷ []) → Arg
    views : (p : Lent) → RowLaws p.row → (T : RattleType) (x : T.Denot) (vs : List Val) → ent 𝓤 (mean 𝓛 (viewed p)) (sem 𝓛 (T.own_val x vs)) → Arg
    lends : (p : Lent) (l : List p.row.Denot) → length l ≡ length p.ref.now → Arg
    shares : (p : Lent) (l : List p.row.Denot) → length l ≡ length p.ref.now → SharesRow 𝓛 p.row [] → Arg

  -- a lifetime for each `&mut` that is lent again, and a name where it is lent as a `&mut`
  abbrev pub Fresh : List Arg → Type 0
  Fresh [] = Unit {0}
  Fresh (value D x is ∷ xs) = Fresh xs
  Fresh (views p L T x vs v ∷ xs) = Fresh xs
  Fresh (lends p l e ∷ xs) = (ℕ × GName) × Fresh xs
  Fresh (shares p l e sh ∷ xs) = ℕ × Fresh xs

  -- what is had before the call
  abbrev pub Had : List Arg → List (Item 𝓤)
  Had [] = []
  Had (value D x is ∷ xs) = Had xs
  Had (views p L T x vs v ∷ xs) = token p ∷ viewed p ∷ Had xs
  Had (lends p l e ∷ xs) = token p ∷ lent_at p l ∷ Had xs
  Had (shares p l e sh ∷ xs) = token p ∷ lent_at p l ∷ Had xs

  -- what the callee is handed: tokens, and what its parameters own
  abbrev pub Toks : (xs : List Arg) → Fresh xs → List (Item 𝓤)
  Toks [] fs = []
  Toks (value D x is ∷ xs) fs = Toks xs fs
  Toks (views p L T x vs v ∷ xs) fs = token p ∷ Toks xs fs
  Toks (lends p l e ∷ xs) fs = ‵ (flft (fs.0.0 ∷ []) full_share) ∷ Toks xs fs.1
  Toks (shares p l e sh ∷ xs) fs = ‵ (flft (fs.0 ∷ []) full_share) ∷ Toks xs fs.1

  abbrev pub Owns : (xs : List Arg) → Fresh xs → List (Item 𝓤)
  Owns [] fs = []
  Owns (value D x is ∷ xs) fs = ‵ (D.row.own_val x (D.val x ∷ [])) ∷ Owns xs fs
  Owns (views p L T x vs v ∷ xs) fs = ‵ (T.own_val x vs) ∷ Owns xs fs
  Owns (lends p l e ∷ xs) fs = ‵ (Own p.row p.ref.ref_ptr.0 p.ref.ref_ptr.1 (length p.ref.now) erased (fs.0.0 ∷ []) fs.0.1 l) ∷ Owns xs fs.1
  Owns (shares p l e sh ∷ xs) fs = ‵ (Shr p.row p.ref.ref_ptr.0 p.ref.ref_ptr.1 (length p.ref.now) erased (fs.0 ∷ []) l) ∷ Owns xs fs.1

  -- what the caller keeps meanwhile
  abbrev pub Keeps : (xs : List Arg) → Fresh xs → List (Item 𝓤)
  Keeps [] fs = []
  Keeps (value D x is ∷ xs) fs = Keeps xs fs
  Keeps (views p L T x vs v ∷ xs) fs = viewed p ∷ Keeps xs fs
  Keeps (lends p l e ∷ xs) fs = ‵ (LentAgain p.row p.lft (fs.0.0 ∷ []) p.share p.name p.ref.ref_ptr.0 p.ref.ref_ptr.1 fs.0.1 l) ∷ Keeps xs fs.1
  Keeps (shares p l e sh ∷ xs) fs = ‵ (SharedAgain p.row p.ref.ref_ptr.0 p.ref.ref_ptr.1 (length p.ref.now) p.lft (fs.0 ∷ []) p.share p.name l) ∷ Keeps xs fs.1

  -- the lists that the callee leaves, what it says of them, that they are as long as they were, and what is had then
  abbrev pub Lasts : List Arg → Type 0
  Lasts [] = Unit {0}
  Lasts (value D x is ∷ xs) = Unit {0} × Lasts xs
  Lasts (views p L T x vs v ∷ xs) = Unit {0} × Lasts xs
  Lasts (lends p l e ∷ xs) = List p.row.Denot × Lasts xs
  Lasts (shares p l e sh ∷ xs) = Unit {0} × Lasts xs

  abbrev pub Says : (xs : List Arg) → Fresh xs → Lasts xs → List (Item 𝓤)
  Says [] fs ws = []
  Says (value D x is ∷ xs) fs ws = Says xs fs ws.1
  Says (views p L T x vs v ∷ xs) fs ws = Says xs fs ws.1
  Says (lends p l e ∷ xs) fs ws = ‵ (given_back p.row p.ref.ref_ptr.0 p.ref.ref_ptr.1 (length l) (fs.0.0 ∷ []) fs.0.1 ws.0) ∷ Says xs fs.1 ws.1
  Says (shares p l e sh ∷ xs) fs ws = Says xs fs.1 ws.1

  abbrev pub Fits : (xs : List Arg) → Lasts xs → Type 0
  Fits [] ws = Unit {0}
  Fits (value D x is ∷ xs) ws = Unit {0} × Fits xs ws.1
  Fits (views p L T x vs v ∷ xs) ws = Unit {0} × Fits xs ws.1
  Fits (lends p l e ∷ xs) ws = (length ws.0 ≡ length p.ref.now) × Fits xs ws.1
  Fits (shares p l e sh ∷ xs) ws = Unit {0} × Fits xs ws.1

  abbrev pub Again : (xs : List Arg) → Lasts xs → List (Item 𝓤)
  Again [] ws = []
  Again (value D x is ∷ xs) ws = Again xs ws.1
  Again (views p L T x vs v ∷ xs) ws = token p ∷ viewed p ∷ Again xs ws.1
  Again (lends p l e ∷ xs) ws = token p ∷ lent_at p ws.0 ∷ Again xs ws.1
  Again (shares p l e sh ∷ xs) ws = token p ∷ lent_at p l ∷ Again xs ws.1

  -- what the contract says of the parameters at their last lists
  abbrev pub Tokens' : List Arg → List (Item 𝓤)
  Tokens' [] = []
  Tokens' (value D x is ∷ xs) = Tokens' xs
  Tokens' (views p L T x vs v ∷ xs) = token p ∷ Tokens' xs
  Tokens' (lends p l e ∷ xs) = token p ∷ Tokens' xs
  Tokens' (shares p l e sh ∷ xs) = token p ∷ Tokens' xs

  abbrev pub Left : List Arg → List (Item 𝓤)
  Left [] = []
  Left (value D x is ∷ xs) = Left xs
  Left (views p L T x vs v ∷ xs) = Left xs
  Left (lends p l e ∷ xs) = ‵ (given_back p.row p.ref.ref_ptr.0 p.ref.ref_ptr.1 (length p.ref.now) p.lft p.name l) ∷ Left xs
  Left (shares p l e sh ∷ xs) = ‵ (given_back p.row p.ref.ref_ptr.0 p.ref.ref_ptr.1 (length p.ref.now) p.lft p.name l) ∷ Left xs

  module _ where
    two : (i j : Item 𝓤) (Γ : List (Item 𝓤)) → ent 𝓤 (⋆ 𝓛 (i ∷ j ∷ Γ)) (⋆ 𝓛 (i ∷ j ∷ raw (⋆ 𝓛 Γ) ∷ []))
    two i j Γ = mono_r 𝓤 (mean 𝓛 i) (pop 𝓛 j Γ)

    -- what the callee is handed, and what the caller keeps
    abbrev Opened : (xs : List Arg) → Item 𝓤
    Opened xs = later (some (λ (fs : Fresh xs). raw (⋆ 𝓛 (Toks xs fs)) ⊛ raw (⋆ 𝓛 (Owns xs fs)) ⊛ raw (⋆ 𝓛 (Keeps xs fs))))

    opened : (xs : List Arg) → ent 𝓤 (⋆ 𝓛 (Had xs)) (mean 𝓛 (Opened xs))
    opened [] = qed 𝓛 [] ∵ updating ! $ at_once ! $ show ! (λ _. mean 𝓛 (raw (emp 𝓤) ⊛ raw (emp 𝓤) ⊛ raw (emp 𝓤))) tt $ use0 𝓛 (raw (emp 𝓤)) _ $ frame ! $ use0 𝓛 (raw (emp 𝓤)) _ $ frame ! $ done !
    opened (value D x is ∷ xs) =
        qed 𝓛 (raw (⋆ 𝓛 (Had xs)) ∷ []) ∵ updating ! $ use1 𝓛 (Opened xs) (opened xs) $ await ! tt $ pick ! (λ fs. split3 ! $ move ! (1 ∷ []) $
        use0 𝓛 (‵ (D.row.own_val x (D.val x ∷ []))) (D.makes x (D.val x ∷ []) is) $ use2 𝓛 (raw (⋆ 𝓛 (‵ (D.row.own_val x (D.val x ∷ [])) ∷ Owns xs fs))) (push 𝓛 (‵ (D.row.own_val x (D.val x ∷ []))) (Owns xs fs)) $ move ! (1 ∷ 0 ∷ 2 ∷ []) $
        at_once ! $ show ! (λ (fs : Fresh xs). mean 𝓛 (raw (⋆ 𝓛 (Toks xs fs)) ⊛ raw (⋆ 𝓛 (‵ (D.row.own_val x (D.val x ∷ [])) ∷ Owns xs fs)) ⊛ raw (⋆ 𝓛 (Keeps xs fs)))) fs $ done !)
    opened (views p L T x vs v ∷ xs) =
        via 𝓤 (⋆ 𝓛 (token p ∷ viewed p ∷ raw (⋆ 𝓛 (Had xs)) ∷ [])) (two (token p) (viewed p) (Had xs))
        (qed 𝓛 (token p ∷ viewed p ∷ raw (⋆ 𝓛 (Had xs)) ∷ []) ∵ updating ! $ move ! (2 ∷ []) $ use1 𝓛 (Opened xs) (opened xs) $ await ! tt $ pick ! (λ fs. split3 ! $
        -- [tokens; owned; kept; the token; the slice]
        move ! (4 ∷ []) $ use1 𝓛 (viewed p ⊛ viewed p) ((shr_slice_copy 𝓛 erased p.lft p.row L).twice p.ref (shr_slice_vals p.ref)) $ split ! $
        move ! (1 ∷ 4 ∷ []) $ use2 𝓛 (raw (⋆ 𝓛 (viewed p ∷ Keeps xs fs))) (push 𝓛 (viewed p) (Keeps xs fs)) $
        move ! (1 ∷ 3 ∷ []) $ use1 𝓛 (‵ (T.own_val x vs)) v $ use2 𝓛 (raw (⋆ 𝓛 (‵ (T.own_val x vs) ∷ Owns xs fs))) (push 𝓛 (‵ (T.own_val x vs)) (Owns xs fs)) $
        move ! (3 ∷ 2 ∷ []) $ use2 𝓛 (raw (⋆ 𝓛 (token p ∷ Toks xs fs))) (push 𝓛 (token p) (Toks xs fs)) $
        at_once ! $ show ! (λ (fs : Fresh xs). mean 𝓛 (raw (⋆ 𝓛 (token p ∷ Toks xs fs)) ⊛ raw (⋆ 𝓛 (‵ (T.own_val x vs) ∷ Owns xs fs)) ⊛ raw (⋆ 𝓛 (viewed p ∷ Keeps xs fs)))) fs $ done !))
    opened (lends p l e ∷ xs) =
        let R : RattleType = p.row in let b : ℕ = p.ref.ref_ptr.0 in let o : ℕ = p.ref.ref_ptr.1 in let m : ℕ = length p.ref.now in
        via 𝓤 (⋆ 𝓛 (token p ∷ lent_at p l ∷ raw (⋆ 𝓛 (Had xs)) ∷ [])) (two (token p) (lent_at p l) (Had xs))
        (qed 𝓛 (token p ∷ lent_at p l ∷ raw (⋆ 𝓛 (Had xs)) ∷ []) ∵ updating ! $ move ! (2 ∷ []) $ use1 𝓛 (Opened xs) (opened xs) $ await ! tt $ pick ! (λ fs. split3 ! $
        -- [tokens; owned; kept; the token; the slice]
        move ! (4 ∷ 3 ∷ []) $ lend R b o m erased erased p.lft p.share p.name l e ! tt (λ ν δ.
        -- [the new token; what is lent; what is kept of it; tokens; owned; kept]
        move ! (2 ∷ 5 ∷ []) $ use2 𝓛 (raw (⋆ 𝓛 (‵ (LentAgain R p.lft (ν ∷ []) p.share p.name b o δ l) ∷ Keeps xs fs))) (push 𝓛 (‵ (LentAgain R p.lft (ν ∷ []) p.share p.name b o δ l)) (Keeps xs fs)) $
        move ! (2 ∷ 4 ∷ []) $ use2 𝓛 (raw (⋆ 𝓛 (‵ (Own R b o m erased (ν ∷ []) δ l) ∷ Owns xs fs))) (push 𝓛 (‵ (Own R b o m erased (ν ∷ []) δ l)) (Owns xs fs)) $
        move ! (2 ∷ 3 ∷ []) $ use2 𝓛 (raw (⋆ 𝓛 (‵ (flft (ν ∷ []) full_share) ∷ Toks xs fs))) (push 𝓛 (‵ (flft (ν ∷ []) full_share)) (Toks xs fs)) $
        at_once ! $ show ! (λ (gs : Fresh (lends p l e ∷ xs)). mean 𝓛 (raw (⋆ 𝓛 (Toks (lends p l e ∷ xs) gs)) ⊛ raw (⋆ 𝓛 (Owns (lends p l e ∷ xs) gs)) ⊛ raw (⋆ 𝓛 (Keeps (lends p l e ∷ xs) gs)))) ((ν, δ), fs) $ done !)))
    opened (shares p l e sh ∷ xs) =
        let R : RattleType = p.row in let b : ℕ = p.ref.ref_ptr.0 in let o : ℕ = p.ref.ref_ptr.1 in let m : ℕ = length p.ref.now in
        via 𝓤 (⋆ 𝓛 (token p ∷ lent_at p l ∷ raw (⋆ 𝓛 (Had xs)) ∷ [])) (two (token p) (lent_at p l) (Had xs))
        (qed 𝓛 (token p ∷ lent_at p l ∷ raw (⋆ 𝓛 (Had xs)) ∷ []) ∵ updating ! $ move ! (2 ∷ []) $ use1 𝓛 (Opened xs) (opened xs) $ await ! tt $ pick ! (λ fs. split3 ! $
        -- [tokens; owned; kept; the token; the slice]
        move ! (4 ∷ 3 ∷ []) $ share R b o m erased erased p.lft p.share p.name l e ! tt sh (λ ν.
        -- [the new token; what is lent; what is kept of it; tokens; owned; kept]
        move ! (2 ∷ 5 ∷ []) $ use2 𝓛 (raw (⋆ 𝓛 (‵ (SharedAgain R b o m p.lft (ν ∷ []) p.share p.name l) ∷ Keeps xs fs))) (push 𝓛 (‵ (SharedAgain R b o m p.lft (ν ∷ []) p.share p.name l)) (Keeps xs fs)) $
        move ! (2 ∷ 4 ∷ []) $ use2 𝓛 (raw (⋆ 𝓛 (‵ (Shr R b o m erased (ν ∷ []) l) ∷ Owns xs fs))) (push 𝓛 (‵ (Shr R b o m erased (ν ∷ []) l)) (Owns xs fs)) $
        move ! (2 ∷ 3 ∷ []) $ use2 𝓛 (raw (⋆ 𝓛 (‵ (flft (ν ∷ []) full_share) ∷ Toks xs fs))) (push 𝓛 (‵ (flft (ν ∷ []) full_share)) (Toks xs fs)) $
        at_once ! $ show ! (λ (gs : Fresh (shares p l e sh ∷ xs)). mean 𝓛 (raw (⋆ 𝓛 (Toks (shares p l e sh ∷ xs) gs)) ⊛ raw (⋆ 𝓛 (Owns (shares p l e sh ∷ xs) gs)) ⊛ raw (⋆ 𝓛 (Keeps (shares p l e sh ∷ xs) gs)))) (ν, fs) $ done !)))

    -- after the call: what is lent again comes back
    abbrev Closed : (xs : List Arg) → Lasts xs → Item 𝓤
    Closed xs ws = later (given (Fits xs ws) (raw (⋆ 𝓛 (Again xs ws))))

    closed : (xs : List Arg) (fs : Fresh xs) (ws : Lasts xs) → ent 𝓤 (⋆ 𝓛 (raw (⋆ 𝓛 (Toks xs fs)) ∷ raw (⋆ 𝓛 (Keeps xs fs)) ∷ raw (⋆ 𝓛 (Says xs fs ws)) ∷ [])) (mean 𝓛 (Closed xs ws))
    closed [] fs ws = qed 𝓛 (raw (emp 𝓤) ∷ raw (emp 𝓤) ∷ raw (emp 𝓤) ∷ []) ∵ keep ! (0 ∷ []) $ updating ! $ at_once ! $ check ! tt $ done !
    closed (value D x is ∷ xs) fs ws =
        qed 𝓛 (raw (⋆ 𝓛 (Toks xs fs)) ∷ raw (⋆ 𝓛 (Keeps xs fs)) ∷ raw (⋆ 𝓛 (Says xs fs ws.1)) ∷ []) ∵ updating ! $ use3 𝓛 (Closed xs ws.1) (closed xs fs ws.1) $ await ! tt $ learn ! (λ f. at_once ! $ check ! (tt, f) $ done !)
    closed (views p L T x vs v ∷ xs) fs ws =
        qed 𝓛 (raw (⋆ 𝓛 (token p ∷ Toks xs fs)) ∷ raw (⋆ 𝓛 (viewed p ∷ Keeps xs fs)) ∷ raw (⋆ 𝓛 (Says xs fs ws.1)) ∷ []) ∵ updating ! $
        use1 𝓛 (token p ⊛ raw (⋆ 𝓛 (Toks xs fs))) (pop 𝓛 (token p) (Toks xs fs)) $ split ! $ move ! (2 ∷ []) $
        use1 𝓛 (viewed p ⊛ raw (⋆ 𝓛 (Keeps xs fs))) (pop 𝓛 (viewed p) (Keeps xs fs)) $ split ! $
        -- [the slice; kept; the token; tokens; said]
        move ! (3 ∷ 1 ∷ 4 ∷ []) $ use3 𝓛 (Closed xs ws.1) (closed xs fs ws.1) $ await ! tt $ learn ! (λ f.
        move ! (1 ∷ 0 ∷ []) $ use2 𝓛 (raw (⋆ 𝓛 (viewed p ∷ Again xs ws.1))) (push 𝓛 (viewed p) (Again xs ws.1)) $
        move ! (1 ∷ 0 ∷ []) $ at_once ! $ check ! (tt, f) $ done !)
    closed (lends p l e ∷ xs) fs ws =
        let R : RattleType = p.row in let b : ℕ = p.ref.ref_ptr.0 in let o : ℕ = p.ref.ref_ptr.1 in let m : ℕ = length p.ref.now in
        let again : Item 𝓤 = ‵ (LentAgain R p.lft (fs.0.0 ∷ []) p.share p.name b o fs.0.1 l) in
        let said : Item 𝓤 = ‵ (given_back R b o (length l) (fs.0.0 ∷ []) fs.0.1 ws.0) in
        qed 𝓛 (raw (⋆ 𝓛 (‵ (flft (fs.0.0 ∷ []) full_share) ∷ Toks xs fs.1)) ∷ raw (⋆ 𝓛 (again ∷ Keeps xs fs.1)) ∷ raw (⋆ 𝓛 (said ∷ Says xs fs.1 ws.1)) ∷ []) ∵ updating ! $
        use1 𝓛 (‵ (flft (fs.0.0 ∷ []) full_share) ⊛ raw (⋆ 𝓛 (Toks xs fs.1))) (pop 𝓛 (‵ (flft (fs.0.0 ∷ []) full_share)) (Toks xs fs.1)) $ split ! $ move ! (2 ∷ []) $
        use1 𝓛 (again ⊛ raw (⋆ 𝓛 (Keeps xs fs.1))) (pop 𝓛 again (Keeps xs fs.1)) $ split ! $ move ! (4 ∷ []) $
        use1 𝓛 (said ⊛ raw (⋆ 𝓛 (Says xs fs.1 ws.1))) (pop 𝓛 said (Says xs fs.1 ws.1)) $ split ! $
        -- [said of it; said; kept of it; kept; its token; tokens]
        move ! (5 ∷ 3 ∷ 1 ∷ []) $ use3 𝓛 (Closed xs ws.1) (closed xs fs.1 ws.1) $ await ! tt $ learn ! (λ f.
        move ! (3 ∷ 2 ∷ 1 ∷ []) $ comes R b o m erased erased p.lft p.share p.name l e ! tt fs.0.0 fs.0.1 ws.0 p.has_room (λ long.
        -- [the slice; its token; what is had]
        move ! (0 ∷ 2 ∷ []) $ use2 𝓛 (raw (⋆ 𝓛 (lent_at p ws.0 ∷ Again xs ws.1))) (push 𝓛 (lent_at p ws.0) (Again xs ws.1)) $
        move ! (1 ∷ 0 ∷ []) $ at_once ! $ check ! (long ∙ e, f) $ done !))
    closed (shares p l e sh ∷ xs) fs ws =
        let R : RattleType = p.row in let b : ℕ = p.ref.ref_ptr.0 in let o : ℕ = p.ref.ref_ptr.1 in let m : ℕ = length p.ref.now in
        let again : Item 𝓤 = ‵ (SharedAgain R b o m p.lft (fs.0 ∷ []) p.share p.name l) in
        qed 𝓛 (raw (⋆ 𝓛 (‵ (flft (fs.0 ∷ []) full_share) ∷ Toks xs fs.1)) ∷ raw (⋆ 𝓛 (again ∷ Keeps xs fs.1)) ∷ raw (⋆ 𝓛 (Says xs fs.1 ws.1)) ∷ []) ∵ updating ! $
        use1 𝓛 (‵ (flft (fs.0 ∷ []) full_share) ⊛ raw (⋆ 𝓛 (Toks xs fs.1))) (pop 𝓛 (‵ (flft (fs.0 ∷ []) full_share)) (Toks xs fs.1)) $ split ! $ move ! (2 ∷ []) $
        use1 𝓛 (again ⊛ raw (⋆ 𝓛 (Keeps xs fs.1))) (pop 𝓛 again (Keeps xs fs.1)) $ split ! $
        -- [kept of it; kept; its token; tokens; said]
        move ! (3 ∷ 1 ∷ 4 ∷ []) $ use3 𝓛 (Closed xs ws.1) (closed xs fs.1 ws.1) $ await ! tt $ learn ! (λ f.
        move ! (2 ∷ 1 ∷ []) $ unshare R b o m erased erased p.lft p.share p.name l e ! tt fs.0 p.has_room $
        -- [the slice; its token; what is had]
        move ! (0 ∷ 2 ∷ []) $ use2 𝓛 (raw (⋆ 𝓛 (lent_at p l ∷ Again xs ws.1))) (push 𝓛 (lent_at p l) (Again xs ws.1)) $
        move ! (1 ∷ 0 ∷ []) $ at_once ! $ check ! (tt, f) $ done !)

    -- what the contract says of the parameters, and their tokens
    abbrev Out : List Arg → Type 1
    Out xs = ent 𝓤 (⋆ 𝓛 (Had xs)) (𝓛.H.⇛ (⋆ 𝓛 (raw (⋆ 𝓛 (Tokens' xs)) ∷ raw (⋆ 𝓛 (Left xs)) ∷ [])))

    -- of a `&mut` before the others, however it is passed on
    lent_out : (p : Lent) (l : List p.row.Denot) (e : length l ≡ length p.ref.now) (xs : List Arg) → Out xs → Out (lends p l e ∷ xs)
    lent_out p l e xs out =
        let said : Item 𝓤 = ‵ (given_back p.row p.ref.ref_ptr.0 p.ref.ref_ptr.1 (length p.ref.now) p.lft p.name l) in
        via 𝓤 (⋆ 𝓛 (token p ∷ lent_at p l ∷ raw (⋆ 𝓛 (Had xs)) ∷ [])) (two (token p) (lent_at p l) (Had xs))
        (qed 𝓛 (token p ∷ lent_at p l ∷ raw (⋆ 𝓛 (Had xs)) ∷ []) ∵ updating ! $ move ! (2 ∷ []) $ use1 𝓛 (later (raw (⋆ 𝓛 (Tokens' xs)) ⊛ raw (⋆ 𝓛 (Left xs)))) out $ await ! tt $ split ! $
        move ! (2 ∷ 0 ∷ []) $ use2 𝓛 (raw (⋆ 𝓛 (token p ∷ Tokens' xs))) (push 𝓛 (token p) (Tokens' xs)) $
        -- [tokens; said; the slice]
        move ! (2 ∷ []) $ fsplit ! $ move ! (1 ∷ []) $ fsplit ! $
        use1 𝓛 (‵ (fres p.name ((coded_holeys p.row).code (heres p.row l)))) (𝓛.names.obs-res p.name ((coded_holeys p.row).code (heres p.row l))) $
        use1 𝓛 (‵ (finally p.row p.name l)) (res-finally 𝓛 erased p.lft p.row p.name l) $
        -- [the last list; the borrow; that it is a slice; tokens; said]
        feq_i ! ℕ (length l) (length p.ref.now) e $ move ! (1 ∷ 0 ∷ []) $ fjoin ! $ move ! (0 ∷ 1 ∷ []) $ rewrite ! 1 (λ (c : ℕ). ‵ (fbor p.lft (Held p.row c p.ref.ref_ptr.0 p.ref.ref_ptr.1 p.name))) e refl $ fjoin ! $
        -- [said of it; that it is a slice; tokens; said]
        move ! (0 ∷ 3 ∷ []) $ use2 𝓛 (raw (⋆ 𝓛 (said ∷ Left xs))) (push 𝓛 said (Left xs)) $ keep ! (2 ∷ 0 ∷ []) $ at_once ! $ done !)

    goes-out : (xs : List Arg) → Out xs
    goes-out [] = qed 𝓛 [] ∵ updating ! $ at_once ! $ use0 𝓛 (raw (emp 𝓤)) _ $ frame ! $ done !
    goes-out (value D x is ∷ xs) = goes-out xs
    goes-out (views p L T x vs v ∷ xs) =
        via 𝓤 (⋆ 𝓛 (token p ∷ viewed p ∷ raw (⋆ 𝓛 (Had xs)) ∷ [])) (two (token p) (viewed p) (Had xs))
        (qed 𝓛 (token p ∷ viewed p ∷ raw _ ∷ []) ∵ updating ! $ move ! (2 ∷ []) $ use1 𝓛 (later (raw (⋆ 𝓛 (Tokens' xs)) ⊛ raw (⋆ 𝓛 (Left xs)))) (goes-out xs) $ await ! tt $ split ! $
        move ! (2 ∷ 0 ∷ []) $ use2 𝓛 (raw (⋆ 𝓛 (token p ∷ Tokens' xs))) (push 𝓛 (token p) (Tokens' xs)) $ keep ! (0 ∷ 1 ∷ []) $ at_once ! $ done !)
    goes-out (lends p l e ∷ xs) = lent_out p l e xs (goes-out xs)
    goes-out (shares p l e sh ∷ xs) = lent_out p l e xs (goes-out xs)

  -- a signature's tokens and what its parameters own, from entries of a context
  alive-from : (n : ℕ) (κs : Lfts n) (qs : Shares n) → ent 𝓤 (⋆ 𝓛 (Tokens 𝓛 n κs qs)) (toks 𝓛 n κs qs)
  alive-from zero κs qs = id⊢ 𝓤 (emp 𝓤)
  alive-from (suc n) κs qs = via 𝓤 (sep 𝓤 (𝓛.A.lft κs.0 qs.0) (⋆ 𝓛 (Tokens 𝓛 n κs.1 qs.1))) (pop 𝓛 (‵ (flft κs.0 qs.0)) (Tokens 𝓛 n κs.1 qs.1)) (mono_r 𝓤 (𝓛.A.lft κs.0 qs.0) (alive-from n κs.1 qs.1))

  owns-from : (Ts : List RattleType) (a : Denots Ts) (vss : Valss Ts) → ent 𝓤 (⋆ 𝓛 (Owned 𝓛 Ts a vss)) (sem 𝓛 (owns Ts a vss))
  owns-from [] a vss = id⊢ 𝓤 (emp 𝓤)
  owns-from (T ∷ Ts) a vss = via 𝓤 (sep 𝓤 (sem 𝓛 (T.own_val a.0 vss.0)) (⋆ 𝓛 (Owned 𝓛 Ts a.1 vss.1))) (pop 𝓛 (‵ (T.own_val a.0 vss.0)) (Owned 𝓛 Ts a.1 vss.1)) (mono_r 𝓤 (sem 𝓛 (T.own_val a.0 vss.0)) (owns-from Ts a.1 vss.1))

  -- what a callee asks, of its tokens, of what its parameters own, and of what it requires, which is had for nothing
  pre-from : (S : Signature) (s : Spec 𝓤 S) (y : (triple_of 𝓛 S s).Ghost) {ts ps : List (Item 𝓤)} → Tokens 𝓛 S.lifetimes y.0.0 y.0.1 ≡ ts → Owned 𝓛 (types_at S.params y.0.0) y.0.3 y.0.4 ≡ ps
      → ent 𝓤 (emp 𝓤) ((s y.0.0 y.0.3).requires y.1) → ent 𝓤 (sep 𝓤 (⋆ 𝓛 ts) (⋆ 𝓛 ps)) ((triple_of 𝓛 S s).pre y)
  pre-from S s y {ts} {ps} tok own owes =
      let P = sep 𝓤 (⋆ 𝓛 ts) (⋆ 𝓛 ps) in
      let N = (s y.0.0 y.0.3).requires y.1 in
      let B = on_entry 𝓛 S y.0.0 y.0.1 y.0.3 y.0.4 in
      via 𝓤 _ (emp∗ 𝓤 P) (via 𝓤 (sep 𝓤 N B) (mono∗ 𝓤 owes (mono∗ 𝓤
      (rw tok at (alive-from S.lifetimes y.0.0 y.0.1))
      (rw own at (owns-from (types_at S.params y.0.0) y.0.3 y.0.4)))) (comm∗ 𝓤 N B))

  -- two lists of entries, each as one entry, written another way
  parted : (Δ Δ' : List (Item 𝓤)) {Θ Θ' : List (Item 𝓤)} → Δ ≡ Θ → Δ' ≡ Θ' → ent 𝓤 (⋆ 𝓛 (Δ ++ Δ')) (sep 𝓤 (⋆ 𝓛 Θ) (⋆ 𝓛 Θ'))
  parted Δ Δ' e e' = via 𝓤 _ (⊢++ 𝓛 Δ Δ')
      (mono∗ 𝓤 (subst (λ (l : List (Item 𝓤)). ent 𝓤 (⋆ 𝓛 Δ) (⋆ 𝓛 l)) e (id⊢ 𝓤 (⋆ 𝓛 Δ))) (subst (λ (l : List (Item 𝓤)). ent 𝓤 (⋆ 𝓛 Δ') (⋆ 𝓛 l)) e' (id⊢ 𝓤 (⋆ 𝓛 Δ'))))

  -- what is said of last values, from entries of a context
  end-from : {D : Type 0} (e : Exit D) (x : D) (w : Last e x) (Γ : List (Item 𝓤)) → ent 𝓤 (⋆ 𝓛 (End 𝓛 e x w Γ)) (sep 𝓤 (sem 𝓛 (left e x w)) (⋆ 𝓛 Γ))
  end-from unchanged x w Γ = emp∗ 𝓤 (⋆ 𝓛 Γ)
  end-from (leaves L l S s r₀) x w Γ = pop 𝓛 (‵ (l x w)) Γ

  ends-from : {n : ℕ} (κs : Lfts n) (ss : List (Slot n)) (ks : Kepts ss) (a : Denots (types_at ss κs)) (ws : Fins κs ss ks a) → ent 𝓤 (⋆ 𝓛 (Ends 𝓛 κs ss ks a ws)) (sem 𝓛 (lasts_of κs ss ks a ws))
  ends-from κs [] ks a ws = id⊢ 𝓤 (emp 𝓤)
  ends-from κs (s ∷ ss) ks a ws = let F = sem 𝓛 (left ((s.row κs).exit ks.0) a.0 ws.0) in
      via 𝓤 _ (end-from ((s.row κs).exit ks.0) a.0 ws.0 (Ends 𝓛 κs ss ks.1 a.1 ws.1)) (mono_r 𝓤 F (ends-from κs ss ks.1 a.1 ws.1))

  -- the walk's end, at a result and last values that the prover names
  module _ (T : Ended) (c : Clauses 𝓤 T) (y : (triple_of 𝓛 T.signature (closing 𝓛 T c)).Ghost) where
    pub leaves-holding : (xs : List Arg) (i : Item 𝓤) (v : Val) (r : Res T.signature y.0.0) (ws : LastsOf T y.0.0 y.0.3) → Tokens 𝓛 T.signature.lifetimes y.0.0 y.0.1 ≡ Tokens' xs
        → Ends 𝓛 y.0.0 T.signature.params T.kept y.0.3 ws ≡ Left xs → ent 𝓤 (mean 𝓛 i) (sem 𝓛 ((type_at T.signature.result y.0.0).own_val r (v ∷ [])))
        → ent 𝓤 (emp 𝓤) ((c y.0.0 y.0.3).ensures y.1 r (at_exit T y.0.0 y.0.3 ws)) → ent 𝓤 (⋆ 𝓛 (i ∷ Had xs)) ((triple_of 𝓛 T.signature (closing 𝓛 T c)).post y v)
    leaves-holding xs i v r ws tok end made shown =
        let S : Signature = T.signature in
        let N : SProp 𝓤 = (c y.0.0 y.0.3).ensures y.1 r (at_exit T y.0.0 y.0.3 ws) in
        via 𝓤 (⋆ 𝓛 (i ∷ raw (⋆ 𝓛 (Had xs)) ∷ [])) (pop 𝓛 i (Had xs))
        (qed 𝓛 (i ∷ raw (⋆ 𝓛 (Had xs)) ∷ []) ∵ updating ! $ use1 𝓛 (‵ ((type_at S.result y.0.0).own_val r (v ∷ []))) made $ move ! (1 ∷ []) $
        use1 𝓛 (later (raw (⋆ 𝓛 (Tokens' xs)) ⊛ raw (⋆ 𝓛 (Left xs)))) (goes-out xs) $ await ! tt $ split ! $
        use1 𝓛 (raw (alive 𝓛 S y.0.0 y.0.1)) (subst (λ (l : List (Item 𝓤)). ent 𝓤 (⋆ 𝓛 l) (alive 𝓛 S y.0.0 y.0.1)) tok (alive-from S.lifetimes y.0.0 y.0.1)) $ move ! (1 ∷ []) $
        use1 𝓛 (‵ (lasts T y.0.0 y.0.3 ws)) (subst (λ (l : List (Item 𝓤)). ent 𝓤 (⋆ 𝓛 l) (sem 𝓛 (lasts T y.0.0 y.0.3 ws))) end (ends-from y.0.0 S.params T.kept y.0.3 ws)) $
        use0 𝓛 (raw N) shown $ at_once ! $
        -- [ensured; the last values; the tokens; the result]
        move ! (2 ∷ 3 ∷ []) $ join ! $
        show ! (λ (r' : Res S y.0.0). sep 𝓤 (Back 𝓛 S y.0 v r') (ensured 𝓛 T c y.0.0 y.0.3 y.1 r')) r $ frame ! $
        show ! (λ (us : LastsOf T y.0.0 y.0.3). sep 𝓤 (sem 𝓛 (lasts T y.0.0 y.0.3 us)) ((c y.0.0 y.0.3).ensures y.1 r (at_exit T y.0.0 y.0.3 us))) ws $ move ! (1 ∷ 0 ∷ []) $ done !)

    pub leaves-with : (xs : List Arg) (v : Val) (r : Res T.signature y.0.0) (ws : LastsOf T y.0.0 y.0.3) → Tokens 𝓛 T.signature.lifetimes y.0.0 y.0.1 ≡ Tokens' xs
        → Ends 𝓛 y.0.0 T.signature.params T.kept y.0.3 ws ≡ Left xs → ent 𝓤 (emp 𝓤) (sem 𝓛 ((type_at T.signature.result y.0.0).own_val r (v ∷ [])))
        → ent 𝓤 (emp 𝓤) ((c y.0.0 y.0.3).ensures y.1 r (at_exit T y.0.0 y.0.3 ws)) → ent 𝓤 (⋆ 𝓛 (Had xs)) ((triple_of 𝓛 T.signature (closing 𝓛 T c)).post y v)
    leaves-with xs v r ws tok end made shown =
        via 𝓤 (⋆ 𝓛 (raw (emp 𝓤) ∷ Had xs)) (via 𝓤 (sep 𝓤 (emp 𝓤) (⋆ 𝓛 (Had xs))) (emp∗ 𝓤 (⋆ 𝓛 (Had xs))) (push 𝓛 (raw (emp 𝓤)) (Had xs))) (leaves-holding xs (raw (emp 𝓤)) v r ws tok end made shown)

  -- the function meets its contract, from a walk with the parameters' machine values written out, and with an entry of the context for each token and each parameter
  module _ (T : Ended) (c : Clauses 𝓤 T) (run : Fun 𝓤) where
    abbrev S : Signature
    S = T.signature

    pub meets-with : (sp : (κs : Lfts S.lifetimes) → Spells (types_at S.params κs)) → ((κs : Lfts S.lifetimes) → Tellss (types_at S.params κs) (Ises (types_at S.params κs)) (sp κs))
        → ((κs : Lfts S.lifetimes) (qs : Shares S.lifetimes) (bounds : AllOutlive S.lifetimes S.outlives κs) (a : Args S κs) (g : (c κs a).ghost)
        → Are (types_at S.params κs) (Ises (types_at S.params κs)) a (valss (types_at S.params κs) (sp κs) a)
        → ent 𝓤 (sep 𝓤 (⋆ 𝓛 (AtEntry 𝓛 S κs qs a (valss (types_at S.params κs) (sp κs) a))) ((c κs a).requires g))
        (run (flat (types_at S.params κs) (valss (types_at S.params κs) (sp κs) a)) ((triple_of 𝓛 S (closing 𝓛 T c)).post ((κs, qs, bounds, a, valss (types_at S.params κs) (sp κs) a), g))))
        → Meets 𝓛 S run (closing 𝓛 T c)
    meets-with sp tl k y =
        let R = (c y.0.0 y.0.3).requires y.1 in
        let Q : Vals S y.0.0 → SProp 𝓤 = λ us. run (flat (types_at S.params y.0.0) us) ((triple_of 𝓛 S (closing 𝓛 T c)).post ((y.0.0, y.0.1, y.0.2, y.0.3, us), y.1)) in
        let vs = valss (types_at S.params y.0.0) (sp y.0.0) y.0.3 in
        via 𝓤 _
        (via 𝓤 _
        (mono_l 𝓤 R (said 𝓛 S y.0.0 y.0.1 (sp y.0.0) (tl y.0.0) y.0.3 (λ us. wand 𝓤 R (Q us)) y.0.4 (λ are. wand_i 𝓤 _ R _
        (via 𝓤 (sep 𝓤 (⋆ 𝓛 (AtEntry 𝓛 S y.0.0 y.0.1 y.0.3 vs)) R) (mono_l 𝓤 R (at_entry 𝓛 S y.0.0 y.0.1 y.0.3 vs)) (k y.0.0 y.0.1 y.0.2 y.0.3 y.1 are)))))
        (comm∗ 𝓤 (wand 𝓤 R (Q y.0.4)) R))
        (apply∗ 𝓤 R (Q y.0.4))

-- a slice itself
abbrev pub kept : {M : Type 1} {𝓤 : Ura M} {𝓛 : Logic 𝓤} → (p : Lent) → RowLaws p.row → Arg 𝓛
kept {M} {𝓤} {𝓛} p L = views p L (ShrSlice erased p.lft p.row) p.ref (shr_slice_vals p.ref) (id⊢ 𝓤 _)

module _ {M : Type 1} {𝓤 : Ura M} {𝓛 : Logic 𝓤} {K : Type 0} {Γ : List (Item 𝓤)} {E : Env 𝓤 𝓛.H} {C : Calls 𝓤 𝓛.H} {Λ : Loops 𝓤 𝓛.H} {q : Post 𝓤 𝓛.H} {d : Place} {rest : Body} {f : Callee} {os : List Operand} where
  open 𝓛 use {H}

  pub calls-with : K → FmC 𝓤 H 𝓛.laws C → (T : Ended) (c : Clauses 𝓤 T) → Triple 𝓤 (C f) (triple_of 𝓛 T.signature (closing 𝓛 T c)) → (xs : List (Arg 𝓛)) (y : Fresh 𝓛 xs → (triple_of 𝓛 T.signature (closing 𝓛 T c)).Ghost)
      → ((fs : Fresh 𝓛 xs) → Tokens 𝓛 T.signature.lifetimes (y fs).0.0 (y fs).0.1 ≡ Toks 𝓛 xs fs)
      → ((fs : Fresh 𝓛 xs) → Owned 𝓛 (types_at T.signature.params (y fs).0.0) (y fs).0.3 (y fs).0.4 ≡ Owns 𝓛 xs fs)
      → (to : (fs : Fresh 𝓛 xs) → LastsOf T (y fs).0.0 (y fs).0.3 → Lasts 𝓛 xs)
      → ((fs : Fresh 𝓛 xs) (ls : LastsOf T (y fs).0.0 (y fs).0.3) → Ends 𝓛 (y fs).0.0 T.signature.params T.kept (y fs).0.3 ls ≡ Says 𝓛 xs fs (to fs ls))
      → ((fs : Fresh 𝓛 xs) → ent 𝓤 (emp 𝓤) ((c (y fs).0.0 (y fs).0.3).requires (y fs).1))
      → {Q : (fs : Fresh 𝓛 xs) → Res T.signature (y fs).0.0 → LastsOf T (y fs).0.0 (y fs).0.3 → Type 0}
      → ((fs : Fresh 𝓛 xs) (r : Res T.signature (y fs).0.0) (ls : LastsOf T (y fs).0.0 (y fs).0.3) → ent 𝓤 ((c (y fs).0.0 (y fs).0.3).ensures (y fs).1 r (at_exit T (y fs).0.0 (y fs).0.3 ls)) (fact 𝓤 (Q fs r ls)))
      → (val : (fs : Fresh 𝓛 xs) → Res T.signature (y fs).0.0 → Val) → ((fs : Fresh 𝓛 xs) → Tells (type_at T.signature.result (y fs).0.0) (Is (type_at T.signature.result (y fs).0.0)) (λ r. val fs r ∷ []))
      → ((fs : Fresh 𝓛 xs) → Opds K 𝓛 (raw ((triple_of 𝓛 T.signature (closing 𝓛 T c)).pre (y fs)) ∷ raw (⋆ 𝓛 (Keeps 𝓛 xs fs)) ∷ Γ) E os ((triple_of 𝓛 T.signature (closing 𝓛 T c)).args (y fs)))
      → ((fs : Fresh 𝓛 xs) (r : Res T.signature (y fs).0.0) (ls : LastsOf T (y fs).0.0 (y fs).0.3) → Q fs r ls → Is (type_at T.signature.result (y fs).0.0) r (val fs r ∷ []) → Fits 𝓛 xs (to fs ls)
      → Seq K 𝓛 (Again 𝓛 xs (to fs ls) ++ Γ) (lands C Λ E d (val fs r) rest q))
      → Seq K 𝓛 (Had 𝓛 xs ++ Γ) (runs C Λ E (seq (call f os d) rest) q)
  calls-with t fm T c met xs y tok own to ends owes {Q} says val tl os k =
      cut (Had 𝓛 xs) (later (some (λ (fs : Fresh 𝓛 xs). raw (⋆ 𝓛 (Toks 𝓛 xs fs)) ⊛ raw (⋆ 𝓛 (Owns 𝓛 xs fs)) ⊛ raw (⋆ 𝓛 (Keeps 𝓛 xs fs)))) ∷ []) Γ (opened 𝓛 xs) $ await t tt $ pick t (λ fs. split3 t $ join t $
      calls-ended t fm T c met (y fs) (pre-from 𝓛 T.signature (closing 𝓛 T c) (y fs) (tok fs) (own fs) (owes fs)) (Q fs) (says fs) (val fs) (tl fs) (os fs) (λ r ls said is.
      cut (Ends 𝓛 (y fs).0.0 T.signature.params T.kept (y fs).0.3 ls ++ Tokens 𝓛 T.signature.lifetimes (y fs).0.0 (y fs).0.1) (raw (⋆ 𝓛 (Says 𝓛 xs fs (to fs ls))) ∷ raw (⋆ 𝓛 (Toks 𝓛 xs fs)) ∷ []) (raw (⋆ 𝓛 (Keeps 𝓛 xs fs)) ∷ Γ)
      (parted 𝓛 (Ends 𝓛 (y fs).0.0 T.signature.params T.kept (y fs).0.3 ls) (Tokens 𝓛 T.signature.lifetimes (y fs).0.0 (y fs).0.1) (ends fs ls) (tok fs)) $
      move t (1 ∷ 2 ∷ 0 ∷ []) $ use3 𝓛 (later (given (Fits 𝓛 xs (to fs ls)) (raw (⋆ 𝓛 (Again 𝓛 xs (to fs ls)))))) (closed 𝓛 xs fs (to fs ls)) $ await t tt $ learn t (λ fits.
      cut (raw (⋆ 𝓛 (Again 𝓛 xs (to fs ls))) ∷ []) (Again 𝓛 xs (to fs ls)) Γ (id⊢ 𝓤 (⋆ 𝓛 (Again 𝓛 xs (to fs ls)))) $ k fs r ls said is fits)))

-- ---- operands and assignments, over locals by their entry of the context
abbrev pub field_vals : (T : Declared) → LL.Laws T → T.D → MirVals
field_vals T L x = of_list (flat (fields T) (valss (fields T) (LL.spells T.parts L) (T.to x)))

module _ {M : Type 1} {𝓤 : Ura M} {𝓛 : Logic 𝓤} {K : Type 0} {Γ : List (Item 𝓤)} {E : Env 𝓤 𝓛.H} where
  open 𝓛 use {H}

  pub loc : K → (n : ℕ) {i : ℕ} {q : Share} {v : Val} → nth 𝓛 n Γ ≡ ‵ (fat q (spot_of 𝓤 H E i).0 (spot_of 𝓤 H E i).1 (spot_of 𝓤 H E i).2 v) → Opd K 𝓛 Γ E (copy (place i [])) v
  loc t n e = load t (from t (stop t)) (look t n e)

  pub part : K → (n : ℕ) {i k : ℕ} {τ : Ty} {d : ℕ} {q : Share} {v : Val} {back : Val → Item 𝓤} → field_of (spot_of 𝓤 H E i).0 k ≡ just (τ, d) → Part K 𝓛 (nth 𝓛 n Γ) q τ (spot_of 𝓤 H E i).1 ((spot_of 𝓤 H E i).2 + d) v back
      → Opd K 𝓛 Γ E (copy (place i (field k ∷ []))) v
  part t n e p = load t (from t (fld t e (stop t))) (look_in t n p)

  -- a field of a struct whose type is large: its place is found here once
  pub part_of : K → (n k : ℕ) (T : Declared) (L : LL.Laws T) (x : T.D) {i b d : ℕ} {τ : Ty} {q : Share} → spot_of 𝓤 H E i ≡ (layout (declared-shape T), b, zero) → nth 𝓛 n Γ ≡ ‵ (fat q (layout (declared-shape T)) b zero (LL.val T L x))
      → field_at zero (to_tys (mirs (fields T))) k ≡ just (τ, d) → Opd K 𝓛 Γ E (copy (place i (field k ∷ []))) (get_v (field_vals T L x) k)
  part_of t n k T L x {i} {b} {d} {τ} {q} e₁ e₂ e₃ =
      load t (from t (rw e₁ (fld t e₃ (stop t))))
      (look_in t n (subst (λ (j : Item 𝓤). Part K 𝓛 j q τ b (zero + d) (get_v (field_vals T L x) k) (λ u. ‵ (fat q (layout (declared-shape T)) b zero (vstruct (set_v (field_vals T L x) k u))))) (sym e₂) (sub t k e₃ (whole t))))

  pub start : K → (n : ℕ) {i k : ℕ} {ρ τ : Ty} {d : ℕ} {q : Share} {b o : ℕ} {back : Val → Item 𝓤} → field_of (spot_of 𝓤 H E i).0 k ≡ just (ρ, d) → Part K 𝓛 (nth 𝓛 n Γ) q ρ (spot_of 𝓤 H E i).1 ((spot_of 𝓤 H E i).2 + d) (vptr b o) back
      → Rv K 𝓛 Γ E (addr_of (place i (field k ∷ deref τ ∷ []))) (vptr b o)
  start t n e p = addr t (from t (fld t e (hop t (look_in t n p) (stop t))))

  pub put-at : K → {C : Calls 𝓤 H} {Λ : Loops 𝓤 H} {q : Post 𝓤 H} {i : ℕ} {r : RValue} {v : Val} {rest : Body} (n : ℕ) → Rv K 𝓛 Γ E r v → nth 𝓛 n Γ ≡ ‵ (froom (spot_of 𝓤 H E i).0 (spot_of 𝓤 H E i).1 (spot_of 𝓤 H E i).2) → True (has_ty (spot_of 𝓤 H E i).0 v) × WT v
      → Step K 𝓛 (put 𝓛 n (‵ (fat full_share (spot_of 𝓤 H E i).0 (spot_of 𝓤 H E i).1 (spot_of 𝓤 H E i).2 v)) Γ) (runs C Λ E rest q) Γ (runs C Λ E (seq (assign (place i []) r) rest) q)
  put-at t n r e wt = assigns t r (from t (stop t)) (init t n e wt)

-- ---- the locals
-- what a local holds when the function returns
pub data Cell : Type 0 where
  holds : Val → Cell
  empty : Cell

module _ {M : Type 1} (𝓤 : Ura M) (H : Heap 𝓤) where
  abbrev pub Cells : Env 𝓤 H → List Cell → List (Item 𝓤)
  Cells [] cs = []
  Cells (e ∷ E) [] = []
  Cells (e ∷ E) (holds v ∷ cs) = ‵ (fat full_share e.0 e.1 zero v) ∷ ‵ (fdies e.0 e.1) ∷ Cells E cs
  Cells (e ∷ E) (empty ∷ cs) = ‵ (froom e.0 e.1 zero) ∷ ‵ (fdies e.0 e.1) ∷ Cells E cs

  abbrev pub Covers : Env 𝓤 H → List Cell → Type 0
  Covers [] cs = Unit {0}
  Covers (e ∷ E) [] = ⊥
  Covers (e ∷ E) (c ∷ cs) = Covers E cs

module _ {M : Type 1} {𝓤 : Ura M} {𝓛 : Logic 𝓤} {K : Type 0} {g : Goal 𝓤 𝓛.H} where
  open 𝓛 use {H}

  free-cells : K → {Γ : List (Item 𝓤)} (E : Env 𝓤 H) (cs : List Cell) → Covers 𝓤 H E cs → Seq K 𝓛 Γ g → Seq K 𝓛 (Cells 𝓤 H E cs ++ Γ) (frees E g)
  free-cells t [] cs c s = free0 t $ s
  free-cells t (e ∷ E) [] c s = absurd c
  free-cells t (e ∷ E) (holds v ∷ cs) c s = forget t 0 refl $ free1 t $ free-cells t E cs c s
  free-cells t (e ∷ E) (empty ∷ cs) c s = free1 t $ free-cells t E cs c s

  -- all locals are freed, behind what else there is
  pub frees_all : K → {E : Env 𝓤 H} (Γ : List (Item 𝓤)) (cs : List Cell) → Covers 𝓤 H E cs → Step K 𝓛 Γ g (Γ ++ Cells 𝓤 H E cs) (frees E g)
  frees_all t {E} Γ cs c = step (λ s. by t
      (via 𝓤 (sep 𝓤 (⋆ 𝓛 Γ) (⋆ 𝓛 (Cells 𝓤 H E cs))) (⊢++ 𝓛 Γ _) (via 𝓤 (sep 𝓤 (⋆ 𝓛 (Cells 𝓤 H E cs)) (⋆ 𝓛 Γ)) (comm∗ 𝓤 (⋆ 𝓛 Γ) (⋆ 𝓛 (Cells 𝓤 H E cs)))
      (via 𝓤 _ (++⊢ 𝓛 (Cells 𝓤 H E cs) Γ) (free-cells t E cs c s).prf))))

module _ {M : Type 1} {𝓤 : Ura M} {𝓛 : Logic 𝓤} {K : Type 0} {Γ : List (Item 𝓤)} where
  open 𝓛 use {H}

  -- the context written out: what else there is, and the locals in their order
  pub tidy : K → {C : Calls 𝓤 H} {Λ : Loops 𝓤 H} {E : Env 𝓤 H} {b : Body} {q : Post 𝓤 H} (Δ : List (Item 𝓤)) (cs : List Cell) → Γ ≡ Δ ++ Cells 𝓤 H E cs → Step K 𝓛 (Δ ++ Cells 𝓤 H E cs) (runs C Λ E b q) Γ (runs C Λ E b q)
  tidy t {C} {Λ} {E} {b} {q} Δ cs e = step (λ s. rw e s)
