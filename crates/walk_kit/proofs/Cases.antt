-- The words of `Passing` at a call, held to the toolchain's rows by computation: a number, a copy of a `&[T]`, a `&mut [T]` lent again as a `&mut`, and one lent as a `&`. So the equations that `calls-with` and `leaves-with` ask can be had, and `given_back` is what the row of a `&mut [T]` says of its last list.
--     given-back-only      `given_back` is what a kept `&mut [T]` leaves
--     tokens-match, owned-match, said-match       of such a call: the tokens, what the parameters own, what is said of last values.        left-match      the same at the end of a function that has these parameters
use base.Fml.{GName, Lft}
use base.Fraction.{full_share}
use contract.Lifetimes.{Lfts, Shares}
use denote.Exit.{left, yes, at}
use denote.Plain.{Nothing, UInt}
use denote.Ref.{MutBor}
use denote.RattleType.{RattleType, RowLaws}
use denote.Shares.{Shares as SharesRow}
use denote.Signature.{Signature, Slot, plain, mut_slice, shr_slice, types_at}
use denote.Slice.{slice_val, MutSlice}
use denote.Triple.Clauses.{Ended}
use denote.Triple.Entry.{Args, Vals}
use mir.Syntax.{Lifetime, w64}
use mir.Val.{vint}
use types.Logic.{Logic}
use seplogic.Ra.Ura.{Ura}
use Rattle.meaning_numbers.proofs.Prelude.{ℕ, length, List, [], ◌∷◌, ◌≡◌, refl}
use Rattle.walk_kit.proofs.{Told.Tokens, Told.Ends, Walk.Owned, Lends.given_back, Passing.uint, Passing.Lent, Passing.Arg, Passing.value, Passing.kept, Passing.lends, Passing.shares, Passing.Toks, Passing.Owns, Passing.Says, Passing.Left}
use denote.Laws.{Is}

pub given-back-only : (ℓ : Lifetime) (κ : Lft) (R : RattleType) (x : MutBor (List R.Denot)) (l : List R.Denot) → left ((MutSlice ℓ κ R).exit yes) x l ≡ given_back R x.ref_ptr.0 x.ref_ptr.1 (length x.now) κ x.ghost_name l
given-back-only ℓ κ R x l = refl

module _ {M : Type 1} {𝓤 : Ura M} (𝓛 : Logic 𝓤) (n : ℕ) (is : Is (UInt w64) n (vint w64 n ∷ [])) (v m s : Lent) (laws : RowLaws v.row) (l : List m.row.Denot) (e : length l ≡ length m.ref.now) (k : List s.row.Denot) (f : length k ≡ length s.ref.now) (sh : SharesRow 𝓛 s.row []) where
  abbrev passed : List (Arg 𝓛)
  passed = value (uint 𝓛 w64) n is ∷ kept v laws ∷ lends m l e ∷ shares s k f sh ∷ []

  -- fn g<'0, '1, '2>(n: u64, v: &'0 [V], m: &'1 mut [M], s: &'2 [S])
  abbrev callee : Signature
  callee = record { lifetimes = 3; outlives = []; params = plain (λ κs. UInt w64) ∷ shr_slice 0 tt (λ κs. v.row) ∷ mut_slice 1 tt (λ κs. m.row) ∷ shr_slice 2 tt (λ κs. s.row) ∷ []; result = plain (λ κs. Nothing) }

  abbrev ended : Ended
  ended = record { signature = callee; kept = (at (1 ∷ []), (at (1 ∷ []), (at (1 ∷ []), (at (1 ∷ []), tt)))) }

  module _ (ν ν' : ℕ) (δ : GName) where
    abbrev κs : Lfts 3
    κs = (v.lft, (ν ∷ [], (ν' ∷ [], tt)))

    abbrev qs : Shares 3
    qs = (v.share, (full_share, (full_share, tt)))

    abbrev args : Args callee κs
    args = (n, (v.ref, (record { ref_ptr = m.ref.ref_ptr; ghost_name = δ; now = l }, (record { ref_ptr = s.ref.ref_ptr; now = k }, tt))))

    abbrev vals : Vals callee κs
    vals = (vint w64 n ∷ [], (slice_val v.ref.ref_ptr (length v.ref.now) ∷ [], (slice_val m.ref.ref_ptr (length m.ref.now) ∷ [], (slice_val s.ref.ref_ptr (length s.ref.now) ∷ [], tt))))

    pub tokens-match : Tokens 𝓛 3 κs qs ≡ Toks 𝓛 passed ((ν, δ), (ν', tt))
    tokens-match = refl

    pub owned-match : Owned 𝓛 (types_at callee.params κs) args vals ≡ Owns 𝓛 passed ((ν, δ), (ν', tt))
    owned-match = refl

    pub said-match : (w : List m.row.Denot) → Ends 𝓛 κs callee.params ended.kept args (tt, (tt, (w, (tt, tt)))) ≡ Says 𝓛 passed ((ν, δ), (ν', tt)) (tt, (tt, (w, (tt, tt))))
    said-match w = refl

-- fn h<'0, '1>(n: u64, v: &'0 [V], m: &'1 mut [M]), at its end, where the list of m is l
module _ {M : Type 1} {𝓤 : Ura M} (𝓛 : Logic 𝓤) (n : ℕ) (is : Is (UInt w64) n (vint w64 n ∷ [])) (v m : Lent) (laws : RowLaws v.row) (l : List m.row.Denot) (e : length l ≡ length m.ref.now) where
  abbrev params : List (Slot 2)
  params = plain (λ κs. UInt w64) ∷ shr_slice 0 tt (λ κs. v.row) ∷ mut_slice 1 tt (λ κs. m.row) ∷ []

  pub left-match : Ends 𝓛 (v.lft, (m.lft, tt)) params (at (1 ∷ []), (at (1 ∷ []), (at (1 ∷ []), tt))) (n, (v.ref, (record { ref_ptr = m.ref.ref_ptr; ghost_name = m.name; now = m.ref.now }, tt))) (tt, (tt, (l, tt)))
      ≡ Left 𝓛 (value (uint 𝓛 w64) n is ∷ kept v laws ∷ lends m l e ∷ [])
  left-match = refl
