-- A walk's beginning, its loops, and an `if` in its middle.
--     AtEntry, at_entry        what a function has at entry, as entries of a context: a token for each lifetime, then what each parameter owns
--     loops-by         a loop, over states s of any type: At s is the context, F s what is known, and μ s falls with each turn. A turn from s leaves the loop, or ends at some s' (it is handed the way on, for each s')
--     goes_in, passes-by       an `if` in the middle of a part, where its test's outcome is known: its first arm runs, or the arm is passed by where the other is empty
-- Assumes `Logic`.
use base.Logic.{SProp, ent, sep, ex, guard, emp, via, mono∗, mono_r, ex_i, ex_e, guard_i, guard_e, id⊢}
use contract.Lifetimes.{Lfts, Shares}
use denote.RattleType.{RattleType, Denots, Valss, owns}
use denote.Signature.{Signature, types_at}
use denote.Triple.Entry.{Args, Vals, on_entry}
use types.Logic.{Logic, sem}
use seplogic.Ra.Ura.{Ura}
use lib.WfN.{lt-wf_rel}
use mir.Syntax.{Opd as Operand, Body, seq, loop, cond, skip}
use mir.Val.{vbool}
use prog.Wp.{Out, Env, Calls, Loops, Tables, Wp, after_seq, after_turn}
use sound.Loop.{loop_rule}
use types.Kit.{Item, ⋆, ‵, Post, any_q, post, runs, Step, step, ◌$◌, push, ++⊢}
use types.Run.{Opd, first, branches, skips}
use Rattle.meaning_numbers.proofs.Prelude.{ℕ, ◌<◌, true, false, List, [], ◌∷◌, ◌++◌, ◌≡◌, refl}
use Rattle.walk_kit.proofs.Told.{Tokens, tokens}

module _ {M : Type 1} {𝓤 : Ura M} (𝓛 : Logic 𝓤) where
  abbrev pub Owned : (Ts : List RattleType) → Denots Ts → Valss Ts → List (Item 𝓤)
  Owned [] a vss = []
  Owned (T ∷ Ts) a vss = ‵ (T.own_val a.0 vss.0) ∷ Owned Ts a.1 vss.1

  owned : (Ts : List RattleType) (a : Denots Ts) (vss : Valss Ts) → ent 𝓤 (sem 𝓛 (owns Ts a vss)) (⋆ 𝓛 (Owned Ts a vss))
  owned [] a vss = id⊢ 𝓤 (emp 𝓤)
  owned (T ∷ Ts) a vss = let F = sem 𝓛 (T.own_val a.0 vss.0) in
      via 𝓤 (sep 𝓤 F (⋆ 𝓛 (Owned Ts a.1 vss.1))) (mono_r 𝓤 F (owned Ts a.1 vss.1)) (push 𝓛 (‵ (T.own_val a.0 vss.0)) (Owned Ts a.1 vss.1))

  abbrev pub AtEntry : (S : Signature) (κs : Lfts S.lifetimes) → Shares S.lifetimes → Args S κs → Vals S κs → List (Item 𝓤)
  AtEntry S κs qs a vss = Tokens 𝓛 S.lifetimes κs qs ++ Owned (types_at S.params κs) a vss

  pub at_entry : (S : Signature) (κs : Lfts S.lifetimes) (qs : Shares S.lifetimes) (a : Args S κs) (vss : Vals S κs) → ent 𝓤 (on_entry 𝓛 S κs qs a vss) (⋆ 𝓛 (AtEntry S κs qs a vss))
  at_entry S κs qs a vss = let Δ : List (Item 𝓤) = Tokens 𝓛 S.lifetimes κs qs in let Δ' : List (Item 𝓤) = Owned (types_at S.params κs) a vss in
      via 𝓤 (sep 𝓤 (⋆ 𝓛 Δ) (⋆ 𝓛 Δ')) (mono∗ 𝓤 (tokens 𝓛 S.lifetimes κs qs) (owned (types_at S.params κs) a vss)) (++⊢ 𝓛 Δ Δ')

module _ {M : Type 1} {𝓤 : Ura M} {𝓛 : Logic 𝓤} {K : Type 0} {Γ : List (Item 𝓤)} {E : Env 𝓤 𝓛.H} {C : Calls 𝓤 𝓛.H} {Λ : Loops 𝓤 𝓛.H} {q : Post 𝓤 𝓛.H} where
  open 𝓛 use {H}

  pub goes_in : K → {c : Operand} {a b e : Body} → Opd K 𝓛 Γ E c (vbool true) → Step K 𝓛 Γ (runs C Λ E a (any_q (after_seq 𝓤 H (Wp 𝓤 H C Λ E b (post 𝓤 H q)) (post 𝓤 H q)))) Γ (runs C Λ E (seq (cond c a e) b) q)
  goes_in t o = step (λ s. first t $ branches t o (λ _. s) (λ z. absurd z))

  pub passes-by : K → {c : Operand} {a b : Body} → Opd K 𝓛 Γ E c (vbool false) → Step K 𝓛 Γ (runs C Λ E b q) Γ (runs C Λ E (seq (cond c a skip) b) q)
  passes-by t o = step (λ s. first t $ branches t o (λ z. absurd z) (λ _. skips t $ record { prf = s.prf }))

module _ {M : Type 1} {𝓤 : Ura M} (𝓛 : Logic 𝓤) (𝓣 : Tables 𝓤 𝓛.H) (E : Env 𝓤 𝓛.H) (turn : Body) (Q : Out → SProp 𝓤) {S : Type 0} (μ : S → ℕ) (F : S → Type 0) (At : S → List (Item 𝓤)) where
  open 𝓛 use {H}

  abbrev Known : ℕ → S → Type 0
  Known t s = (μ s ≡ t) × F s

  abbrev Inv : ℕ → SProp 𝓤
  Inv t = ex 𝓤 (λ (s : S). guard 𝓤 (Known t s) (⋆ 𝓛 (At s)))

  abbrev Below : ℕ → SProp 𝓤
  Below t = ex 𝓤 (λ (t' : ℕ). guard 𝓤 (t' < t) (Inv t'))

  into : (s : S) → F s → ent 𝓤 (⋆ 𝓛 (At s)) (Inv (μ s))
  into s f = via 𝓤 (guard 𝓤 _ (⋆ 𝓛 (At s))) (guard_i 𝓤 _ _ (refl, f)) (ex_i 𝓤 (λ (s' : S). guard 𝓤 _ (⋆ 𝓛 (At s'))) s)

  below : (t : ℕ) (s : S) → μ s < t → F s → ent 𝓤 (⋆ 𝓛 (At s)) (Below t)
  below t s l f = via 𝓤 (Inv (μ s)) (into s f) (via 𝓤 (guard 𝓤 (μ s < t) (Inv (μ s))) (guard_i 𝓤 (μ s < t) (Inv (μ s)) l) (ex_i 𝓤 (λ (t' : ℕ). guard 𝓤 (t' < t) (Inv t')) (μ s)))

  pub loops-by : ((s : S) → F s → (X : SProp 𝓤) → ((s' : S) → μ s' < μ s → F s' → ent 𝓤 (⋆ 𝓛 (At s')) X) → ent 𝓤 (⋆ 𝓛 (At s)) (Wp 𝓤 H 𝓣.C 𝓣.Λ E turn (after_turn 𝓤 H X Q)))
      → (s : S) → F s → ent 𝓤 (⋆ 𝓛 (At s)) (Wp 𝓤 H 𝓣.C 𝓣.Λ E (loop turn) Q)
  loops-by each s f = via 𝓤 (Inv (μ s)) (into s f) (loop_rule 𝓤 H 𝓛.laws 𝓣 ◌<◌ lt-wf_rel.wf E turn Q Inv
      (λ t. ex_e 𝓤 (λ (s' : S). guard 𝓤 (Known t s') (⋆ 𝓛 (At s'))) (λ s'. guard_e 𝓤 (Known t s') _ (λ k.
      each s' k.1 (Below t) (λ s'' l g. below t s'' (rw k.0 at l) g)))) (μ s))
