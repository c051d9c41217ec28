-- Calls in a walk, whatever the callee's `ensures` says.
--     calls-ensured    the result is some r, its machine value written out. What stands at the head gives the callee's `pre`, and the tokens come back there, beside what the callee ensures
--     calls-ended      the same where the `ensures` says the fact Q of the result and of the last values ls: Q is known, and what is left of each `&mut` stands at the head (`Ends`), then the tokens (`Tokens`), each as an entry of its own
-- Assumes `Logic`, and that the table of calls is monotone under a frame, as every `Tables` is.
use base.Fml.{flft}
use base.Logic.{ent, sep, emp, id⊢, via, mono∗, mono_r, snd∗}
use contract.Lifetimes.{Lfts, Shares, toks}
use contract.Monad.{fact}
use denote.Exit.{Exit, unchanged, leaves, Last, left}
use denote.Laws.{Is, Tells, shows}
use denote.RattleType.{Denots}
use denote.Signature.{Signature, Slot, type_at, types_at}
use denote.Steps.{heard, facts, only}
use denote.Triple.Call.{calls_at}
use denote.Triple.Clauses.{Ended, Clauses, Lasts, at_exit, lasts, closing}
use denote.Triple.End.{Kepts, Fins, lasts_of}
use denote.Triple.Entry.{Args, Res, alive}
use denote.Triple.Spec.{Spec, triple_of}
use denote.Triple.Statement.{Triple}
use types.Logic.{Logic, sem}
use seplogic.Ra.Ura.{Ura}
use mir.Syntax.{Callee, Place, Opd as Operand, Body, seq, call}
use mir.Val.{Val}
use prog.Wp.{Env, Calls, Loops}
use sound.WpLaws.{FmC}
use types.Kit.{Item, mean, ‵, raw, ◌⊛◌, ⋆, push, ++⊢, some, Post, lands, runs, Seq, ◌$◌, cut, use1, split, move, pick, await}
use types.Run.{Opds}
use Rattle.meaning_numbers.proofs.Prelude.{ℕ, zero, suc, List, [], ◌∷◌, ◌++◌, sym, ap, subst}

module _ {M : Type 1} {𝓤 : Ura M} (𝓛 : Logic 𝓤) where
  -- a token for each lifetime
  abbrev pub Tokens : (n : ℕ) → Lfts n → Shares n → List (Item 𝓤)
  Tokens zero κs qs = []
  Tokens (suc n) κs qs = ‵ (flft κs.0 qs.0) ∷ Tokens n κs.1 qs.1

  pub tokens : (n : ℕ) (κs : Lfts n) (qs : Shares n) → ent 𝓤 (toks 𝓛 n κs qs) (⋆ 𝓛 (Tokens n κs qs))
  tokens zero κs qs = id⊢ 𝓤 (emp 𝓤)
  tokens (suc n) κs qs = via 𝓤 (sep 𝓤 (𝓛.A.lft κs.0 qs.0) (⋆ 𝓛 (Tokens n κs.1 qs.1))) (mono_r 𝓤 (𝓛.A.lft κs.0 qs.0) (tokens n κs.1 qs.1)) (push 𝓛 (‵ (flft κs.0 qs.0)) (Tokens n κs.1 qs.1))

  -- what is said of a parameter's last value, where anything is
  abbrev pub End : {D : Type 0} (e : Exit D) (x : D) → Last e x → List (Item 𝓤) → List (Item 𝓤)
  End unchanged x w Γ = Γ
  End (leaves L l S s r₀) x w Γ = ‵ (l x w) ∷ Γ

  abbrev pub Ends : {n : ℕ} (κs : Lfts n) (ss : List (Slot n)) (ks : Kepts ss) (a : Denots (types_at ss κs)) → Fins κs ss ks a → List (Item 𝓤)
  Ends κs [] ks a ws = []
  Ends κs (s ∷ ss) ks a ws = End ((s.row κs).exit ks.0) a.0 ws.0 (Ends κs ss ks.1 a.1 ws.1)

  end : {D : Type 0} (e : Exit D) (x : D) (w : Last e x) (Γ : List (Item 𝓤)) → ent 𝓤 (sep 𝓤 (sem 𝓛 (left e x w)) (⋆ 𝓛 Γ)) (⋆ 𝓛 (End e x w Γ))
  end unchanged x w Γ = snd∗ 𝓤 (emp 𝓤) (⋆ 𝓛 Γ)
  end (leaves L l S s r₀) x w Γ = push 𝓛 (‵ (l x w)) Γ

  ends : {n : ℕ} (κs : Lfts n) (ss : List (Slot n)) (ks : Kepts ss) (a : Denots (types_at ss κs)) (ws : Fins κs ss ks a) → ent 𝓤 (sem 𝓛 (lasts_of κs ss ks a ws)) (⋆ 𝓛 (Ends κs ss ks a ws))
  ends κs [] ks a ws = id⊢ 𝓤 (emp 𝓤)
  ends κs (s ∷ ss) ks a ws = let F = sem 𝓛 (left ((s.row κs).exit ks.0) a.0 ws.0) in
      via 𝓤 (sep 𝓤 F (⋆ 𝓛 (Ends κs ss ks.1 a.1 ws.1))) (mono_r 𝓤 F (ends κs ss ks.1 a.1 ws.1)) (end ((s.row κs).exit ks.0) a.0 ws.0 (Ends κs ss ks.1 a.1 ws.1))

  both : (T : Ended) (κs : Lfts T.signature.lifetimes) (qs : Shares T.signature.lifetimes) (a : Args T.signature κs) (ls : Lasts T κs a)
      → ent 𝓤 (sep 𝓤 (sem 𝓛 (lasts T κs a ls)) (alive 𝓛 T.signature κs qs)) (⋆ 𝓛 (Ends κs T.signature.params T.kept a ls ++ Tokens T.signature.lifetimes κs qs))
  both T κs qs a ls = let Δ : List (Item 𝓤) = Ends κs T.signature.params T.kept a ls in let Δ' : List (Item 𝓤) = Tokens T.signature.lifetimes κs qs in
      via 𝓤 (sep 𝓤 (⋆ 𝓛 Δ) (⋆ 𝓛 Δ')) (mono∗ 𝓤 (ends κs T.signature.params T.kept a ls) (tokens T.signature.lifetimes κs qs)) (++⊢ 𝓛 Δ Δ')

module _ {M : Type 1} {𝓤 : Ura M} {𝓛 : Logic 𝓤} {K : Type 0} {Γ : List (Item 𝓤)} {E : Env 𝓤 𝓛.H} {C : Calls 𝓤 𝓛.H} {Λ : Loops 𝓤 𝓛.H} {q : Post 𝓤 𝓛.H} {d : Place} {rest : Body} {f : Callee} {xs : List Operand} where
  open 𝓛 use {H}

  pub calls-ensured : K → FmC 𝓤 H 𝓛.laws C → (S : Signature) (s : Spec 𝓤 S) → Triple 𝓤 (C f) (triple_of 𝓛 S s) → (y : (triple_of 𝓛 S s).Ghost) {i : Item 𝓤} → ent 𝓤 (mean 𝓛 i) ((triple_of 𝓛 S s).pre y)
      → (val : Res S y.0.0 → Val) → Tells (type_at S.result y.0.0) (Is (type_at S.result y.0.0)) (λ r. val r ∷ [])
      → Opds K 𝓛 (raw ((triple_of 𝓛 S s).pre y) ∷ Γ) E xs ((triple_of 𝓛 S s).args y)
      → ((r : Res S y.0.0) → Is (type_at S.result y.0.0) r (val r ∷ []) → Seq K 𝓛 (raw (alive 𝓛 S y.0.0 y.0.1) ∷ raw ((s y.0.0 y.0.3).ensures y.1 r) ∷ Γ) (lands C Λ E d (val r) rest q))
      → Seq K 𝓛 (i ∷ Γ) (runs C Λ E (seq (call f xs d) rest) q)
  calls-ensured t fm S s met y asks val tl os k =
      use1 𝓛 _ asks $ calls_at t fm _ met y os (λ u.
      use1 𝓛 _ (id⊢ 𝓤 _) $
      await t tt $ pick t (λ r. split t $ split t $ move t (1 ∷ []) $
      facts t (type_at S.result y.0.0) (Is (type_at S.result y.0.0)) (shows 𝓛 (type_at S.result y.0.0)) r (u ∷ []) (λ is.
      subst (λ (v : Val). Seq K 𝓛 (raw (alive 𝓛 S y.0.0 y.0.1) ∷ raw ((s y.0.0 y.0.3).ensures y.1 r) ∷ Γ) (lands C Λ E d v rest q)) (sym (ap only (tl r (u ∷ []) is)))
      (k r (subst (Is (type_at S.result y.0.0) r) (tl r (u ∷ []) is) is)))))

  pub calls-ended : K → FmC 𝓤 H 𝓛.laws C → (T : Ended) (c : Clauses 𝓤 T) → Triple 𝓤 (C f) (triple_of 𝓛 T.signature (closing 𝓛 T c)) → (y : (triple_of 𝓛 T.signature (closing 𝓛 T c)).Ghost)
      → {i : Item 𝓤} → ent 𝓤 (mean 𝓛 i) ((triple_of 𝓛 T.signature (closing 𝓛 T c)).pre y) → (Q : Res T.signature y.0.0 → Lasts T y.0.0 y.0.3 → Type 0)
      → ((r : Res T.signature y.0.0) (ls : Lasts T y.0.0 y.0.3) → ent 𝓤 ((c y.0.0 y.0.3).ensures y.1 r (at_exit T y.0.0 y.0.3 ls)) (fact 𝓤 (Q r ls)))
      → (val : Res T.signature y.0.0 → Val) → Tells (type_at T.signature.result y.0.0) (Is (type_at T.signature.result y.0.0)) (λ r. val r ∷ [])
      → Opds K 𝓛 (raw ((triple_of 𝓛 T.signature (closing 𝓛 T c)).pre y) ∷ Γ) E xs ((triple_of 𝓛 T.signature (closing 𝓛 T c)).args y)
      → ((r : Res T.signature y.0.0) (ls : Lasts T y.0.0 y.0.3) → Q r ls → Is (type_at T.signature.result y.0.0) r (val r ∷ [])
      → Seq K 𝓛 ((Ends 𝓛 y.0.0 T.signature.params T.kept y.0.3 ls ++ Tokens 𝓛 T.signature.lifetimes y.0.0 y.0.1) ++ Γ) (lands C Λ E d (val r) rest q))
      → Seq K 𝓛 (i ∷ Γ) (runs C Λ E (seq (call f xs d) rest) q)
  calls-ended t fm T c met y asks Q says val tl os k =
      calls-ensured t fm T.signature (closing 𝓛 T c) met y asks val tl os (λ r is.
      move t (1 ∷ []) $ use1 𝓛 (some (λ (ls : Lasts T y.0.0 y.0.3). ‵ (lasts T y.0.0 y.0.3 ls) ⊛ raw _)) (id⊢ 𝓤 _) $
      pick t (λ ls. split t $ move t (1 ∷ []) $ use1 𝓛 _ (says r ls) $ heard t (Q r ls) (λ said.
      cut (‵ (lasts T y.0.0 y.0.3 ls) ∷ raw _ ∷ []) (Ends 𝓛 y.0.0 T.signature.params T.kept y.0.3 ls ++ Tokens 𝓛 T.signature.lifetimes y.0.0 y.0.1) Γ
      (both 𝓛 T y.0.0 y.0.1 y.0.3 ls) $ k r ls said is)))
