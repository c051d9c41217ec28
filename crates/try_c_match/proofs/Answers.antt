-- A place told by a number, and the kind of a query.
use Rattle.meaning_numbers.proofs.Prelude.{◌≡◌, refl, sym, subst, ◌∙◌, Bool, true, false, Option, None, Some, ℕ, zero, suc, T}
use Rattle.meaning_filter.specs.{declared.Kind.Kind, declared.Kind.TheVariants.Raw, declared.Kind.TheVariants.Normal}
use Rattle.std.specs.Option.{unwrap_or}
use Rattle.try_c_match.specs.Told.{place_or, kind_of}

pub place-is : (n : ℕ) (o : Option ℕ) → unwrap_or o n ≡ place_or n o
place-is n None = refl
place-is n (Some p) = refl

abbrev raw : Kind → Bool
raw Raw = true
raw Normal = false

pub raw-normal : {kind : Kind} → kind ≡ Raw → kind ≡ Normal → ⊥
raw-normal e f = subst (λ (k : Kind). T (raw k)) (sym e ∙ f) tt

pub kind-normal : (n : ℕ) → (n ≡ 0 → ⊥) → Normal ≡ kind_of n
kind-normal zero f = absurd (f refl)
kind-normal (suc n) f = refl
