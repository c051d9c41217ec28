-- What a byte does to a number that has been read so far, and the value of a number that could end. The state is the magnitude: a 19th digit is one behind 10 ^ 17 or more.
use Rattle.std.specs.Prelude.{ℕ, suc, ◌+◌, ◌*◌, ◌-◌, ◌<◌, ◌^◌, ltb, eqb, ℤ, pos, neg_ℤ, Bool, false, cond, None, Some}
use Rattle.std.specs.declared.option.Option.{Option}
use Rattle.text_numbers.specs.declared.Numeral.TheVariants.{Start, Sign, Zero, Plus, Less}
use Rattle.text_numbers.specs.declared.Numeral.{Numeral}

-- b lies from lo to hi
abbrev pub within : ℕ → ℕ → ℕ → Bool
within lo hi b = cond (ltb b lo) false (ltb b (suc hi))

-- b is a digit that may stand behind the number m, which has at most 17 of them
abbrev pub fits_behind : ℕ → ℕ → Bool
fits_behind m b = cond (within 48 57 b) (ltb m 100000000000000000) false

-- a digit behind the number m
abbrev pub grown : (ℕ → Numeral) → ℕ → ℕ → Option Numeral
grown f m b = cond (fits_behind m b) (Some (f (10 * m + (b - 48)))) None

-- the first digit, not 0
abbrev pub first : (ℕ → Numeral) → ℕ → Option Numeral
first f b = cond (within 49 57 b) (Some (f (b - 48))) None

unfoldable pub num_step : Numeral → ℕ → Option Numeral
num_step Start b = cond (eqb b 45) (Some Sign) (cond (eqb b 48) (Some Zero) (first Plus b))
num_step Sign b = first Less b
num_step Zero b = None
num_step (Plus m) b = grown Plus m b
num_step (Less m) b = grown Less m b

unfoldable pub whole : Numeral → Option ℤ
whole Start = None
whole Sign = None
whole Zero = Some (pos 0)
whole (Plus m) = Some (pos m)
whole (Less m) = Some (neg_ℤ (pos m))

-- by what a byte did to a number, or by its value
abbrev pub by_option : {A B : Type 0} → Option A → (A → B) → B → B
by_option (Some a) f r = f a
by_option None f r = r

-- at most 18 digits
abbrev pub NumGood : Numeral → Type 0
NumGood Start = Unit {0}
NumGood Sign = Unit {0}
NumGood Zero = Unit {0}
NumGood (Plus m) = m < 10 ^ 18
NumGood (Less m) = m < 10 ^ 18
