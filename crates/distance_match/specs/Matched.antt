-- What a match test answers, by the meaning: the distance of a stretch that matches (`matched`).
use Rattle.std.specs.Prelude.{ℕ, ℤ}
use Rattle.std.specs.declared.option.Option.{Option}
use Rattle.meaning_filter.specs.{declared.Kind.Kind, declared.Limits.Limits, Matches.matches, Matches.distance_to}
use Rattle.distance_within.specs.Answer.{answer}

-- whether the stretch s matches the query q, both of m values, and its distance
unfoldable pub matched : Kind → (s q : ℕ → ℤ) → ℕ → Limits → Option ℕ
matched kind s q m l = answer (matches kind s q m l) (distance_to kind s q m l)
