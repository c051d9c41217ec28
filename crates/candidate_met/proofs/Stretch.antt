-- The stretch of runs that a range meets, from what the steps of `met_span` find.
use Rattle.meaning_numbers.proofs.Prelude.{◌≡◌, refl, List, ℕ, ◌-◌, ℤ, length, get_or}
use Rattle.meaning_rows.specs.declared.Row.{Row}
use Rattle.rows_records.specs.Records.{zero_row}
use Rattle.rows_find.specs.Search.{Found}
use Rattle.candidate_met.specs.{declared.Span.Span, Met.span_of, Met.met_span}
use Rattle.candidate_met.proofs.Above.{found-above}

pub met-is : (rows : List Row) {low high : ℤ} {a b k : ℕ} {none first end edge : Row} {t : Span} → Found rows (length rows) low a → Found rows (length rows) high b → none ≡ zero_row
    → first ≡ get_or rows a none → k ≡ b - 1 → end ≡ get_or rows k none → edge ≡ get_or rows b none → t ≡ span_of (length rows) a b first end edge high → t ≡ met_span rows low high
unfolding met_span
met-is rows {low} {high} {a} {b} fa fb z f p e g t = rw (t, f, e, g, p, z, found-above rows low a fa, found-above rows high b fb) refl
