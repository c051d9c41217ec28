-- Every match is a candidate, in an index that files each window that it has in a row that holds its sum (`kept-candidate`). The sum of a part of the stretch is that of a window of the series, it lies in the part's range (`kept`), and so the row that holds it is met (`row-met`); a window at or past the index's count is met anyway.
-- An offset is a candidate unless a window below the count rules it out (`ruled_out`, `rules-out`).
use Rattle.meaning_numbers.specs.{Sum.Σℤ, Place.any, Place.numbers_from}
use Rattle.meaning_numbers.proofs.Prelude.{◌≡◌, refl, sym, ◌∙◌, subst, Bool, true, false, ◌&&◌, and-false, by-test, clash, List, [], ◌∷◌, map, ℕ, zero, suc, ◌+◌, ◌-◌, ◌*◌, ◌/◌, ◌<◌, ◌≤◌, arith, dec_le, div-mul-le_self, mul-le-mul_right, T, le-leb, lt-leb, ℤ, pos, nat_abs, length, get_or, ◌≤ℤ◌, ◌<ℤ◌, le_z, lt_z, le_z_yes, lt_z_yes, zarith, two-tests, both-tests, of-both}
use Rattle.meaning_numbers.proofs.{Sum.Σℤ-same, Member.any-weaken, Member.any-mem, Between.Between}
use Rattle.meaning_curves.specs.Curve.{at, stretch, window_sum}
use Rattle.meaning_rows.specs.{declared.Row.Row, Range.inside, Index.Index, Index.covered, Index.stands}
use Rattle.meaning_rows.proofs.{Audit.Filed, Sums.sum-of-part}
use Rattle.meaning_filter.specs.{Range.range_of, Range.ranges, Candidates.met, Candidates.stands_met, Candidates.admits, Candidates.candidate, Matches.Question, Matches.query_length, Matches.offset_count, Matches.matches_at, Matches.candidate_at}
use Rattle.meaning_filter.proofs.Kept.{kept}
unfoldable pub use Rattle.meaning_numbers.specs.Sum.{count}
pub use Rattle.meaning_numbers.proofs.Count.{count-cong}
pub use Rattle.meaning_numbers.proofs.Tests.{by-test}

-- window j stands in some row of the index that holds the sum z
abbrev pub filed_at : Index → ℤ → ℕ → Bool
filed_at x z j = any (λ r. inside r.low r.up z && stands x r j) x.rows

-- each window that the index has stands in a row that holds its sum: what the filter needs of an index
pub record Reached (x : Index) (s : List ℤ) : Type 0 where
  pub at : (j : ℕ) → j < nat_abs x.windows → T (filed_at x (window_sum s (nat_abs x.window) j) j)

-- an index whose windows are filed right in the part of the series that it covers is such an index
pub filed-reached : (x : Index) (s : List ℤ) → Filed x (covered x s) → Reached x s
filed-reached x s f = record {
  at = λ j h.
      let o = f.home j h in
      rw (← sum-of-part s (nat_abs x.windows + nat_abs x.window - 1) (nat_abs x.window) j (omega arith))
      (subst T (sym (any-mem (λ r. inside _ r.up (window_sum (covered x s) _ j) && stands x r j) o.is (of-both o.holds-it o.stands-there))) tt);
}

-- a row that holds a sum in the range is met
pub row-met : {lo z hi low up : ℤ} → Between lo z hi → low ≤ℤ z → z <ℤ up → (low ≤ℤ hi) × (lo <ℤ up)
row-met {lo} {z} {hi} {low} {up} b h k = (omega zarith, omega zarith)

met-holding : (range : ℤ × ℤ) (z : ℤ) (r : Row) → Between range.0 z range.1 → T (inside r.low r.up z) → T (met range r)
unfolding inside
met-holding range z r b t =
    let h = two-tests (le_z r.low z) (lt_z z r.up) t in
    let m = row-met b (le_z_yes {a = r.low} h.0) (lt_z_yes h.1) in
    both-tests (le_z r.low range.1) (lt_z range.0 r.up) m.0.le m.1.lt

filed-met : (x : Index) (range : ℤ × ℤ) (z : ℤ) (j : ℕ) → Between range.0 z range.1 → T (filed_at x z j) → T (stands_met x range j)
filed-met x range z j b = any-weaken (λ r. inside _ r.up z && stands x r j) (λ r. met range r && stands x r j)
    (λ r t. let h = two-tests (inside _ r.up z) (stands x r j) t in both-tests (met range r) (stands x r j) (met-holding range z r b h.0) h.1)
    x.rows

-- a window at or past the count is admitted; one below it is exactly if it stands in a row that is met
pub past-admits : (x : Index) (range : ℤ × ℤ) (j : ℕ) → nat_abs x.windows ≤ j → admits x range j ≡ true
past-admits x range j h = rw (le-leb _ j h)

pub below-admits : (x : Index) (range : ℤ × ℤ) (j : ℕ) → j < nat_abs x.windows → admits x range j ≡ stands_met x range j
below-admits x range j h = rw (lt-leb _ j h)

reached-admits : (x : Index) (s : List ℤ) (range : ℤ × ℤ) (j : ℕ) → Reached x s → Between range.0 (window_sum s (nat_abs x.window) j) range.1 → T (admits x range j)
reached-admits x s range j filed b = elim (dec_le (nat_abs x.windows) j) [
  | yes l ↦ rw (past-admits x range j l) tt
  | no f ↦ let l : j < nat_abs x.windows = omega arith in rw (below-admits x range j l) (filed-met x range _ j b (filed.at j l))
]

-- ---- the parts, in order

-- a part whose window, below the index's count, stands in no row that the part's range meets
pub record RulesOut (x : Index) (ranges : List (ℤ × ℤ)) (j : ℕ) : Type 0 where
  pub part : ℕ
  pub asked : part < length ranges
  pub below : j + part * nat_abs x.window < nat_abs x.windows
  pub nowhere : stands_met x (get_or ranges part (pos 0, pos 0)) (j + part * nat_abs x.window) ≡ false

ruled-later : (x : Index) (range : ℤ × ℤ) (rest : List (ℤ × ℤ)) (j : ℕ) → RulesOut x rest (j + nat_abs x.window) → RulesOut x (range ∷ rest) j
ruled-later x range rest j r =
    let w = nat_abs x.window in
    let e : j + suc r.part * w ≡ j + w + r.part * w = omega arith in
    record { part = suc r.part; asked = omega (arith, r.asked); below = rw e r.below; nowhere = rw e r.nowhere }

-- 02, item 1: an offset is a candidate unless a window below the count rules it out
pub ruled_out : (x : Index) (ranges : List (ℤ × ℤ)) (j : ℕ) → candidate x ranges j ≡ false → RulesOut x ranges j
unfolding candidate
ruled_out x [] j e = clash refl e
ruled_out x (range ∷ rest) j e = by-test (admits x range j) (λ t. ruled-later x range rest j (ruled_out x rest _ (rw t at e)))
    (λ f. elim (dec_le (nat_abs x.windows) j) [
      | yes l ↦ clash (past-admits x range j l) f
      | no m ↦
          let b : j < nat_abs x.windows = omega arith in
          let here : j + 0 * nat_abs x.window ≡ j = omega arith in
          record { part = 0; asked = omega arith; below = rw here b; nowhere = rw here (sym (below-admits x range j b) ∙ f) }
    ])

ruled-at : (x : Index) (ranges : List (ℤ × ℤ)) (j part : ℕ) → part < length ranges → j + part * nat_abs x.window < nat_abs x.windows
    → stands_met x (get_or ranges part (pos 0, pos 0)) (j + part * nat_abs x.window) ≡ false → candidate x ranges j ≡ false
unfolding candidate
ruled-at x [] j part a b e = absurd (omega arith)
ruled-at x (range ∷ rest) j zero a b e =
    let here : j + 0 * nat_abs x.window ≡ j = omega arith in
    rw (below-admits x range j (rw here at b), rw here at e)
ruled-at x (range ∷ rest) j (suc part) a b e =
    let w = nat_abs x.window in
    let on : j + suc part * w ≡ j + w + part * w = omega arith in
    rw (ruled-at x rest (j + w) part (omega arith) (rw on at b) (rw on at e)) (and-false (admits x range j))

pub rules-out : (x : Index) (ranges : List (ℤ × ℤ)) (j : ℕ) → RulesOut x ranges j → candidate x ranges j ≡ false
rules-out x ranges j r = ruled-at x ranges j r.part r.asked r.below r.nowhere

-- n parts from part k on, part i at window j + i × w
all-admitted : (x : Index) (f : ℕ → ℤ × ℤ) (j k n : ℕ) → ((i : ℕ) → i < k + n → T (admits x (f i) (j + i * nat_abs x.window))) → T (candidate x (map f (numbers_from k n)) (j + k * nat_abs x.window))
unfolding candidate numbers_from
all-admitted x f j k zero h = tt
all-admitted x f j k (suc n) h =
    let w = nat_abs x.window in
    let e : j + k * w + w ≡ j + suc k * w = omega arith in
    both-tests (admits x (f k) _) _ (h k (omega arith))
    (rw e (all-admitted x f j (suc k) n (λ i l. h i (omega arith))))

part-fits : (m w i : ℕ) → i < m / w → i * w + w ≤ m
part-fits m w i h = omega (arith, div-mul-le_self m w, mul-le-mul_right w h)

-- the sum of the part at p of the stretch of offset j is that of window j + p
part-sum : (s : List ℤ) (j p w : ℕ) → Σℤ w (λ k. stretch s j (p + k)) ≡ window_sum s w (j + p)
unfolding window_sum
part-sum s j p w = Σℤ-same w (λ k. stretch s j (p + k)) _ (λ k l. let e : j + (p + k) ≡ j + p + k = omega arith in rw e)

pub kept-candidate : (x : Index) (z : Question) (j : ℕ) → Reached x z.series → 0 < query_length z → 0 < z.ask.limits.scale → j < offset_count z → T (matches_at z j) → T (candidate_at x z j)
unfolding candidate_at ranges
kept-candidate x z j filed long one there t =
    let w = nat_abs x.window in
    let m = query_length z in
    let s = z.series in
    let range = range_of z.ask.kind _ m _ w in
    let e : j + 0 * w ≡ j = omega arith in
    rw e at (all-admitted x range j 0 (m / w) (λ i l.
    let fits = part-fits m w i (omega arith) in
    reached-admits x s (range i) (j + i * w) filed
    (rw (part-sum s j (i * w) w) at (kept z.ask.kind (stretch s j) _ m _ w i long one fits t))))
