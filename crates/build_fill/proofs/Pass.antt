-- Laws of specs/Pass.
use Rattle.meaning_numbers.proofs.Prelude.{◌≡◌, sym, ap, ◌∙◌, subst, Bool, true, false, List, ℕ, ◌+◌, ◌-◌, ◌<◌, ◌≤◌, arith, dec_lt, ℤ, get_or, set, ◌≤ℤ◌, ◌<ℤ◌, zarith}
use Rattle.meaning_curves.specs.Curve.{window_sum}
use Rattle.meaning_rows.specs.{declared.Row.Row, Range.inside, Runs.run_count}
use Rattle.meaning_rows.proofs.{Range.is-inside, Range.inside-below, Range.inside-above, Cursors.file_right}
use Rattle.rows_records.specs.Records.{zero_row}
use Rattle.sums_slide.specs.{declared.Window.Window, Levels.windows_of, Change.Change}
use Rattle.build_parts.specs.Part.{written}
use Rattle.build_parts.specs.Filling.{part_start, Filling, RunOf}
use Rattle.build_parts.proofs.FillingLaws.{parts-laid, some_left, cursor-is, filling-run}
use Rattle.rows_find.specs.Search.{Climbs, Reached, FoundRow}
use Rattle.build_fill.specs.{Turn.At, Turn.TurnAsked, Turn.Turned, Pass.Rowed, Pass.Passable, Pass.PassMade}
use Rattle.build_fill.proofs.Turn.{change-held}
pub use Rattle.build_parts.proofs.Lent.{lent_from, back_at, lent_is, back-same, back-set}

module _ {P : ℕ → ℕ → Bool} {sum : ℕ → ℤ} {from windows : ℕ} {rows : List Row} {n : ℕ} (h : Rowed P sum from windows rows n) where
  pub rowed-climbs : Climbs rows n
  rowed-climbs = record {
    within = h.within;
    up = λ i j a b. elim (dec_lt i j) [
      | yes l ↦ let p : (get_or rows i zero_row).up ≤ℤ (get_or rows j zero_row).low = h.apart i j l b in let q : (get_or rows j zero_row).low ≤ℤ (get_or rows j zero_row).up = (h.small j b).order in omega zarith
      | no f ↦ let e : i ≡ j = omega arith in rw e (omega zarith)
    ];
  }

  module _ (j : ℕ) (a : from ≤ j) (b : j < windows) where
    pub rowed-reached : Reached rows n (sum j)
    rowed-reached =
        let o = h.home j a b in
        record { at = o.at; below = o.below; above = (is-inside (get_or rows o.at zero_row).low _ (sum j) (sym (h.holds o.at j o.below a b) ∙ o.is)).1 }

    module _ {r : Row} (f : FoundRow rows n (sum j) r) where
      abbrev k : ℕ
      k = f.place

      -- the row that is found is the window's
      found-home : k ≡ (h.home j a b).at
      found-home =
          let o = h.home j a b in
          let i = o.at in
          let in-i = is-inside _ _ (sum j) (sym (h.holds i j o.below a b) ∙ o.is) in
          elim (dec_lt i k) [
            | yes l ↦ let p = f.found.before i l in absurd (omega zarith)
            | no x ↦ elim (dec_lt k i) [
              | yes l ↦ let p : (get_or rows k zero_row).up ≤ℤ (get_or rows i zero_row).low = h.apart k i l o.below in
                  let q : sum j <ℤ (get_or rows k zero_row).up = f.found.at f.below in absurd (omega (zarith, in-i.0))
              | no y ↦ omega arith
            ]
          ]

      pub found-is : P k j ≡ true
      found-is = ap (λ x. P x j) found-home ∙ (h.home j a b).is

      pub found-holds : inside r.low r.up (sum j) ≡ true
      found-holds = rw f.is (sym (h.holds k j f.below a b) ∙ found-is)

  -- a window stands in one row
  pub rowed-once : (i k j : ℕ) → i < n → k < n → from ≤ j → j < windows → P i j ≡ true → (k ≡ i → ⊥) → P k j ≡ false
  rowed-once i k j l m a b t f =
      let low : ℕ → ℤ = λ x. (get_or rows x zero_row).low in
      let top : ℕ → ℤ = λ x. (get_or rows x zero_row).up in
      let in-i = is-inside (low i) (top i) (sum j) (sym (h.holds i j l a b) ∙ t) in
      h.holds k j m a b ∙ elim (dec_lt i k) [
        | yes x ↦ let p = h.apart i k x m in inside-below (low k) (top k) (sum j) (omega zarith)
        | no x ↦ let y : k < i = elim (dec_lt k i) [ yes z ↦ z | no z ↦ absurd (f (omega arith)) ] in
            let p : top k ≤ℤ low i = h.apart k i y l in inside-above (low k) (top k) (sum j) (omega (zarith, in-i.0))
      ]

-- where a turn begins
pub record Going (P : ℕ → ℕ → Bool) (s : List ℤ) (w e : ℕ) (from : Window) (n : ℕ) (left₀ right₀ : List ℕ) (at : Window) (left right : List ℕ) : Type 0 where
  pub place : At s w e at
  pub after : from.offset ≤ at.offset
  pub filling : Filling n (windows_of s w) P left₀ right₀ at.offset left right

module _ {P : ℕ → ℕ → Bool} {s : List ℤ} {w e : ℕ} {from : Window} {rows : List Row} {n : ℕ} {left₀ right₀ : List ℕ} (h : Passable P s w e from rows n left₀ right₀) where
  abbrev W : ℕ
  W = windows_of s w

  pub going-starts : Going P s w e from n left₀ right₀ from left₀ right₀
  going-starts = record { place = h.place; after = omega arith; filling = h.filling }

  pub going-ends : (at : Window) (left right : List ℕ) → Going P s w e from n left₀ right₀ at left right → W ≤ at.offset → PassMade P s w n left₀ right₀ left right
  going-ends at left right g l = let e : at.offset ≡ W = omega (arith, g.place.below) in subst (λ (j : ℕ). Filling n W P left₀ right₀ j left right) e g.filling

  module _ (at : Window) (left right : List ℕ) (g : Going P s w e from n left₀ right₀ at left right) (less : at.offset < W) {r : Row} (f : FoundRow rows n (window_sum s w at.offset) r) where
    abbrev i : ℕ
    i = f.place

    abbrev j : ℕ
    j = at.offset

    first-is : r.first ≡ part_start n W P i
    first-is = ap (λ x. x.first) f.is ∙ h.rowed.first i f.below

    runs-is : r.runs ≡ run_count (P i) W
    runs-is = ap (λ x. x.runs) f.is ∙ h.rowed.runs i f.below

    -- a run of the row's windows
    run_of : (t : ℕ) → Change (λ x. inside r.low r.up (window_sum s w x)) j W t → RunOf n W P left₀ right₀ i j t
    run_of t c =
        let is : (x : ℕ) → j ≤ x → x < W → P i x ≡ inside r.low r.up (window_sum s w x) = λ x a b. h.rowed.holds i x f.below (omega arith) b ∙ rw (sym f.is) in
        let mine : (x : ℕ) → j ≤ x → x < t → P i x ≡ true = λ x a b. is x a (omega arith) ∙ c.same x b a in
        record {
          row = f.below;
          ahead = change-held less (found-holds h.rowed j g.after less f) c;
          below = c.below;
          mine = mine;
          others = λ x k a b m q. rowed-once h.rowed i k x f.below m (omega arith) (omega arith) (mine x a b) q;
          stops = λ l. is t c.above l ∙ c.other l;
        }

    is-mine : P i j ≡ true
    is-mine = found-is h.rowed j g.after less f

    written_is : written r right ≡ run_count (P i) j
    written_is =
        let e : r.first + r.runs - 1 ≡ part_start n W P i + run_count (P i) W - 1 = omega (arith, first-is, runs-is) in
        ap (λ x. get_or right x 0) e ∙ cursor-is n W P left₀ right₀ f.below less is-mine g.filling

    pub going-asks : TurnAsked s w e at r left right
    going-asks =
        let room = (parts-laid n W P).room i f.below in
        record {
          place = g.place;
          below = less;
          held = found-holds h.rowed j g.after less f;
          small = rw f.is (h.rowed.small i f.below);
          room = record {
            in_left = omega (arith, first-is, runs-is, room, g.filling.in_left);
            in_right = omega (arith, first-is, runs-is, room, g.filling.in_right);
            more = omega (arith, written_is, runs-is, some_left n W P left₀ right₀ f.below less is-mine g.filling);
          };
        }

    pub going-nears : {t : Window} {left' right' : List ℕ} → Turned s w e j r left right t left' right' → j < t.offset
    going-nears v = change-held less (found-holds h.rowed j g.after less f) v.change

    pub going_next : {t : Window} {left' right' : List ℕ} → Turned s w e j r left right t left' right' → Going P s w e from n left₀ right₀ t left' right'
    going_next {t} {left'} {right'} v =
        let o = run_of t.offset v.change in
        let b : r.first + written r right ≡ part_start n W P i + run_count (P i) j = omega (arith, first-is, written_is) in
        let l = v.left_is ∙ ap (λ x. set left x j) b in
        let m = v.right_is ∙ (λ k. file_right right (first-is k) (runs-is k) (written_is k) (t.offset - 1)) in
        record {
          place = record { lent = g.place.lent; below = v.change.below; sum = v.sum };
          after = omega arith;
          filling = rw (l, m) (filling-run n W P left₀ right₀ o left right g.filling);
        }
