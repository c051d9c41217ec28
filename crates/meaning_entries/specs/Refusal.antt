-- The conditions under which a call is refused (01, 'Refused for the input', 'Refused for the state'), each with its number and the place that it gives.
-- An entry's table is a list of them in the order of their numbers (`order`), and the call is refused by the first that applies.
use Rattle.std.specs.Prelude.{ℕ, ◌+◌, eqb, ltb, ℤ, pos, ◌+ℤ◌, ◌-ℤ◌, length, Bool, true, false, not, cond, ◌||◌, List, [], ◌∷◌}
use Rattle.std.specs.Int.Signed.{lt_z}
use Rattle.std.specs.declared.option.Option.{Option}
use Rattle.std.specs.Prelude.{None, Some}
use Rattle.meaning_curves.specs.Limits.{length_in, window_in, width_in, merge_in, query_length_in, band_in, threshold_in, scale_in, shift_in, closest_in, first_outside}
use Rattle.meaning_curves.specs.{Curve.at, Normal.flat}
use Rattle.meaning_rows.specs.{Index.Index, Judge.first_bad_row}
use Rattle.meaning_filter.specs.{declared.Kind.Kind, declared.Kind.TheVariants.Raw, declared.Kind.TheVariants.Normal, declared.Pick.Pick}
use Rattle.meaning_text.specs.{Form.Form, Read.fine, Read.unfit, Read.read_text, Read.line_of}

-- a line of a table: its number, and the first place at which it applies, if it does
pub record Condition : Type 0 where
  pub number : ℕ
  pub place : Option ℕ

-- the first line that applies: its number and place
unfoldable pub first_refusal : List Condition → Option (ℕ × ℕ)
first_refusal [] = None
first_refusal (c ∷ l) = elim c.place [ Some p ↦ Some (c.number, p) | None ↦ first_refusal l ]

-- the order in which the numbers are judged: texts are read first, then the lowest number wins; but 30 comes directly after 10 (02, item 2)
unfoldable pub order : List ℕ
order = 12 ∷ 1 ∷ 2 ∷ 3 ∷ 4 ∷ 5 ∷ 6 ∷ 7 ∷ 8 ∷ 9 ∷ 10 ∷ 30 ∷ 11 ∷ 20 ∷ 21 ∷ 22 ∷ 23 ∷ 24 ∷ []

-- the numbers of a table stand in an order: none is missing from it, and they never go back (law of every table: proofs/Tables)
unfoldable pub follows : List ℕ → List Condition → Bool
follows o [] = true
follows [] (c ∷ l) = false
follows (n ∷ o) (c ∷ l) = cond (eqb n c.number) (follows (n ∷ o) l) (follows o (c ∷ l))

-- a condition with a place of its own
abbrev pub at_place : ℕ → Option ℕ → Condition
at_place n p = record { number = n; place = p }

-- a condition whose place is 0
abbrev pub at_zero : ℕ → Bool → Condition
at_zero n t = record { number = n; place = cond t (Some 0) None }

-- 1: n outside its limit
unfoldable pub length_outside : ℕ → ℕ → Condition
length_outside most n = at_zero 1 (not (length_in most n))

-- 2: value outside; its place
unfoldable pub value_outside : List ℤ → Condition
value_outside s = at_place 2 (first_outside s)

-- 3: w outside, or above n
unfoldable pub window_outside : ℤ → ℕ → Condition
window_outside w n = at_zero 3 (not (window_in w) || lt_z (pos n) w)

-- 4: d outside
unfoldable pub width_outside : ℤ → Condition
width_outside d = at_zero 4 (not (width_in d))

-- 5: g outside
unfoldable pub merge_outside : ℤ → Condition
merge_outside g = at_zero 5 (not (merge_in g))

-- 6: m outside, or above n
unfoldable pub query_length_outside : ℕ → ℕ → Condition
query_length_outside m n = at_zero 6 (not (query_length_in m) || ltb n m)

-- 7: m below w
unfoldable pub query_below_window : ℕ → ℤ → Condition
query_below_window m w = at_zero 7 (lt_z (pos m) w)

-- 8: b outside
unfoldable pub band_outside : ℕ → ℤ → Condition
band_outside m b = at_zero 8 (not (band_in m b))

-- 9: E outside
unfoldable pub threshold_outside : ℤ → Condition
threshold_outside E = at_zero 9 (not (threshold_in E))

-- 10: a or h outside
unfoldable pub scale_or_shift_outside : ℤ → ℤ → Condition
scale_or_shift_outside a h = at_zero 10 (not (scale_in a) || not (shift_in h))

-- the closest few are asked for, and k is outside its limits
unfoldable pub pick_outside : Pick → Bool
pick_outside Pick.All = false
pick_outside (Pick.Closest k) = not (closest_in (pos k))

-- 30: k outside
unfoldable pub count_outside : Pick → Condition
count_outside p = at_zero 30 (pick_outside p)

-- a normalised query that is flat; a raw one may be
unfoldable pub normal_flat : Kind → List ℤ → Bool
normal_flat Raw q = false
normal_flat Normal q = flat (at q) (length q)

-- 11: normalised query flat
unfoldable pub flat_query : Kind → List ℤ → Condition
flat_query kind q = at_zero 11 (normal_flat kind q)

-- the first bad line of a text that is not in the form, after `before` lines
unfoldable pub bad_line : Form → ℕ → List ℕ → Option ℕ
bad_line f before t = elim (read_text f t) [ fine v ↦ None | unfit p ↦ Some (before + line_of t p) ]

-- 12: a text that cannot be read; first bad line
unfoldable pub unreadable : Form → ℕ → List ℕ → Condition
unreadable f before t = at_place 12 (bad_line f before t)

-- 20: index not well formed; first bad row, 0 for the head
unfoldable pub ill_formed : Index → Condition
ill_formed x = at_place 20 (first_bad_row x)

-- how many windows a series of n values has at the index's window length; below 1 where w is above n
abbrev pub windows_of : Index → ℕ → ℤ
windows_of x n = pos n -ℤ x.window +ℤ pos 1

-- 21: fewer windows than the series
unfoldable pub fewer_windows : Index → ℕ → Condition
fewer_windows x n = at_zero 21 (lt_z x.windows (windows_of x n))

-- 22: more windows than the series
unfoldable pub more_windows : Index → ℕ → Condition
more_windows x n = at_zero 22 (lt_z (windows_of x n) x.windows)

-- 23: a buffer too short, one that holds `room` entries where `needed` are
unfoldable pub buffer_short : ℕ → ℕ → Condition
buffer_short room needed = at_zero 23 (ltb room needed)

-- 24: more matches than the list holds, one that holds `room` entries where `found` are
unfoldable pub list_short : ℕ → ℕ → Condition
list_short room found = at_zero 24 (ltb room found)

-- ---- lines that several tables have

-- 1 and 2: a series, of at most so many values
abbrev pub series_lines : ℕ → List ℤ → List Condition
series_lines most s = length_outside most (length s) ∷ value_outside s ∷ []

-- 21 and 22, of both audits: the index's windows, for a series of n values
abbrev pub count_lines : ℕ → Index → List Condition
count_lines n x = fewer_windows x n ∷ more_windows x n ∷ []

-- 23: two buffers
abbrev pub room_lines : ℕ → ℕ → ℕ → ℕ → List Condition
room_lines one needed other wanted = buffer_short one needed ∷ buffer_short other wanted ∷ []
