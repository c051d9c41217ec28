-- What is known where a line of a table does not apply; and back, for lines that several tables have.
use Rattle.meaning_numbers.specs.Order.{within}
use Rattle.meaning_numbers.proofs.Between.{Between, within-yes}
use Rattle.meaning_numbers.proofs.Prelude.{◌≡◌, refl, ap, Bool, false, not, ◌||◌, List, None, ℕ, ◌≤◌, T, ltb, nltb→le, ℤ, pos, ◌-ℤ◌, length, lt_z, lt_z_no, ◌≤ℤ◌, le-ltb, le-lt_z, is_true, is_false, not-not, neither}
use Rattle.meaning_curves.specs.Limits.{length_in, window_in, width_in, merge_in, query_length_in, band_in, threshold_in, scale_in, shift_in, first_outside}
use Rattle.meaning_curves.proofs.Values.{AllIn, none-outside}
use Rattle.meaning_rows.specs.Index.{Index}
use Rattle.meaning_rows.proofs.Judge.{between, WellFormed, well-formed}
use Rattle.meaning_filter.specs.declared.Kind.{Kind}
use Rattle.meaning_entries.specs.Refusal.{at_zero, length_outside, value_outside, window_outside, width_outside, merge_outside, query_length_outside, query_below_window, band_outside, threshold_outside, scale_or_shift_outside, normal_flat, flat_query, ill_formed, windows_of, fewer_windows, more_windows, buffer_short, series_lines, count_lines, room_lines}
use Rattle.meaning_entries.proofs.Refused.{AllPass, end, more, not-if}
pub use Rattle.meaning_rows.proofs.Judge.{Natural}

-- limits that are not passed
inside : (low high : ℕ) (z : ℤ) → T (not (not (within (pos low) (pos high) z))) → Natural low high z
inside low high z t = between low high z (is_true _ (not-not (within _ _ z) t))

pub long-line : (most n : ℕ) → (length_outside most n).place ≡ None → Natural 1 most (pos n)
unfolding length_outside
long-line most n e = inside 1 most (pos n) (not-if 1 (not (length_in most n)) e)

pub values-line : (s : List ℤ) → (value_outside s).place ≡ None → AllIn s
unfolding value_outside
values-line s e = none-outside s e

pub window-line : (w : ℤ) (n : ℕ) → (window_outside w n).place ≡ None → Natural 1 256 w × (w ≤ℤ pos n)
unfolding window_outside
window-line w n e = let t = neither (not (window_in w)) (lt_z (pos n) w) (not-if 3 (not (window_in w) || lt_z (pos n) w) e) in (inside 1 256 w t.0, lt_z_no t.1)

pub width-line : (d : ℤ) → (width_outside d).place ≡ None → Natural 1 1000000 d
unfolding width_outside
width-line d e = inside 1 1000000 d (not-if 4 (not (width_in d)) e)

pub merge-line : (g : ℤ) → (merge_outside g).place ≡ None → Natural 0 100 g
unfolding merge_outside
merge-line g e = inside 0 100 g (not-if 5 (not (merge_in g)) e)

pub query-line : (m n : ℕ) → (query_length_outside m n).place ≡ None → Natural 1 1024 (pos m) × (m ≤ n)
unfolding query_length_outside
query-line m n e =
    let t = neither (not (query_length_in m)) (ltb n m) (not-if 6 (not (query_length_in m) || ltb n m) e) in
    (inside 1 1024 (pos m) t.0, nltb→le n m t.1)

pub below-line : (m : ℕ) (w : ℤ) → (query_below_window m w).place ≡ None → w ≤ℤ pos m
unfolding query_below_window
below-line m w e = lt_z_no (not-if 7 (lt_z (pos m) w) e)

pub band-line : (m : ℕ) (b : ℤ) → (band_outside m b).place ≡ None → Between (pos 0) b (pos m -ℤ pos 1)
unfolding band_outside
band-line m b e = within-yes (pos 0) _ b (not-not (band_in m b) (not-if 8 (not (band_in m b)) e))

pub threshold-line : (E : ℤ) → (threshold_outside E).place ≡ None → Natural 0 1000000000000 E
unfolding threshold_outside
threshold-line E e = inside 0 1000000000000 E (not-if 9 (not (threshold_in E)) e)

pub scale-line : (a h : ℤ) → (scale_or_shift_outside a h).place ≡ None → Natural 10 100 a × Natural 0 20000 h
unfolding scale_or_shift_outside
scale-line a h e = let t = neither (not (scale_in a)) (not (shift_in h)) (not-if 10 (not (scale_in a) || not (shift_in h)) e) in (inside 10 100 a t.0, inside 0 20000 h t.1)

pub flat_line : (kind : Kind) (q : List ℤ) → (flat_query kind q).place ≡ None → normal_flat kind q ≡ false
unfolding flat_query
flat_line kind q e = is_false _ (not-if 11 (normal_flat kind q) e)

pub formed-line : (x : Index) → (ill_formed x).place ≡ None → WellFormed x
unfolding ill_formed
formed-line x e = well-formed x e

pub fewer-line : (x : Index) (n : ℕ) → (fewer_windows x n).place ≡ None → windows_of x n ≤ℤ x.windows
unfolding fewer_windows
fewer-line x n e = lt_z_no (not-if 21 (lt_z x.windows _) e)

pub more-line : (x : Index) (n : ℕ) → (more_windows x n).place ≡ None → x.windows ≤ℤ windows_of x n
unfolding more_windows
more-line x n e = lt_z_no (not-if 22 (lt_z (windows_of x n) x.windows) e)

pub room-line : (room needed : ℕ) → (buffer_short room needed).place ≡ None → needed ≤ room
unfolding buffer_short
room-line room needed e = nltb→le room needed (not-if 23 (ltb room needed) e)

-- ---- and back, of the lines that several tables have

not-applies : (n : ℕ) (t : Bool) → t ≡ false → (at_zero n t).place ≡ None
not-applies n t e = rw e refl

pub series-passes : (most : ℕ) (s : List ℤ) → T (length_in most (length s)) → first_outside s ≡ None → AllPass (series_lines most s)
unfolding length_outside value_outside
series-passes most s t e = more (not-applies 1 _ (ap not (is_true (length_in most _) t))) (more e end)

pub more-passes : (x : Index) (n : ℕ) → x.windows ≤ℤ windows_of x n → (more_windows x n).place ≡ None
unfolding more_windows
more-passes x n h = not-applies 22 _ (le-lt_z h)

pub count-passes : (n : ℕ) (x : Index) → windows_of x n ≤ℤ x.windows → x.windows ≤ℤ windows_of x n → AllPass (count_lines n x)
unfolding fewer_windows
count-passes n x h k = more (not-applies 21 _ (le-lt_z h)) (more (more-passes x n k) end)

pub room-passes : {one needed other wanted : ℕ} → needed ≤ one → wanted ≤ other → AllPass (room_lines one needed other wanted)
unfolding buffer_short
room-passes {one} {needed} {other} {wanted} h k = more (not-applies 23 _ (le-ltb one needed h)) (more (not-applies 23 _ (le-ltb other wanted k)) end)
