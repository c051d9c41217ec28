-- The limits of document 01, 'The product' and 'Rows', and of document 02: what each quantity may be by itself. Those against n and w stand with their refusals (`Refusal`), that of 18 digits with numbers (`Number`).
use Rattle.std.specs.Prelude.{ℕ, ℤ, pos, negsuc, ◌-ℤ◌, Bool, not, List}
use Rattle.std.specs.declared.option.Option.{Option}
use Rattle.meaning_numbers.specs.{Order.within, Place.first_place}

-- the most values of a series, and so the most windows of an index
abbrev pub most_values : ℕ
most_values = 1048576

-- the most values of a series that the search program and the audit of two texts take
abbrev pub most_program_values : ℕ
most_program_values = 4096

-- series length n, from 1 to the most that the call takes
abbrev pub length_in : ℕ → ℕ → Bool
length_in most n = within (pos 1) (pos most) (pos n)

-- value: -10,000 to 10,000
abbrev pub least_value : ℤ
least_value = negsuc 9999

abbrev pub greatest_value : ℕ
greatest_value = 10000

abbrev pub value_in : ℤ → Bool
value_in x = within least_value (pos greatest_value) x

-- window length w: 1 to 256
abbrev pub longest_window : ℕ
longest_window = 256

abbrev pub window_in : ℤ → Bool
window_in w = within (pos 1) (pos longest_window) w

-- row width d, in sums: 1 to 1,000,000
abbrev pub widest_row : ℕ
widest_row = 1000000

abbrev pub width_in : ℤ → Bool
width_in d = within (pos 1) (pos widest_row) d

-- merge percentage g: 0 to 100
abbrev pub greatest_merge : ℕ
greatest_merge = 100

abbrev pub merge_in : ℤ → Bool
merge_in g = within (pos 0) (pos greatest_merge) g

-- query length m: 1 to 1,024
abbrev pub longest_query : ℕ
longest_query = 1024

abbrev pub query_length_in : ℕ → Bool
query_length_in m = within (pos 1) (pos longest_query) (pos m)

-- band b: 0 to m - 1
abbrev pub band_in : ℕ → ℤ → Bool
band_in m b = within (pos 0) (pos m -ℤ pos 1) b

-- threshold E: 0 to 10^12
abbrev pub greatest_threshold : ℕ
greatest_threshold = 1000000000000

abbrev pub threshold_in : ℤ → Bool
threshold_in E = within (pos 0) (pos greatest_threshold) E

-- scale limit a, in tenths: 10 to 100
abbrev pub least_scale : ℕ
least_scale = 10

abbrev pub greatest_scale : ℕ
greatest_scale = 100

abbrev pub scale_in : ℤ → Bool
scale_in a = within (pos least_scale) (pos greatest_scale) a

-- shift limit h: 0 to 20,000
abbrev pub greatest_shift : ℕ
greatest_shift = 20000

abbrev pub shift_in : ℤ → Bool
shift_in h = within (pos 0) (pos greatest_shift) h

-- the closest few, k (02, item 2): 1 to 64
abbrev pub most_closest : ℕ
most_closest = 64

abbrev pub closest_in : ℤ → Bool
closest_in k = within (pos 1) (pos most_closest) k

-- windows of an index: at least one, at most 1,048,576
abbrev pub windows_in : ℤ → Bool
windows_in W = within (pos 1) (pos most_values) W

-- ends of a range: inside -4,000,000 to 4,000,000
abbrev pub lowest_end : ℤ
lowest_end = negsuc 3999999

abbrev pub highest_end : ℕ
highest_end = 4000000

abbrev pub end_in : ℤ → Bool
end_in z = within lowest_end (pos highest_end) z

-- the place of the first value outside its limits
unfoldable pub first_outside : List ℤ → Option ℕ
first_outside s = first_place (λ x. not (value_in x)) s
