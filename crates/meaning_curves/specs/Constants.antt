-- The constants of the code (src/lib.rt) are the limits (`meant`).
use Rattle.std.specs.Prelude.{pos}
use Rattle.meaning_curves.specs.declared.Constants.{Constants}
use Rattle.meaning_curves.specs.Limits.{most_values, most_program_values, least_value, greatest_value, longest_window, widest_row, greatest_merge, longest_query, greatest_threshold, least_scale, greatest_scale, greatest_shift, most_closest, lowest_end, highest_end}

abbrev pub meant : Constants
meant = record {
  values = most_values;
  program = most_program_values;
  low = least_value;
  high = pos greatest_value;
  window = longest_window;
  width = widest_row;
  merge = greatest_merge;
  query = longest_query;
  threshold = greatest_threshold;
  least = least_scale;
  scale = greatest_scale;
  shift = greatest_shift;
  closest = most_closest;
  bottom = lowest_end;
  top = pos highest_end;
}
