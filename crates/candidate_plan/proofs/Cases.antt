-- What is known where values and numbers pass.
use Rattle.meaning_numbers.proofs.Prelude.{List, ℕ, ◌≤◌, ℤ, length}
use Rattle.meaning_curves.proofs.Values.{AllIn}
use Rattle.meaning_filter.specs.declared.Ask.{Ask}
use Rattle.meaning_entries.proofs.Refused.{AllPass, open_lines, passed-line, passed-behind}
use Rattle.meaning_entries.proofs.Lines.{values-line, query-line}
use Rattle.candidate_plan.specs.Tables.{values_table, numbers_table}

pub values-in : (s q : List ℤ) → AllPass (values_table s q) → AllIn s × AllIn q
unfolding open_lines values_table
values-in s q h = (values-line s (passed-line h 2), values-line q (passed-line (passed-behind h 2) 2))

pub query-few : (s q : List ℤ) (w : ℕ) (a : Ask) → AllPass (numbers_table s q w a) → length q ≤ 1024
unfolding open_lines numbers_table
query-few s q w a h = (query-line (length q) (length s) (passed-line h 6)).0.most
