-- Every definition of this crate that stays shut until it is named, and those below, under one name: a proof that computes a case says `unfolding open_entries`.
use Rattle.meaning_text.proofs.Open.{open_text}
use Rattle.meaning_entries.specs.AuditText.{text_series, audit_text_table, audit_text_answer, pack_refusal, pack, unpack_by, unpack, audit_text}
use Rattle.meaning_entries.specs.Program.{program_said, text_program, call_lines, program_table, program_index, printed, program}
use Rattle.meaning_entries.specs.Refusal.{first_refusal, length_outside, value_outside, window_outside, width_outside, merge_outside, query_length_outside, query_below_window, band_outside, threshold_outside, scale_or_shift_outside, pick_outside, count_outside, normal_flat, flat_query, ill_formed, fewer_windows, more_windows, buffer_short, bad_line, unreadable, list_short}
use Rattle.meaning_entries.specs.Search.{question, search_plan, search_table, looked, search_refused, search_told, search_answer, search_counts, looked_after, search_after}
use Rattle.meaning_entries.specs.{Buffers.filled, Buffers.index_in, Build.build_table, Build.build_index, Build.build_answer, Build.build_counts, Build.build_after, Extend.extend_table, Extend.extend_index, Extend.extend_answer, Extend.extend_counts, Extend.extend_after, Audit.audit_table, Audit.complete, Audit.audited, Audit.audit_answer, Write.write_table, Write.write_answer, Write.write_count, Write.write_after, Load.text_index, Load.load_table, Load.load_answer, Load.load_counts, Load.load_after, Demand3.pairs, Both.yes, Both.told_second, Both.told_found, Both.told, Both.demand_answer}

unfoldable pub open_entries : Unit {0}
unfolding open_text first_refusal length_outside value_outside window_outside width_outside merge_outside query_length_outside query_below_window band_outside threshold_outside scale_or_shift_outside pick_outside count_outside normal_flat flat_query ill_formed fewer_windows more_windows buffer_short filled index_in build_table build_index build_answer build_counts build_after extend_table extend_index extend_answer extend_counts extend_after audit_table complete audited audit_answer write_table write_answer write_count write_after bad_line unreadable text_index load_table load_answer load_counts load_after question list_short search_plan search_table looked search_refused search_told search_answer search_counts looked_after search_after text_series audit_text_table audit_text_answer pack_refusal pack unpack_by unpack audit_text program_said text_program call_lines program_table program_index printed program pairs yes told_second told_found told demand_answer
open_entries = tt
