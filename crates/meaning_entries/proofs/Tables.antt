-- 01: texts are read first (12), then the lowest number that applies wins; 02, item 2: but 30 directly after 10. A table's first line that applies is the first by `order`, since the lines of each table follow it. No table but the audits' has a line 21. By computation.
use Rattle.meaning_numbers.proofs.Prelude.{◌≡◌, refl, clash, List, Some, ℕ, T}
use Rattle.meaning_rows.specs.Index.{Index}
use Rattle.meaning_entries.specs.{Refusal.order, Refusal.follows, Buffers.IndexBuffers, Build.BuildCall, Build.build_table, Extend.ExtendCall, Extend.extend_table, Audit.AuditCall, Audit.audit_table, Write.write_table, Load.load_table, Search.SearchCall, Search.SearchBuffers, Search.search_plan, Search.search_table, Search.search_refusal, AuditText.audit_text_table, Program.call_lines, Program.program_table}
use Rattle.meaning_entries.proofs.Refused.{open_lines, is-first, lacks, first-lacks}

unfoldable open_tables : Unit {0}
unfolding open_lines order follows build_table extend_table audit_table write_table load_table search_plan search_table audit_text_table call_lines program_table
open_tables = tt

build-follows : (c : BuildCall) (b : IndexBuffers) → T (follows order (build_table c b))
unfolding open_tables
build-follows c b = tt

extend-follows : (c : ExtendCall) (b : IndexBuffers) → T (follows order (extend_table c b))
unfolding open_tables
extend-follows c b = tt

audit-follows : (most : ℕ) (c : AuditCall) → T (follows order (audit_table most c))
unfolding open_tables
audit-follows most c = tt

write-follows : (x : Index) (t : List ℕ) → T (follows order (write_table x t))
unfolding open_tables
write-follows x t = tt

load-follows : (t : List ℕ) (b : IndexBuffers) → T (follows order (load_table t b))
unfolding open_tables
load-follows t b = tt

search-follows : (c : SearchCall) (b : SearchBuffers) → T (follows order (search_table c b))
unfolding open_tables
search-follows c b = tt

audit-text-follows : (x s : List ℕ) → T (follows order (audit_text_table x s))
unfolding open_tables
audit-text-follows x s = tt

program-follows : (t : List ℕ) → T (follows order (program_table t))
unfolding open_tables
program-follows t = tt

-- ---- 02, item 1: 21 is given by the audits alone

search-lacks-21 : (c : SearchCall) (b : SearchBuffers) → T (lacks 21 (search_table c b))
unfolding open_tables lacks
search-lacks-21 c b = tt

pub search-never-21 : (c : SearchCall) (b : SearchBuffers) (place : ℕ) → search_refusal c b ≡ Some (21, place) → ⊥
search-never-21 c b place e = clash refl (first-lacks 21 (search-lacks-21 c b) (is-first (search_table c b) 21 place e))

others-lack-21 : (build : BuildCall) (extend : ExtendCall) (b : IndexBuffers) (x : Index) (text : List ℕ)
    → T (lacks 21 (build_table build b)) × T (lacks 21 (extend_table extend b)) × T (lacks 21 (write_table x text)) × T (lacks 21 (load_table text b)) × T (lacks 21 (program_table text))
unfolding open_tables lacks
others-lack-21 build extend b x text = (tt, tt, tt, tt, tt)
