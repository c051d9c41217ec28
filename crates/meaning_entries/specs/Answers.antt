-- What an entry answers: what it was asked for, or why the call is refused. Document 01's number, place, counts and values for each case of each answer; a refusal gives counts 0, except 24.
use Rattle.std.specs.Prelude.{ℕ, nat_abs, Ok, Err, None, Some}
use Rattle.std.specs.declared.{option.Option.Option, result.Result.Result}
use Rattle.meaning_rows.specs.{declared.Head.Head, Index.Index}
use Rattle.meaning_entries.specs.{declared.Refusal.Refusal, declared.Held.Held, declared.Audited.Audited, declared.Found.Found, declared.Both.Both}

-- ---- the answers

-- a refusal by its number and place
abbrev pub refusal : ℕ × ℕ → Refusal
refusal r = record { number = r.0; place = r.1 }

abbrev pub held : Head → ℕ → ℕ → Held
held h rows runs = record { head = h; rows = rows; runs = runs }

-- of build, extend and read
abbrev pub Built : Type 0
Built = Result Held Refusal

-- of write: how many bytes the text has
abbrev pub Written : Type 0
Written = Result ℕ Refusal

abbrev pub AuditAnswer : Type 0
AuditAnswer = Result Audited Refusal

abbrev pub SearchAnswer : Type 0
SearchAnswer = Result Found Refusal

-- the head of an index that is well formed
abbrev pub head_of : Index → Head
head_of x = record { window = nat_abs x.window; width = nat_abs x.width; windows = nat_abs x.windows }

-- ---- number and place, where the call is refused

abbrev pub refusal_in : {A : Type 0} → Result A Refusal → Option (ℕ × ℕ)
refusal_in (Ok x) = None
refusal_in (Err r) = Some (r.number, r.place)

-- a full list is refusal 24
abbrev pub found_refusal : SearchAnswer → Option (ℕ × ℕ)
found_refusal (Ok (Found.All candidates matches)) = None
found_refusal (Ok (Found.Full candidates matches)) = Some (24, 0)
found_refusal (Ok (Found.Few candidates matches)) = None
found_refusal (Err r) = Some (r.number, r.place)

-- of the audit or search that stood in the way
abbrev pub both_refusal : Both → Option (ℕ × ℕ)
both_refusal (Both.Listed first second) = None
both_refusal (Both.FirstAudit a) = refusal_in a
both_refusal (Both.SecondAudit a) = refusal_in a
both_refusal (Both.FirstSearch f) = found_refusal f
both_refusal (Both.SecondSearch f) = found_refusal f

-- ---- values

-- the head of the index that stands in the buffers
abbrev pub held_head : Built → Option Head
held_head (Ok m) = Some m.head
held_head (Err r) = None

-- the first row and offset filed wrongly
abbrev pub wrong_place : AuditAnswer → Option (ℕ × ℕ)
wrong_place (Ok Audited.Yes) = None
wrong_place (Ok (Audited.Wrong row offset)) = Some (row, offset)
wrong_place (Ok (Audited.Missing count)) = None
wrong_place (Err r) = None

-- of the audit that stood in the way
abbrev pub both_wrong : Both → Option (ℕ × ℕ)
both_wrong (Both.Listed first second) = None
both_wrong (Both.FirstAudit a) = wrong_place a
both_wrong (Both.SecondAudit a) = wrong_place a
both_wrong (Both.FirstSearch f) = None
both_wrong (Both.SecondSearch f) = None

-- ---- counts

-- how many rows and runs stand in the buffers
abbrev pub held_counts : Built → ℕ × ℕ
held_counts (Ok m) = (m.rows, m.runs)
held_counts (Err r) = (0, 0)

-- how many bytes the text has
abbrev pub written_count : Written → ℕ
written_count (Ok bytes) = bytes
written_count (Err r) = 0

-- how many windows stand nowhere
abbrev pub missing_count : AuditAnswer → ℕ
missing_count (Ok Audited.Yes) = 0
missing_count (Ok (Audited.Wrong row offset)) = 0
missing_count (Ok (Audited.Missing count)) = count
missing_count (Err r) = 0

-- how many candidates and matches; 24 and the closest few give both true counts
abbrev pub found_counts : SearchAnswer → ℕ × ℕ
found_counts (Ok (Found.All candidates matches)) = (candidates, matches)
found_counts (Ok (Found.Full candidates matches)) = (candidates, matches)
found_counts (Ok (Found.Few candidates matches)) = (candidates, matches)
found_counts (Err r) = (0, 0)

-- how many windows stand nowhere, of the audit that stood in the way
abbrev pub both_missing : Both → ℕ
both_missing (Both.Listed first second) = 0
both_missing (Both.FirstAudit a) = missing_count a
both_missing (Both.SecondAudit a) = missing_count a
both_missing (Both.FirstSearch f) = 0
both_missing (Both.SecondSearch f) = 0

-- how many matches each of two lists has
abbrev pub both_counts : Both → ℕ × ℕ
both_counts (Both.Listed first second) = (first, second)
both_counts (Both.FirstAudit a) = (0, 0)
both_counts (Both.SecondAudit a) = (0, 0)
both_counts (Both.FirstSearch f) = (0, 0)
both_counts (Both.SecondSearch f) = (0, 0)

-- how many candidates and matches, of the search that stood in the way
abbrev pub both_found : Both → ℕ × ℕ
both_found (Both.Listed first second) = (0, 0)
both_found (Both.FirstAudit a) = (0, 0)
both_found (Both.SecondAudit a) = (0, 0)
both_found (Both.FirstSearch f) = found_counts f
both_found (Both.SecondSearch f) = found_counts f
