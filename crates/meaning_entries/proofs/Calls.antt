-- Rows of the table of cases that are calls over lent buffers: the answer, and every buffer afterwards. Answers and buffers are compared as lists of numbers.
use Rattle.meaning_numbers.proofs.Table.{same_list}
use Rattle.std.specs.Prelude.{Ok, Err}
use Rattle.meaning_numbers.proofs.Prelude.{Bool, ◌&&◌, List, [], ◌∷◌, ◌++◌, Option, None, Some, ℕ, eqb, ℤ, pos, negsuc, nat_abs, drop, replicate}
use Rattle.meaning_rows.specs.{declared.Row.Row, declared.Head.Head, Index.Index, Index.lent}
use Rattle.meaning_filter.specs.{declared.Kind.Kind, declared.Kind.TheVariants.Raw, declared.Kind.TheVariants.Normal, declared.Pick.Pick, declared.Ask.Ask}
use Rattle.meaning_text.specs.{Bytes.bytes, Form.spell, Texts.series_form}
use Rattle.meaning_entries.specs.Answers.{Built, Written, AuditAnswer, SearchAnswer, refusal, held, held_counts, found_counts, both_refusal, both_wrong, both_missing, both_counts, both_found}
use Rattle.meaning_entries.specs.{declared.Audited.Audited, declared.Found.Found, declared.Both.Both, Buffers.IndexBuffers, Build.BuildCall, Build.lent_build, Build.build_answer, Build.build_after, Extend.ExtendCall, Extend.lent_extend, Extend.extend_answer, Extend.extend_after, Audit.lent_audit, Audit.audit_answer, Write.write_answer, Write.write_after, Load.load_answer, Load.load_after, Search.SearchCall, Search.SearchBuffers, Search.handing, Search.lent_search, Search.search_answer, Search.search_after, Both.demand_answer, AuditText.audit_text_answer, AuditText.audit_text, AuditText.pack, AuditText.unpack, Program.program}

-- ---- as numbers

head : Head → List ℕ
head h = h.window ∷ h.width ∷ h.windows ∷ []

built : Built → List ℕ
unfolding head
built (Ok m) = head m.head ++ (m.rows ∷ m.runs ∷ [])
built (Err r) = r.number ∷ r.place ∷ []

written : Written → List ℕ
written (Ok bytes) = bytes ∷ []
written (Err r) = r.number ∷ r.place ∷ []

audited : AuditAnswer → List ℕ
audited (Ok Audited.Yes) = []
audited (Ok (Audited.Wrong row offset)) = 1 ∷ row ∷ offset ∷ []
audited (Ok (Audited.Missing count)) = 2 ∷ count ∷ []
audited (Err r) = 3 ∷ r.number ∷ r.place ∷ []

found : SearchAnswer → List ℕ
found (Ok (Found.All candidates matches)) = 0 ∷ candidates ∷ matches ∷ []
found (Ok (Found.Full candidates matches)) = 24 ∷ candidates ∷ matches ∷ []
found (Ok (Found.Few candidates matches)) = 1 ∷ candidates ∷ matches ∷ []
found (Err r) = r.number ∷ r.place ∷ []

both : Both → List ℕ
unfolding found
both (Both.Listed first second) = first ∷ second ∷ []
both (Both.FirstAudit a) = 101 ∷ audited a
both (Both.SecondAudit a) = 102 ∷ audited a
both (Both.FirstSearch f) = 103 ∷ found f
both (Both.SecondSearch f) = 104 ∷ found f

-- this paper's numbers of an answer: number and place, wrong row and offset, windows that stand nowhere, matches of both lists, counts of a search
pair : ℕ × ℕ → List ℕ
pair p = p.0 ∷ p.1 ∷ []

place : Option (ℕ × ℕ) → List ℕ
place None = []
place (Some r) = r.0 ∷ r.1 ∷ []

numbers : Both → List ℕ
unfolding place
numbers b = place (both_refusal b) ++ (place (both_wrong b) ++ (both_missing b ∷ (pair (both_counts b) ++ pair (both_found b))))

-- a row by the sizes of its ends, its first and its runs
records : List Row → List ℕ
records [] = []
records (r ∷ l) = nat_abs r.low ∷ nat_abs r.up ∷ r.first ∷ r.runs ∷ records l

-- the buffers one after the other
buffer_numbers : IndexBuffers → List ℕ
unfolding records
buffer_numbers b = records b.rows ++ (b.left ++ b.right)

search_buffers : SearchBuffers → List ℕ
search_buffers b = b.left ++ (b.right ++ (b.scratch ++ (b.offsets ++ b.distances)))

same : List ℕ → List ℕ → Bool
same = same_list eqb

-- ---- calls

seven_row : Row
seven_row = record { low = pos 7; up = pos 7; first = 7; runs = 7 }

-- buffers that hold sevens: so many rows, left and right entries
sevens : ℕ → ℕ → ℕ → IndexBuffers
unfolding seven_row
sevens rows left right = record { rows = replicate rows seven_row; left = replicate left 7; right = replicate right 7 }

worked : List ℤ
worked = pos 1 ∷ pos 2 ∷ pos 4 ∷ pos 3 ∷ pos 1 ∷ []

row : ℤ → ℤ → ℕ → ℕ → Row
row low up first runs = record { low = low; up = up; first = first; runs = runs }

-- the worked index, lent with an entry more than it uses
worked_index : Index
unfolding row
worked_index =
    lent (record { window = 2; width = 2; windows = 4 }) (row (pos 2) (pos 4) 0 1 ∷ row (pos 4) (pos 8) 1 1 ∷ []) (0 ∷ 1 ∷ 9 ∷ []) (0 ∷ 3 ∷ 9 ∷ [])

build : List ℤ → ℤ → ℤ → ℤ → BuildCall
build s w d g = record { series = s; window = w; width = d; merge = g }

builds : BuildCall → IndexBuffers → List ℕ → List ℕ → Bool
unfolding built buffer_numbers
builds c b answer after = same (built (build_answer c b)) answer && same (buffer_numbers (build_after c b)) after

grows : ExtendCall → IndexBuffers → List ℕ → List ℕ → Bool
unfolding built buffer_numbers
grows c b answer after = same (built (extend_answer c b)) answer && same (buffer_numbers (extend_after c b)) after

-- a straight search with a = 10, h = 0
search_in : List ℤ → Index → Kind → List ℤ → ℤ → SearchCall
search_in s x kind q E = record {
  series = s;
  index = x;
  query = q;
  ask = record { kind = kind; band = pos 0; threshold = E; scale = pos 10; shift = pos 0; pick = Pick.All };
}

-- the same in the worked series
search_for : Index → Kind → List ℤ → ℤ → SearchCall
unfolding search_in
search_for = search_in worked

-- the closest k of a search; 2 4 in the worked series with E = 5 has the matches (0, 5), (1, 0) and (2, 5)
few : ℕ → SearchCall → SearchCall
few k c = handing (Pick.Closest k) c

few_for : ℕ → SearchCall
unfolding few search_for worked_index
few_for k = few k (search_for worked_index Raw (pos 2 ∷ pos 4 ∷ []) (pos 5))

-- what stands in candidates and scratch then, and in a list with these columns
few_after : List ℕ → List ℕ → List ℕ
few_after offsets distances = 0 ∷ 0 ∷ 0 ∷ 0 ∷ 3 ∷ 0 ∷ 0 ∷ 0 ∷ 0 ∷ 0 ∷ 0 ∷ 0 ∷ (offsets ++ distances)

-- buffers that hold sevens: so many candidates, scratch entries and list entries
lists : ℕ → ℕ → ℕ → SearchBuffers
lists candidates scratch list = record {
  left = replicate candidates 7;
  right = replicate candidates 7;
  scratch = replicate scratch 7;
  offsets = replicate list 7;
  distances = replicate list 7;
}

finds : SearchCall → SearchBuffers → List ℕ → List ℕ → Bool
unfolding found search_buffers
finds c b answer after = same (found (search_answer c b)) answer && same (search_buffers (search_after c b)) after

audits : List ℤ → Index → List ℕ → Bool
unfolding audited
audits s x answer = same (audited (audit_answer (record { series = s; index = x }))) answer

-- the query 4 3 with E = 0 in the worked series, through both indexes
demands : Index → Index → SearchBuffers → SearchBuffers → List ℕ → Bool
unfolding both search_for
demands x y b₁ b₂ answer = same (both (demand_answer (search_for x Raw (pos 4 ∷ pos 3 ∷ []) (pos 0)) y b₁ b₂)) answer

packs : AuditAnswer → Bool
unfolding audited
packs a = same (audited (unpack (pack a))) (audited a)

-- an index with these rows and runs, w = 2, d = 2, four windows
other : List Row → List ℕ → List ℕ → Index
other rows left right = lent (record { window = 2; width = 2; windows = 4 }) rows left right

-- w = 2, d = 3, so many windows
apart : ℕ → Head
apart windows = record { window = 2; width = 3; windows = windows }

-- b = 1, E = 0, a = 20, h = 2
asks : Kind → Ask
asks kind = record { kind = kind; limits = record { band = 1; threshold = 0; scale = 20; shift = 2 }; pick = Pick.All }

-- the index of the worked series at g = 0
unmerged : Index
unfolding other
unmerged = other (row (pos 2) (pos 4) 0 1 ∷ row (pos 4) (pos 6) 1 1 ∷ row (pos 6) (pos 8) 2 1 ∷ []) (0 ∷ 3 ∷ 1 ∷ []) (0 ∷ 3 ∷ 2 ∷ [])

-- the index of its first three values, and one with a window too many
early : Index
unfolding row
early = lent (record { window = 2; width = 2; windows = 2 }) (row (pos 2) (pos 4) 0 1 ∷ row (pos 6) (pos 8) 1 1 ∷ []) (0 ∷ 1 ∷ []) (0 ∷ 1 ∷ [])

late : Index
late = lent (record { window = 2; width = 2; windows = 5 }) [] [] []

-- windows 1 to 3 stand in the row of window 0
misfiled : Index
unfolding other
misfiled = other (row (pos 2) (pos 4) 0 1 ∷ []) (0 ∷ []) (3 ∷ [])

unfoldable pub calls : List Bool
unfolding worked worked_index row build builds grows search_in search_for few few_for few_after lists finds audited audits demands packs other unmerged early late misfiled apart asks sevens same built written pair place numbers
calls =
    -- build: success, unused entries 0, also past the shorter slice; refused, nothing altered
    builds (build worked (pos 2) (pos 2) (pos 80)) (sevens 4 4 5) (2 ∷ 2 ∷ 4 ∷ 2 ∷ 2 ∷ [])
    (2 ∷ 4 ∷ 0 ∷ 1 ∷ 4 ∷ 8 ∷ 1 ∷ 1 ∷ 0 ∷ 0 ∷ 0 ∷ 0 ∷ 0 ∷ 0 ∷ 0 ∷ 0 ∷ 0 ∷ 1 ∷ 0 ∷ 0 ∷ 0 ∷ 3 ∷ 0 ∷ 0 ∷ 0 ∷ [])
    ∷ builds (build worked (pos 2) (pos 2) (pos 80)) (sevens 3 4 4) (23 ∷ 0 ∷ []) (replicate 20 7)
    ∷ builds (build worked (pos 2) (pos 2) (pos 80)) (sevens 4 4 3) (23 ∷ 0 ∷ []) (replicate 23 7)
    ∷ builds (build worked (pos 2) (pos 2) (pos 80)) (sevens 1 4 3) (23 ∷ 0 ∷ []) (7 ∷ 7 ∷ 7 ∷ 7 ∷ 7 ∷ 7 ∷ 7 ∷ 7 ∷ 7 ∷ 7 ∷ 7 ∷ [])
    ∷ builds (build worked (pos 2) (pos 2) (pos 101)) (sevens 0 0 0) (5 ∷ 0 ∷ []) []
    ∷ builds (build worked (pos 2) (pos 1000001) (pos 101)) (sevens 0 0 0) (4 ∷ 0 ∷ []) []
    ∷ builds (build worked (pos 6) (pos 0) (pos 101)) (sevens 0 0 0) (3 ∷ 0 ∷ []) []
    ∷ builds (build (pos 1 ∷ pos 10001 ∷ []) (pos 6) (pos 0) (pos 101)) (sevens 0 0 0) (2 ∷ 1 ∷ []) []
    ∷ builds (build [] (pos 6) (pos 0) (pos 101)) (sevens 0 0 0) (1 ∷ 0 ∷ []) []
    -- extend: equal window counts give a copy
    ∷ grows (record { series = worked; index = worked_index }) (sevens 4 4 4) (2 ∷ 2 ∷ 4 ∷ 2 ∷ 2 ∷ [])
    (2 ∷ 4 ∷ 0 ∷ 1 ∷ 4 ∷ 8 ∷ 1 ∷ 1 ∷ 0 ∷ 0 ∷ 0 ∷ 0 ∷ 0 ∷ 0 ∷ 0 ∷ 0 ∷ 0 ∷ 1 ∷ 0 ∷ 0 ∷ 0 ∷ 3 ∷ 0 ∷ 0 ∷ [])
    ∷ same (built (extend_answer (record { series = pos 1 ∷ pos 2 ∷ []; index = worked_index }) (sevens 0 0 0))) (22 ∷ 0 ∷ [])
    ∷ same (built (extend_answer (record { series = worked; index = worked_index }) (sevens 4 3 4))) (23 ∷ 0 ∷ [])
    ∷ same (built (extend_answer (record { series = worked; index = worked_index }) (sevens 3 4 4))) (23 ∷ 0 ∷ [])
    -- audit: yes; fewer windows; more windows; w above n
    ∷ audits worked worked_index []
    ∷ audits (worked ++ (pos 1 ∷ [])) worked_index (3 ∷ 21 ∷ 0 ∷ [])
    ∷ audits (pos 1 ∷ pos 2 ∷ []) worked_index (3 ∷ 22 ∷ 0 ∷ [])
    ∷ audits (pos 1 ∷ []) worked_index (3 ∷ 22 ∷ 0 ∷ [])
    ∷ audits worked (other [] [] []) (2 ∷ 4 ∷ [])
    -- the layout in the run buffer: a part that does not begin where the row before ends, one that passes the end, ends at the extremes of the types
    ∷ audits worked (other (row (pos 2) (pos 4) 0 1 ∷ row (pos 4) (pos 8) 2 1 ∷ []) (0 ∷ 9 ∷ 1 ∷ []) (0 ∷ 9 ∷ 3 ∷ [])) (3 ∷ 20 ∷ 1 ∷ [])
    ∷ audits worked (other (row (pos 2) (pos 4) 0 2 ∷ []) (0 ∷ 2 ∷ []) (0 ∷ [])) (3 ∷ 20 ∷ 0 ∷ [])
    ∷ audits worked (other (row (negsuc 2147483647) (pos 2147483646) 0 4294967295 ∷ []) (0 ∷ []) (4294967295 ∷ [])) (3 ∷ 20 ∷ 0 ∷ [])
    -- write: the worked index is 74 bytes long
    ∷ same (written (write_answer worked_index (replicate 73 7))) (23 ∷ 0 ∷ [])
    ∷ same (written (write_answer worked_index (replicate 74 7))) (74 ∷ [])
    ∷ same (drop 72 (write_after worked_index (replicate 76 7))) (41 ∷ 10 ∷ 0 ∷ 0 ∷ [])
    ∷ same (write_after worked_index (replicate 3 7)) (7 ∷ 7 ∷ 7 ∷ [])
    -- read: the worked index text, buffers exactly long enough, and too short
    ∷ same (built (load_answer (bytes "(index (window 2) (width 2) (windows 4)\n(row 2 4 (0 0))\n(row 4 8 (1 3))\n)\n") (sevens 2 2 2))) (2 ∷ 2 ∷ 4 ∷ 2 ∷ 2 ∷ [])
    ∷ same (buffer_numbers (load_after (bytes "(index (window 2) (width 2) (windows 4)\n(row 2 4 (0 0))\n(row 4 8 (1 3))\n)\n") (sevens 2 3 2)))
    (2 ∷ 4 ∷ 0 ∷ 1 ∷ 4 ∷ 8 ∷ 1 ∷ 1 ∷ 0 ∷ 1 ∷ 0 ∷ 0 ∷ 3 ∷ [])
    ∷ same (built (load_answer (bytes "(index (window 2) (width 2) (windows 4)\n(row 2 4 (0 0))\n(row 4 8 (1 3))\n)\n") (sevens 1 2 2))) (23 ∷ 0 ∷ [])
    ∷ same (built (load_answer (bytes "(index (window 2) (width 2) (windows 4)\n(row 2 4 (0 0))\n(row 4 8 (1 3))\n)\n") (sevens 2 2 1))) (23 ∷ 0 ∷ [])
    ∷ same (built (load_answer (bytes "(index (window 2) (width 2) (windows 4)\n(row 2 4 (0 0))\n(row 3 8 (1 3))\n)\n") (sevens 1 2 2))) (20 ∷ 1 ∷ [])
    ∷ same (built (load_answer (bytes "(index (window 2) (width 2) (windows 4)\n(row 2 4 (0 0))\n(row 3 8 (1 3))\n") (sevens 1 2 2))) (12 ∷ 4 ∷ [])
    -- search: success; a list exactly full; 24 with both true counts and the first matches; a list of length 0
    ∷ finds (search_for worked_index Raw (pos 2 ∷ pos 4 ∷ []) (pos 5)) (lists 4 4 4) (0 ∷ 4 ∷ 3 ∷ []) (0 ∷ 0 ∷ 0 ∷ 0 ∷ 3 ∷ 0 ∷ 0 ∷ 0 ∷ 0 ∷ 0 ∷ 0 ∷ 0 ∷ 0 ∷ 1 ∷ 2 ∷ 0 ∷ 5 ∷ 0 ∷ 5 ∷ 0 ∷ [])
    ∷ finds (search_for worked_index Raw (pos 2 ∷ pos 4 ∷ []) (pos 5)) (lists 4 4 3) (0 ∷ 4 ∷ 3 ∷ []) (0 ∷ 0 ∷ 0 ∷ 0 ∷ 3 ∷ 0 ∷ 0 ∷ 0 ∷ 0 ∷ 0 ∷ 0 ∷ 0 ∷ 0 ∷ 1 ∷ 2 ∷ 5 ∷ 0 ∷ 5 ∷ [])
    ∷ finds (search_for worked_index Raw (pos 2 ∷ pos 4 ∷ []) (pos 5)) (lists 4 4 2) (24 ∷ 4 ∷ 3 ∷ []) (0 ∷ 0 ∷ 0 ∷ 0 ∷ 3 ∷ 0 ∷ 0 ∷ 0 ∷ 0 ∷ 0 ∷ 0 ∷ 0 ∷ 0 ∷ 1 ∷ 5 ∷ 0 ∷ [])
    ∷ finds (search_for worked_index Raw (pos 5 ∷ pos 5 ∷ []) (pos 0)) (lists 4 4 0) (0 ∷ 0 ∷ 0 ∷ []) (0 ∷ 0 ∷ 0 ∷ 0 ∷ 0 ∷ 0 ∷ 0 ∷ 0 ∷ 0 ∷ 0 ∷ 0 ∷ 0 ∷ [])
    -- a list whose two slices differ: the shorter one counts, and nothing is written behind it
    ∷ finds (search_for worked_index Raw (pos 2 ∷ pos 4 ∷ []) (pos 5)) (record { left = replicate 4 9; right = replicate 5 9; scratch = replicate 4 9; offsets = replicate 4 9; distances = replicate 2 9 }) (24 ∷ 4 ∷ 3 ∷ [])
    (0 ∷ 0 ∷ 0 ∷ 0 ∷ 3 ∷ 0 ∷ 0 ∷ 0 ∷ 0 ∷ 0 ∷ 0 ∷ 0 ∷ 0 ∷ 0 ∷ 1 ∷ 0 ∷ 0 ∷ 5 ∷ 0 ∷ [])
    -- fewer windows than the series: those that the index has not are met, and the match among them is listed; room goes by the series; then more windows
    ∷ finds (search_in (worked ++ (pos 1 ∷ [])) worked_index Raw (pos 1 ∷ pos 1 ∷ []) (pos 0)) (lists 9 9 9) (0 ∷ 2 ∷ 1 ∷ []) (0 ∷ 4 ∷ (replicate 7 0 ++ (0 ∷ 4 ∷ (replicate 16 0 ++ (4 ∷ replicate 17 0)))))
    ∷ finds (search_in (worked ++ (pos 1 ∷ [])) worked_index Raw (pos 1 ∷ pos 1 ∷ []) (pos 0)) (lists 4 9 9) (23 ∷ 0 ∷ []) (replicate 35 7)
    ∷ finds (search_in (worked ++ (pos 1 ∷ [])) worked_index Raw (pos 1 ∷ pos 1 ∷ []) (pos 0)) (lists 9 4 9) (23 ∷ 0 ∷ []) (replicate 40 7)
    ∷ finds (search_in (pos 1 ∷ pos 2 ∷ []) worked_index Raw (pos 2 ∷ pos 4 ∷ []) (pos 5)) (lists 0 0 0) (22 ∷ 0 ∷ []) []
    -- search refused: each buffer too short, the query after the series, m below a w outside its limits, a flat query
    ∷ finds (search_for worked_index Raw (pos 2 ∷ pos 4 ∷ []) (pos 5)) (lists 3 4 0) (23 ∷ 0 ∷ []) (7 ∷ 7 ∷ 7 ∷ 7 ∷ 7 ∷ 7 ∷ 7 ∷ 7 ∷ 7 ∷ 7 ∷ [])
    ∷ finds (search_for worked_index Raw (pos 2 ∷ pos 4 ∷ []) (pos 5)) (lists 4 3 0) (23 ∷ 0 ∷ []) (7 ∷ 7 ∷ 7 ∷ 7 ∷ 7 ∷ 7 ∷ 7 ∷ 7 ∷ 7 ∷ 7 ∷ 7 ∷ [])
    ∷ finds (search_for worked_index Raw (pos 2 ∷ negsuc 10000 ∷ []) (negsuc 0)) (lists 0 0 0) (2 ∷ 1 ∷ []) []
    ∷ finds (search_in (pos 0 ∷ pos 10001 ∷ []) worked_index Raw (negsuc 10000 ∷ []) (negsuc 0)) (lists 0 0 0) (2 ∷ 1 ∷ []) []
    ∷ finds (search_for (lent (record { window = 300; width = 2; windows = 4 }) [] [] []) Raw (pos 2 ∷ pos 4 ∷ []) (negsuc 0)) (lists 0 0 0) (7 ∷ 0 ∷ []) []
    ∷ finds (search_for (lent (record { window = 0; width = 2; windows = 4 }) [] [] []) Raw (pos 2 ∷ pos 4 ∷ []) (pos 0)) (lists 0 0 0) (20 ∷ 0 ∷ []) []
    ∷ finds (search_for worked_index Normal (pos 5 ∷ pos 5 ∷ []) (pos 0)) (lists 0 0 0) (11 ∷ 0 ∷ []) []
    ∷ finds (search_for worked_index Raw [] (pos 0)) (lists 0 0 0) (6 ∷ 0 ∷ []) []
    -- the closest few: equal distances by earlier offset, true counts, no 24, 0 behind them; all of them if there are fewer
    ∷ finds (few_for 1) (lists 4 4 1) (1 ∷ 4 ∷ 3 ∷ []) (few_after (1 ∷ []) (0 ∷ []))
    ∷ finds (few_for 2) (lists 4 4 3) (1 ∷ 4 ∷ 3 ∷ []) (few_after (1 ∷ 0 ∷ 0 ∷ []) (0 ∷ 5 ∷ 0 ∷ []))
    ∷ finds (few_for 3) (lists 4 4 3) (1 ∷ 4 ∷ 3 ∷ []) (few_after (1 ∷ 0 ∷ 2 ∷ []) (0 ∷ 5 ∷ 5 ∷ []))
    ∷ finds (few_for 64) (lists 4 4 65) (1 ∷ 4 ∷ 3 ∷ []) (few_after (1 ∷ 0 ∷ 2 ∷ replicate 62 0) (0 ∷ 5 ∷ 5 ∷ replicate 62 0))
    -- a list of fewer entries, also where fewer match; 30 before 23, 20 and 11, and after 10
    ∷ finds (few_for 2) (lists 4 4 1) (23 ∷ 0 ∷ []) (replicate 14 7)
    ∷ finds (few_for 64) (lists 4 4 63) (23 ∷ 0 ∷ []) (replicate 138 7)
    ∷ finds (few_for 2) (record { left = replicate 4 7; right = replicate 4 7; scratch = replicate 4 7; offsets = replicate 3 7; distances = replicate 1 7 }) (23 ∷ 0 ∷ []) (replicate 16 7)
    ∷ finds (few_for 0) (lists 4 4 4) (30 ∷ 0 ∷ []) (replicate 20 7)
    ∷ finds (few_for 65) (lists 0 0 0) (30 ∷ 0 ∷ []) []
    ∷ finds (few 0 (search_for (lent (record { window = 0; width = 2; windows = 4 }) [] [] []) Normal (pos 5 ∷ pos 5 ∷ []) (pos 0))) (lists 0 0 0) (30 ∷ 0 ∷ []) []
    ∷ finds (few 0 (lent_search worked (apart 2) [] [] [] (record { kind = Raw; limits = record { band = 0; threshold = 0; scale = 9; shift = 0 }; pick = Pick.All }) (pos 1 ∷ pos 2 ∷ []))) (lists 0 0 0) (10 ∷ 0 ∷ []) []
    -- each slice of a pair too short by itself; scratch holds windows, and not offsets, where m is above w
    ∷ builds (build worked (pos 2) (pos 2) (pos 80)) (sevens 4 3 4) (23 ∷ 0 ∷ []) (replicate 23 7)
    ∷ grows (record { series = worked; index = worked_index }) (sevens 4 4 3) (23 ∷ 0 ∷ []) (replicate 23 7)
    ∷ same (built (load_answer (bytes "(index (window 2) (width 2) (windows 4)\n(row 2 4 (0 0))\n(row 4 8 (1 3))\n)\n") (sevens 2 1 2))) (23 ∷ 0 ∷ [])
    ∷ finds (search_for worked_index Raw (pos 2 ∷ pos 4 ∷ []) (pos 5)) (record { left = replicate 4 7; right = replicate 3 7; scratch = replicate 4 7; offsets = []; distances = [] }) (23 ∷ 0 ∷ []) (replicate 11 7)
    ∷ finds (search_for worked_index Raw (pos 2 ∷ pos 4 ∷ []) (pos 5)) (record { left = replicate 3 7; right = replicate 4 7; scratch = replicate 4 7; offsets = []; distances = [] }) (23 ∷ 0 ∷ []) (replicate 11 7)
    ∷ finds (search_in (pos 1 ∷ pos 2 ∷ []) (lent (record { window = 1; width = 1; windows = 2 }) (row (pos 1) (pos 2) 0 1 ∷ row (pos 2) (pos 3) 1 1 ∷ []) (0 ∷ 1 ∷ []) (0 ∷ 1 ∷ [])) Raw (pos 1 ∷ pos 2 ∷ []) (pos 0)) (lists 2 1 1) (23 ∷ 0 ∷ []) (replicate 7 7)
    -- lent calls: w and d, both columns, b and E, a and h are apart
    ∷ builds (lent_build worked 2 3 0) (sevens 4 4 4) (2 ∷ 3 ∷ 4 ∷ 2 ∷ 3 ∷ [])
    (3 ∷ 6 ∷ 0 ∷ 2 ∷ 6 ∷ 9 ∷ 2 ∷ 1 ∷ 0 ∷ 0 ∷ 0 ∷ 0 ∷ 0 ∷ 0 ∷ 0 ∷ 0 ∷ 0 ∷ 3 ∷ 1 ∷ 0 ∷ 0 ∷ 3 ∷ 2 ∷ 0 ∷ [])
    ∷ grows (lent_extend (worked ++ (pos 1 ∷ [])) (apart 4) (row (pos 3) (pos 6) 0 2 ∷ row (pos 6) (pos 9) 2 1 ∷ []) (0 ∷ 3 ∷ 1 ∷ []) (0 ∷ 3 ∷ 2 ∷ [])) (sevens 5 5 5) (2 ∷ 3 ∷ 5 ∷ 3 ∷ 4 ∷ [])
    (0 ∷ 3 ∷ 0 ∷ 1 ∷ 3 ∷ 6 ∷ 1 ∷ 2 ∷ 6 ∷ 9 ∷ 3 ∷ 1 ∷ 0 ∷ 0 ∷ 0 ∷ 0 ∷ 0 ∷ 0 ∷ 0 ∷ 0 ∷ 4 ∷ 0 ∷ 3 ∷ 1 ∷ 0 ∷ 4 ∷ 0 ∷ 3 ∷ 2 ∷ 0 ∷ [])
    ∷ same (audited (audit_answer (lent_audit worked (apart 4) (row (pos 3) (pos 6) 0 2 ∷ row (pos 6) (pos 9) 2 1 ∷ []) (0 ∷ 3 ∷ 1 ∷ []) (0 ∷ 3 ∷ 2 ∷ [])))) []
    ∷ finds (lent_search (pos 0 ∷ pos 2 ∷ pos 0 ∷ []) (apart 2) (row (pos 0) (pos 3) 0 1 ∷ []) (0 ∷ []) (1 ∷ []) (asks Normal) (pos 0 ∷ pos 1 ∷ [])) (lists 2 2 1) (0 ∷ 2 ∷ 1 ∷ []) (0 ∷ 0 ∷ 1 ∷ 0 ∷ 0 ∷ 0 ∷ 0 ∷ 0 ∷ [])
    ∷ finds (lent_search (pos 0 ∷ pos 2 ∷ pos 0 ∷ []) (apart 2) (row (pos 0) (pos 3) 0 1 ∷ []) (0 ∷ []) (1 ∷ []) (asks Raw) (pos 0 ∷ pos 1 ∷ [])) (lists 2 2 1) (0 ∷ 2 ∷ 0 ∷ []) (0 ∷ 0 ∷ 1 ∷ 0 ∷ 0 ∷ 0 ∷ 0 ∷ 0 ∷ [])
    -- two audits and two searches: both list; the first audit, the second, the first search and the second in the way, each before those behind it
    ∷ demands worked_index unmerged (lists 4 4 4) (lists 4 4 1) (1 ∷ 1 ∷ [])
    ∷ demands early worked_index (lists 4 4 1) (lists 4 4 4) (1 ∷ 1 ∷ [])
    ∷ demands worked_index early (lists 4 4 4) (lists 4 4 1) (1 ∷ 1 ∷ [])
    ∷ demands early late (lists 4 4 1) (lists 4 4 4) (102 ∷ 3 ∷ 22 ∷ 0 ∷ [])
    ∷ demands misfiled (other [] [] []) (lists 0 0 0) (lists 0 0 0) (101 ∷ 1 ∷ 0 ∷ 1 ∷ [])
    ∷ demands worked_index (other [] [] []) (lists 0 0 0) (lists 0 0 0) (102 ∷ 2 ∷ 4 ∷ [])
    ∷ demands worked_index (other (row (pos 2) (pos 2) 0 1 ∷ []) (0 ∷ []) (0 ∷ [])) (lists 0 0 0) (lists 0 0 0) (102 ∷ 3 ∷ 20 ∷ 0 ∷ [])
    ∷ demands worked_index unmerged (lists 4 4 0) (lists 0 0 0) (103 ∷ 24 ∷ 3 ∷ 1 ∷ [])
    ∷ demands worked_index unmerged (lists 4 4 1) (lists 3 4 1) (104 ∷ 23 ∷ 0 ∷ [])
    ∷ demands worked_index unmerged (lists 4 4 1) (lists 4 4 0) (104 ∷ 24 ∷ 2 ∷ 1 ∷ [])
    -- this paper's numbers of each kind of answer
    ∷ same (numbers (Both.Listed 1 2)) (0 ∷ 1 ∷ 2 ∷ 0 ∷ 0 ∷ [])
    ∷ same (numbers (Both.FirstAudit (Ok (Audited.Wrong 1 2)))) (1 ∷ 2 ∷ 0 ∷ 0 ∷ 0 ∷ 0 ∷ 0 ∷ [])
    ∷ same (numbers (Both.SecondAudit (Ok (Audited.Missing 3)))) (3 ∷ 0 ∷ 0 ∷ 0 ∷ 0 ∷ [])
    ∷ same (numbers (Both.SecondAudit (Err (refusal (20, 1))))) (20 ∷ 1 ∷ 0 ∷ 0 ∷ 0 ∷ 0 ∷ 0 ∷ [])
    ∷ same (numbers (Both.FirstSearch (Ok (Found.Full 3 2)))) (24 ∷ 0 ∷ 0 ∷ 0 ∷ 0 ∷ 3 ∷ 2 ∷ [])
    ∷ same (numbers (Both.SecondSearch (Err (refusal (23, 0))))) (23 ∷ 0 ∷ 0 ∷ 0 ∷ 0 ∷ 0 ∷ 0 ∷ [])
    ∷ same (pair (held_counts (Ok (held (apart 4) 2 3)))) (2 ∷ 3 ∷ [])
    ∷ same (pair (found_counts (Ok (Found.All 4 3)))) (4 ∷ 3 ∷ [])
    ∷ same (pair (found_counts (Ok (Found.Few 4 3)))) (4 ∷ 3 ∷ [])
    -- the audit of two texts takes 4,096 values and no more; the index is of another series
    ∷ same (audited (audit_text_answer (bytes "(index (window 1) (width 1) (windows 1)\n)\n") (spell series_form (replicate 4096 (pos 0))))) (3 ∷ 21 ∷ 0 ∷ [])
    ∷ same (audited (audit_text_answer (bytes "(index (window 1) (width 1) (windows 1)\n)\n") (spell series_form (replicate 4097 (pos 0))))) (3 ∷ 1 ∷ 0 ∷ [])
    -- so does the program
    ∷ same (program (bytes "(window 1)\n(width 1)\n(merge 0)\n" ++ (spell series_form (replicate 4097 (pos 0)) ++ bytes "(find raw 0 0 10 0 (query 0))\n"))) (bytes "(refused 1 0)\n")
    -- the number of the C entry: wrong at row 1, offset 1
    ∷ eqb (audit_text (bytes "(index (window 1) (width 1) (windows 2)\n(row 0 1 (0 0))\n(row 1 2 (1 1))\n)\n") (bytes "(series 0 0)\n")) 8388617
    -- and back
    ∷ packs (Ok Audited.Yes)
    ∷ packs (Ok (Audited.Wrong 4095 4095))
    ∷ packs (Ok (Audited.Missing 4096))
    ∷ packs (Err (refusal (12, 1000000000000000000)))
    ∷ packs (Err (refusal (2, 4095)))
    ∷ packs (Err (refusal (22, 0)))
    ∷ []
