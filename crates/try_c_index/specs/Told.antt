-- Answers as C is told them: a kind, which is 3 where the call is refused, a head where the answer has one, and two numbers.
use Rattle.std.specs.Prelude.{ℕ, ◌≡◌, Ok, Err}
use Rattle.meaning_rows.specs.declared.Head.{Head}
use Rattle.meaning_entries.specs.{declared.Audited.Audited, Answers.Built, Answers.AuditAnswer, Buffers.IndexBuffers, Build.BuildCall, Build.build_answer, Build.build_after, Extend.ExtendCall, Extend.extend_answer, Extend.extend_after}
use Rattle.try_c_index.specs.declared.Answer.{Answer}

abbrev pub no_head : Head
no_head = record { window = 0; width = 0; windows = 0 }

-- a kind and two numbers, with no head
abbrev pub numbers_of : ℕ → ℕ → ℕ → Answer
numbers_of kind first second = record { kind = kind; head = no_head; first = first; second = second }

-- 0: yes; 1: the row and offset filed wrongly; 2: how many windows stand nowhere; 3: the refusal's number and place
unfoldable pub told_audited : AuditAnswer → Answer
told_audited (Ok Audited.Yes) = numbers_of 0 0 0
told_audited (Ok (Audited.Wrong row offset)) = numbers_of 1 row offset
told_audited (Ok (Audited.Missing count)) = numbers_of 2 count 0
told_audited (Err r) = numbers_of 3 r.number r.place

-- an index: its head, and how many rows and runs it has
abbrev pub index_of : Head → ℕ → ℕ → Answer
index_of head rows runs = record { kind = 0; head = head; first = rows; second = runs }

-- of a build, an extension or a reading. 0: the index; 3: the refusal's number and place
unfoldable pub told_built : Built → Answer
told_built (Ok m) = index_of m.head m.rows m.runs
told_built (Err r) = numbers_of 3 r.number r.place

-- the answer of a build is told, and its buffers are as it leaves them
pub record BuildTold (c : BuildCall) (before : IndexBuffers) (answer : Answer) (after : IndexBuffers) : Type 0 where
  pub answered : answer ≡ told_built (build_answer c before)
  pub rows : after.rows ≡ (build_after c before).rows
  pub left : after.left ≡ (build_after c before).left
  pub right : after.right ≡ (build_after c before).right

-- of an extension, likewise
pub record ExtendTold (c : ExtendCall) (before : IndexBuffers) (answer : Answer) (after : IndexBuffers) : Type 0 where
  pub answered : answer ≡ told_built (extend_answer c before)
  pub rows : after.rows ≡ (extend_after c before).rows
  pub left : after.left ≡ (extend_after c before).left
  pub right : after.right ≡ (extend_after c before).right
