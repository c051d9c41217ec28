-- The answers of a reading and of a writing as C is told them, and the buffers they leave.
use Rattle.std.specs.Prelude.{ℕ, List, ◌≡◌, Ok, Err}
use Rattle.meaning_rows.specs.Index.{Index}
use Rattle.meaning_entries.specs.{Answers.Written, Buffers.IndexBuffers, Load.load_answer, Load.load_after, Write.write_answer, Write.write_after}
use Rattle.try_c_index.specs.{declared.Answer.Answer, Told.numbers_of, Told.told_built}

-- the answer of a reading is told, and its buffers are as it leaves them
pub record LoadTold (text : List ℕ) (before : IndexBuffers) (answer : Answer) (after : IndexBuffers) : Type 0 where
  pub answered : answer ≡ told_built (load_answer text before)
  pub rows : after.rows ≡ (load_after text before).rows
  pub left : after.left ≡ (load_after text before).left
  pub right : after.right ≡ (load_after text before).right

-- 0: the text's length; 3: the refusal's number and place
unfoldable pub told_written : Written → Answer
told_written (Ok bytes) = numbers_of 0 bytes 0
told_written (Err r) = numbers_of 3 r.number r.place

-- the answer of a writing is told, and the text is as it leaves it
pub record WriteTold (x : Index) (before : List ℕ) (answer : Answer) (after : List ℕ) : Type 0 where
  pub answered : answer ≡ told_written (write_answer x before)
  pub text : after ≡ write_after x before
