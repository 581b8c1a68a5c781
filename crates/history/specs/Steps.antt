-- What the contracts of single steps speak of: a line at the front of a buffer, an update that was made and its line printed, one step.
use Rattle.std.specs.Prelude.{ℕ, ◌≡◌, true, List, ◌++◌, length, drop}
use Rattle.route.specs.Refusals.{Answer, value, refused}
use Rattle.tcam.specs.Plans.{plan_answer}
use Rattle.records.specs.Records.{Update}
use Rattle.history.specs.Reports.{Rows, plan_room, plan_of, after_update, reported_text}
use Rattle.history.specs.Stages.{is_stage_of, step_text, step_to}
use Rattle.history.specs.declared.Stage.{Stage}
use Rattle.history.specs.declared.step.Stepped.{Stepped}

-- the bytes that a call wrote, 0 where it was refused
abbrev pub size_of : Answer → ℕ
size_of (value n) = n
size_of (refused n p) = 0

-- the text stands at the front of the buffer, and the bytes behind it are as found
pub record IsPrinted (text buffer : List ℕ) (size : ℕ) (buffer' : List ℕ) : Type 0 where
  pub counts : size ≡ length text
  pub prints : buffer' ≡ text ++ drop (length text) buffer

-- the update was planned, and the plan applied whole
pub record IsUpdated (u : Update) (t : Rows) (answer : Answer) (t' : Rows) : Type 0 where
  pub answers : answer ≡ plan_answer (plan_of t u plan_room)
  pub table : t' ≡ after_update t u

-- the update was made as the record with this number, and its line printed
pub record IsReported (nth : ℕ) (u : Update) (t : Rows) (buffer : List ℕ) (size : ℕ) (t' : Rows) (buffer' : List ℕ) : Type 0 where
  pub table : t' ≡ after_update t u
  pub line : IsPrinted (reported_text nth t u) buffer size buffer'

-- a step can be made: the rows have one length, and the stage is one of these bytes
pub record Ready (bs : List ℕ) (s : Stage) (t : Rows) : Type 0 where
  pub equal : length t.addresses ≡ length t.tags
  pub placed : is_stage_of (length bs) s ≡ true

-- what a step answers: its line's bytes, and the stage behind it
abbrev pub stepped : ℕ → Stage → Stepped
stepped n s = record { size = n; stage = s }

-- the step from this stage was made: its line's bytes, and the stage and the table behind it
pub record IsStep (bs : List ℕ) (s : Stage) (t : Rows) (buffer : List ℕ) (r : Stepped) (t' : Rows) (buffer' : List ℕ) : Type 0 where
  pub stage : r.stage ≡ (step_to bs s t).stage
  pub table : t' ≡ (step_to bs s t).table
  pub line : IsPrinted (step_text bs s t) buffer r.size buffer'
