-- A part of a report: as many steps as fit a buffer.
--
-- A step is made while its line fits what is left of the buffer. So a part ends where the report is done or where the next line does not
-- fit. A buffer that is too short for the next line is refused, so that every part that is answered has a line, but for that of a report
-- that is done.
use Rattle.std.specs.Prelude.{ℕ, zero, suc, ◌-◌, ◌≡◌, cond, not, ◌||◌, List, [], ◌∷◌, ◌++◌, ltb, length, drop, Result, Ok, Err}
use Rattle.route.specs.Refusals.{Verdict, fine, fault, fault_if, ◌then◌, size_refusal, room_refusal}
use Rattle.route.specs.Shown.{number, place}
use Rattle.tcam.specs.Slots.{size_fault}
use Rattle.history.specs.Reports.{Rows}
use Rattle.history.specs.Stages.{is_done, is_stage_of, Run, run, step_text, step_to, steps_left}
use Rattle.history.specs.declared.Stage.{Stage}
use Rattle.route.specs.declared.Refusal.{Refusal}
use Rattle.history.specs.declared.fill.Part.{Part}

-- a part: its text, and how far the report has come behind it
pub record Printed : Type 0 where
  pub text : List ℕ
  pub to : Run

abbrev pub behind_text : List ℕ → Printed → Printed
behind_text text p = record { text = text ++ p.text; to = p.to }

-- at most k steps, while the line of each fits so many bytes
abbrev pub printed : ℕ → List ℕ → ℕ → Stage → Rows → Printed
printed zero bs room s t = record { text = []; to = run s t }
printed (suc k) bs room s t =
    cond (is_done s || ltb room (length (step_text bs s t))) (record { text = []; to = run s t })
    (behind_text (step_text bs s t)
    (printed k bs (room - length (step_text bs s t)) (step_to bs s t).stage (step_to bs s t).table))

-- the part that fits a buffer of so many bytes
abbrev pub part : List ℕ → ℕ → Stage → Rows → Printed
part bs room s t = printed (steps_left (length bs) (length t.addresses) s) bs room s t

-- a line, or the other where it has no bytes
abbrev pub or_else : List ℕ → List ℕ → List ℕ
or_else [] other = other
or_else (b ∷ line) other = b ∷ line

-- the next line: that of the first step, of at most k, that prints one
abbrev pub line_within : ℕ → List ℕ → Stage → Rows → List ℕ
line_within zero bs s t = []
line_within (suc k) bs s t = or_else (step_text bs s t) (line_within k bs (step_to bs s t).stage (step_to bs s t).table)

abbrev pub next_line : List ℕ → Stage → Rows → List ℕ
next_line bs s t = line_within (steps_left (length bs) (length t.addresses) s) bs s t

-- refusal 8: rows of unequal length, no slot or too many; a stage that is none of these bytes
abbrev pub stage_fault : List ℕ → Stage → Rows → Verdict
stage_fault bs s t = size_fault t.addresses t.tags then fault_if (not (is_stage_of (length bs) s)) size_refusal 0

-- then 9: the next line does not fit
abbrev pub room_fault : List ℕ → Stage → Rows → ℕ → Verdict
room_fault bs s t room = fault_if (ltb room (length (next_line bs s t))) room_refusal 0

abbrev pub fill_fault : List ℕ → Stage → Rows → ℕ → Verdict
fill_fault bs s t room = stage_fault bs s t then room_fault bs s t room

-- what a call answers: the part's bytes and the stage behind it, or a refusal's number and place
pub data FillAnswer : Type 0 where
  printed_to : (size : ℕ) → Stage → FillAnswer
  refused_fill : (number place : ℕ) → FillAnswer

abbrev pub fill_answer : Result Part Refusal → FillAnswer
fill_answer (Ok p) = printed_to p.size p.stage
fill_answer (Err r) = refused_fill (number r) (place r)

-- what a call answers, and leaves in the table and the lent buffer
pub record Fill : Type 0 where
  pub answer : FillAnswer
  pub table : Rows
  pub buffer : List ℕ

-- refused, all is as it was; else the part stands in the buffer, and the bytes behind it are as found
abbrev pub fill_by : Verdict → Printed → Rows → List ℕ → Fill
fill_by (fault n p) q t buffer = record { answer = refused_fill n p; table = t; buffer = buffer }
fill_by fine q t buffer = record {
  answer = printed_to (length q.text) q.to.stage;
  table = q.to.table;
  buffer = q.text ++ drop (length q.text) buffer;
}

abbrev pub fill_with : Verdict → List ℕ → Stage → Rows → List ℕ → Fill
fill_with v bs s t buffer = fill_by v (part bs (length buffer) s t) t buffer

abbrev pub fill_of : List ℕ → Stage → Rows → List ℕ → Fill
fill_of bs s t buffer = fill_with (fill_fault bs s t (length buffer)) bs s t buffer

pub record IsFill (f : Fill) (answer : FillAnswer) (t' : Rows) (buffer' : List ℕ) : Type 0 where
  pub answers : answer ≡ f.answer
  pub table : t' ≡ f.table
  pub prints : buffer' ≡ f.buffer
