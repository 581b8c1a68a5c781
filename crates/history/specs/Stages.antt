-- A report in steps: what is printed at each stage, the table then, and the stage behind it.
use Rattle.std.specs.Prelude.{ℕ, ◌+◌, ◌-◌, Bool, true, false, cond, ◌&&◌, List, [], ◌++◌, leb, ltb, length, get_or, drop}
use Rattle.tcam.specs.Slots.{free}
use Rattle.records.specs.Records.{Reply, update, ended, refused_at, record_at}
use Rattle.lines.specs.Lines.{header_line, refused_line, end_line, too_long_line}
use Rattle.history.specs.Reports.{max_input, Rows, slots, after_update, reported_text, slot_text, slot_texts, items, history}
use Rattle.route.specs.declared.Slot.{Slot}
use Rattle.history.specs.declared.Stage.{Stage}
use Rattle.history.specs.declared.Stage.TheVariants.{TooLong, Header, Reading, Listing, Done}

abbrev pub slot_at : ℕ → Slot
slot_at i = record { 0 = i }

-- where the report of so many bytes starts
abbrev pub start_of : ℕ → Stage
start_of size = cond (ltb max_input size) TooLong Header

abbrev pub is_done : Stage → Bool
is_done TooLong = false
is_done Header = false
is_done (Reading read at) = false
is_done (Listing slot) = false
is_done Done = true

-- a stage of a report of so many bytes: no more records than bytes were read, and the place is not past the input
abbrev pub is_stage_of : ℕ → Stage → Bool
is_stage_of size TooLong = true
is_stage_of size Header = true
is_stage_of size (Reading read at) = leb read at && leb at size
is_stage_of size (Listing slot) = true
is_stage_of size Done = true

-- how far a report has come, and its table
pub record Run : Type 0 where
  pub stage : Stage
  pub table : Rows

abbrev pub run : Stage → Rows → Run
run s t = record { stage = s; table = t }

-- what is printed of the record that is read: its line
abbrev pub record_text : ℕ → Rows → Reply → List ℕ
record_text nth t (update u next) = reported_text nth t u
record_text nth t ended = []
record_text nth t (refused_at n p) = refused_line nth n

abbrev pub behind_record : ℕ → Rows → Reply → Run
behind_record nth t (update u next) = run (Reading nth next) (after_update t u)
behind_record nth t ended = run (Listing (slot_at 0)) t
behind_record nth t (refused_at n p) = run (Listing (slot_at 0)) t

-- what a step prints: one line, or nothing
abbrev pub step_text : List ℕ → Stage → Rows → List ℕ
step_text bs TooLong t = too_long_line
step_text bs Header t = header_line (length t.addresses)
step_text bs (Reading read at) t = record_text (read + 1) t (record_at 32 bs at)
step_text bs (Listing slot) t = cond (ltb slot.0 (length t.addresses)) (slot_text slot.0 (get_or (slots t) slot.0 free)) end_line
step_text bs Done t = []

-- and where it leads
abbrev pub step_to : List ℕ → Stage → Rows → Run
step_to bs TooLong t = run Done t
step_to bs Header t = run (Reading 0 0) t
step_to bs (Reading read at) t = behind_record (read + 1) t (record_at 32 bs at)
step_to bs (Listing slot) t = run (cond (ltb slot.0 (length t.addresses)) (Listing (slot_at (slot.0 + 1))) Done) t
step_to bs Done t = run Done t

-- what is left to print
abbrev pub left : List ℕ → Stage → Rows → List ℕ
left bs TooLong t = too_long_line
left bs Header t = header_line (length t.addresses) ++ history 1 t (items (length bs) bs 0)
left bs (Reading read at) t = history (read + 1) t (items (length bs - at) bs at)
left bs (Listing slot) t = slot_texts slot.0 (drop slot.0 (slots t)) ++ end_line
left bs Done t = []

-- at most so many steps are left, for so many bytes and M slots
abbrev pub steps_left : ℕ → ℕ → Stage → ℕ
steps_left size M TooLong = 1
steps_left size M Header = 3 + (size + M)
steps_left size M (Reading read at) = 2 + (size - at + M)
steps_left size M (Listing slot) = 1 + (M - slot.0)
steps_left size M Done = 0
