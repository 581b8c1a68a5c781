-- The claim about a report's parts: one after another they are the report.
use Rattle.std.specs.Prelude.{ℕ, ◌≤◌, ◌<◌, ◌≡◌, true, false, List, [], ◌∷◌, ◌++◌, ◌↔◌, length}
use Rattle.route.specs.Refusals.{Verdict, fine, fault}
use Rattle.route.specs.RightHop.{◌∈◌}
use Rattle.lines.specs.Lines.{max_line}
use Rattle.history.specs.Reports.{report_slots, empty_rows, report}
use Rattle.history.specs.Stages.{start_of, is_done, Run, run, steps_left}
use Rattle.history.specs.Fills.{Printed, behind_text, part, next_line, fill_fault}

-- what a call prints, and how far the report has come then; a refused one prints nothing
abbrev pub answered : Verdict → Printed → Run → Printed
answered (fault n p) q r = record { text = []; to = r }
answered fine q r = q

abbrev pub called : List ℕ → ℕ → Run → Printed
called bs room r = answered (fill_fault bs r.stage r.table room) (part bs room r.stage r.table) r

-- the parts for buffers of these lengths, one after another
abbrev pub parts : List ℕ → List ℕ → Run → Printed
parts bs [] r = record { text = []; to = r }
parts bs (room ∷ rooms) r = behind_text (called bs room r).text (parts bs rooms (called bs room r).to)

-- a report at its start, and behind the parts for these buffers
abbrev pub started : List ℕ → Run
started bs = run (start_of (length bs)) (empty_rows report_slots)

abbrev pub behind : List ℕ → List ℕ → Run
behind bs rooms = (parts bs rooms (started bs)).to

-- the next line behind these parts
abbrev pub next : List ℕ → List ℕ → List ℕ
next bs rooms = next_line bs (behind bs rooms).stage (behind bs rooms).table

-- whatever the buffers' lengths: the report goes on with the next line; a buffer is accepted exactly where that line fits it, and then
-- something is printed, unless the report is done; no line exceeds 256 bytes; if the report is done, the parts are the whole of it; and
-- it is done where every buffer has room for 256 bytes and there are as many buffers as steps
pub record WholeReport (bs rooms : List ℕ) : Type 0 where
  pub goes_on : (rest : List ℕ) × (report bs ≡ (parts bs rooms (started bs)).text ++ (next bs rooms ++ rest))
  pub accepted : (room : ℕ) → (fill_fault bs (behind bs rooms).stage (behind bs rooms).table room ≡ fine) ↔ (length (next bs rooms) ≤ room)
  pub prints :
      (room : ℕ) → length (next bs rooms) ≤ room → is_done (behind bs rooms).stage ≡ false →
      0 < length (part bs room (behind bs rooms).stage (behind bs rooms).table).text
  pub lines : length (next bs rooms) ≤ max_line
  pub whole : is_done (behind bs rooms).stage ≡ true → (parts bs rooms (started bs)).text ≡ report bs
  pub ends :
      ((room : ℕ) → room ∈ rooms → max_line ≤ room) →
      steps_left (length bs) report_slots (start_of (length bs)) ≤ length rooms →
      is_done (behind bs rooms).stage ≡ true
