-- The report lends each plan a row of cells. Whatever the table's rows hold and whatever the update, the plan is not refused for want of
-- room there (refusal 9): so no line of a report has that refusal.
use Rattle.std.specs.Prelude.{ℕ, ◌≢◌}
use Rattle.route.specs.Refusals.{refused, room_refusal}
use Rattle.tcam.specs.Plans.{plan_answer}
use Rattle.records.specs.Records.{Update}
use Rattle.history.specs.Reports.{Rows, plan_room, plan_of}

abbrev pub PlansHaveRoom : Type 0
PlansHaveRoom = (t : Rows) (u : Update) (place : ℕ) → plan_answer (plan_of t u plan_room) ≢ refused room_refusal place
