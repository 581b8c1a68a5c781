-- The row has room for the most writes of a removal, and a set has fewer.
use native.Mathlib.Omega.{arith}
use Rattle.tcam.proofs.Most.{set-has-room, remove-has-room}
use Rattle.records.specs.Records.{setting, removal}
use Rattle.history.specs.Reports.{plan_room}
use Rattle.claims.specs.PlanRoom.{PlansHaveRoom}

pub plans_have_room : PlansHaveRoom
plans_have_room t (setting r) = set-has-room 32 t.addresses t.tags r.address r.length r.hop plan_room (omega arith)
plans_have_room t (removal a n) = remove-has-room 32 t.addresses t.tags a n plan_room (omega arith)
