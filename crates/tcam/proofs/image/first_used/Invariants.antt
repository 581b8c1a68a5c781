-- Slot by slot: those before slot j are free.
use Rattle.std.proofs.Common.{false, length}
use Rattle.tcam.specs.Loops.{is_used}
use Rattle.tcam.specs.Held.{slot_at}
use Rattle.route.proofs.Searches.{FoundFrom}
use Rattle.tcam.proofs.image.first_used.Given as goal

abbrev pub invariant-loop-j : goal.invariant-loop-j
invariant-loop-j l =
    FoundFrom is_used (slot_at l.table) l.from (length l.table.addresses.now) l.j false
