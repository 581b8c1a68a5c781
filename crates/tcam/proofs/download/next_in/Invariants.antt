-- Slot by slot: those before slot i keep S1, and the entry kept of them, which is in the table, gives the answer with those left, whatever
-- the least key is of.
use Rattle.std.specs.Prelude.{◌<◌, length, IfSome}
use Rattle.tcam.specs.Download.{From}
use Rattle.tcam.specs.Loops.{IsLeast}
use Rattle.tcam.proofs.DownloadPass.{PassAt}
use Rattle.tcam.proofs.download.next_in.Given as goal

abbrev pub invariant-loop-i : goal.invariant-loop-i
invariant-loop-i l =
    IfSome l.next (λ s. s.0 < length l.table.addresses.now)
    × ((from : From) → IsLeast from l.least → PassAt 32 l.table.addresses.now l.table.tags.now from l.least l.nearest l.next l.i)
