-- A record leads to the stage behind it; a slot has its line.
use Rattle.history.specs.Reports.{rows}
use Rattle.history.proofs.Stages.{step-ready}
use Rattle.history.proofs.Steps.{slot-fits, step-slot}
use Rattle.history.proofs.step.Report.step.Goals as goal

pub invariant_of-self-in-Reading : goal.invariant_of-self-in-Reading
invariant_of-self-in-Reading c =
    let s = c.args.self.now in
    let h = c.record_step-made.ensures in
    record { ready = rw (h.unchanged.1, h.step.stage, h.step.table) (step-ready s.bytes.now s.stage (rows s.addresses.now s.tags.now) s.ready) }

pub slot_line-requires : goal.slot_line-requires
slot_line-requires c =
    let s = c.args.self.now in
    slot-fits c.in-Listing.slot.0 (rows s.addresses.now s.tags.now) c.if-self-i.false s.ready.equal (rw c.in-Listing.is at c.requires)

pub returns-else-self-i-clause-step : goal.returns-else-self-i-clause-step
returns-else-self-i-clause-step c =
    let s = c.args.self.now in
    rw c.in-Listing.is (step-slot _ (rows s.addresses.now s.tags.now) c.if-self-i.false s.ready.equal c.slot_line.ensures)
