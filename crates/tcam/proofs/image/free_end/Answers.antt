-- The first used slot is in the block that has one, or all slots are free.
use Rattle.std.proofs.Common.{rules, ℕ}
use Rattle.tcam.specs.Loops.{is_used}
use Rattle.tcam.specs.Held.{slot_at}
use Rattle.tcam.proofs.Images.{free-before, free-all}
use Rattle.tcam.proofs.image.free_end.Goals as goal

pub returns-in-Some : goal.returns-in-Some
returns-in-Some c =
    let t = c.args.table.now in
    free-before t.addresses.now t.tags.now (search rules)
    (rw c.len-end.ensures at (c.in-Some.ensures.found (λ (i : ℕ). is_used (slot_at t i)) (λ j b l m e. search rules)))
    c.first_used.ensures

pub returns-in-None : goal.returns-in-None
returns-in-None c =
    let t = c.args.table.now in
    rw c.len-end.ensures (free-all t.addresses.now t.tags.now c.requires
    (rw c.len-end.ensures at (c.in-None.ensures.found (λ (i : ℕ). is_used (slot_at t i)) (λ j b l m e. search rules))))
