-- The edges on the other side's direction give the length's own edge, and the chain from there is the definition's.
use Rattle.std.proofs.Common.{◌≡◌, ℕ, ◌<◌, length, refl, ap, ◌∙◌}
use Rattle.std.specs.Prelude.{Option, None, Some, IfSome}
use Rattle.std.specs.Option.{unwrap_or}
use Rattle.route.specs.Refusals.{fine}
use Rattle.route.specs.declared.Slot.{Slot}
use Rattle.tcam.specs.Plans.{open_after, with_room}
use Rattle.tcam.specs.Shown.{place_of}
use Rattle.tcam.specs.Held.{cells_of}
use Rattle.tcam.proofs.Planned.{planned-same, lt-test, erase-chain}
use Rattle.tcam.proofs.plan.erase.Goals as goal

-- the slot that was found, or else the other
or-other : (o : Option Slot) (s : Slot) → (unwrap_or o s).0 ≡ open_after s.0 (place_of o)
or-other None s = refl
or-other (Some t) s = refl

or-inside : (o : Option Slot) (s : Slot) (n : ℕ) → IfSome o (λ t. t.0 < n) → s.0 < n → (unwrap_or o s).0 < n
or-inside None s n h l = l
or-inside (Some t) s n h l = h

pub plan_gap-requires : goal.plan_gap-requires
plan_gap-requires c =
    let e = c.to-chain.ensures.table.0 in
    let inside : c.args.s.0 < length c.to-chain.result.table.addresses.now = rw e c.requires.2 in
    (inside, rw c.unwrap_or.ensures (or-inside c.edge.result c.args.s _ c.edge.ensures.inside inside))

pub returns : goal.returns
returns c =
    let a = c.args in
    let e = c.to-chain.ensures in
    let cs = cells_of a.table.now in
    planned-same (ap (with_room (length a.plan.now) fine)
    (erase-chain 32 cs a.n.0 a.s.0 c.to-chain.result.lengths (e.up ∙ c.lt.ensures ∙ lt-test a.n.0 16) e.lengths
    (rw c.unwrap_or.ensures (or-other c.edge.result a.s ∙ ap (open_after a.s.0) (rw (e.table.0, e.table.1) at c.edge.ensures.edge)))))
    (rw (e.table.0, e.table.1) at c.plan_gap.ensures)
