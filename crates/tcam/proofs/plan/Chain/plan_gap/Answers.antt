-- The edge entry goes to the gap first, and the chain follows.
use Rattle.std.proofs.Common.{◌≡◌, ℕ, ◌<◌, false, eqb, List, ◌∷◌, length, ap, ◌∙◌, arith}
use lib.Seq.{sets}
use Rattle.route.specs.Refusals.{fine}
use Rattle.tcam.specs.Slots.{Cell, free}
use Rattle.tcam.specs.Plans.{Write, write, with_room, numbers, remove_by}
use Rattle.tcam.specs.Loops.{edge_of}
use Rattle.tcam.specs.InTurn.{lengths_of, chain_of}
use Rattle.tcam.specs.declared.plan.Chain.{Chain}
use Rattle.tcam.specs.Held.{cells_of, slot_at}
use Rattle.tcam.proofs.Rows.{get_or-cells}
use Rattle.tcam.proofs.Planned.{planned-same, planned-put, no_room, gap-elsewhere}
use Rattle.tcam.proofs.plan.Chain.plan_gap.Goals as goal

module _ (g : Chain) (s e : ℕ) where
  abbrev table : List Cell
  table = cells_of g.table

  -- the writes where an entry moves first
  abbrev moved : List Write
  moved = write s (slot_at g.table e) ∷ chain_of g.lengths table e free

  gapped : false ≡ eqb s e → e < length g.table.addresses.now → remove_by (edge_of g.lengths.up table) table (lengths_of g.lengths) s e ≡ moved
  gapped q l = gap-elsewhere (edge_of g.lengths.up table) table (lengths_of g.lengths) s e q ∙ rw (get_or-cells g.table.addresses.now g.table.tags.now e g.table.equal l)

pub returns-then-plan-total : goal.returns-then-plan-total
returns-then-plan-total c =
    let a = c.args in
    planned-same (ap (with_room (length a.plan.now) fine) (gapped a.self.now a.s.0 a.edge.0 c.if-eq.ensures c.requires.1))
    (no_room (moved a.self.now a.s.0 a.edge.0) (omega (arith, c.writes-total.ensures.many a.edge.0 (record { address = 0; tag = 0 }))) c.if-plan-total.true)

pub put-requires-clause-last_in_bounds : goal.put-requires-clause-last_in_bounds
put-requires-clause-last_in_bounds c = omega (arith, c.writes-total.ensures.many c.args.edge.0 (record { address = 0; tag = 0 }))

pub returns : goal.returns
returns c =
    let a = c.args in
    planned-same (ap (with_room (length a.plan.now) fine) (gapped a.self.now a.s.0 a.edge.0 c.if-eq.ensures c.requires.1))
    (planned-put (moved a.self.now a.s.0 a.edge.0) (omega (arith, c.writes-total.ensures.many a.edge.0 (record { address = 0; tag = 0 }))) c.if-plan-total.false
    ((rw c.put_write.ensures at c.put.ensures)
    ∙ ap (λ (d : Cell). sets a.plan.now 0 (a.s.0 ∷ d.address ∷ d.tag ∷ numbers (chain_of a.self.now.lengths (table a.self.now a.s.0 a.edge.0) a.edge.0 free))) c.cell.ensures))
