-- A free slot with those that follow it, or an entry.
use Rattle.std.proofs.Common.{sym, ap, ◌∙◌, rules}
use Rattle.tcam.specs.Slots.{is_free}
use Rattle.tcam.proofs.Tested.{tested-with, tested-past, none_between}
use Rattle.tcam.proofs.image.Here.past.Goals as goal

pub returns-then-is_free : goal.returns-then-is_free
returns-then-is_free c =
    let h = c.args.self.now in
    let r = c.free_end-next.ensures.between in record {
      tested = tested-past h.table.now.addresses.now h.table.now.tags.now h.tested h.placed
          (sym (ap is_free h.holds) ∙ sym c.is_free.ensures ∙ c.if-is_free.true) r c.past.ensures;
      free = r;
    }

pub returns : goal.returns
returns c =
    let h = c.args.self.now in record {
      tested = tested-with h.table.now.addresses.now h.table.now.tags.now h.tested h.placed h.holds
          (sym c.is_free.ensures ∙ c.if-is_free.false) c.with.ensures;
      free = none_between (search rules);
    }
