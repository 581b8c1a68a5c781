-- The chunk in which the next range starts has the ranges from the last that starts at or before its first address to the last in it.
use Rattle.std.proofs.Common.{◌+◌, ◌*◌, ◌/◌, refl, ◌∙◌, ap₂, arith, rules, get_or}
use Rattle.dxr.specs.Loops.{entries_from}
use Rattle.dxr.proofs.Parts.{chunk_part, last_later}
use Rattle.dxr.proofs.build.Table.next_chunk.Goals as goal

pub returns : goal.returns
returns c = record {
  more = omega (arith, c.len.ensures);
  later = last_later c.args.from c.last_at-last.ensures.0 (omega arith) (omega (arith, c.len.ensures)) (omega arith);
  is = refl;
  there = search rules;
  stop = c.last_at-last.ensures.0;
  entries =
      ap₂ (entries_from (get_or c.args.self.now.rows.starts.now (c.args.from + 1) 0 / 65536 * 65536)) c.part.ensures.starts c.part.ensures.hops
      ∙ chunk_part (record { some = omega arith; start = c.last_at-first.ensures.0; stop = c.last_at-last.ensures.0 }) c.args.self.now.splittable;
}
