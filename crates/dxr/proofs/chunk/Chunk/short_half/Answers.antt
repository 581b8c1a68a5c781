-- The entry's bits, or 0 behind the last.
use Rattle.std.proofs.Common.{ap, refl, arith, rules}
use Rattle.dxr.specs.Dxr.{short_entry}
use Rattle.dxr.specs.Chunks.{entries_in}
use Rattle.dxr.proofs.Entries.{fits-at, short-at, entry-none}
use Rattle.dxr.proofs.chunk.Chunk.short_half.Goals as goal

pub overflow_add-result : goal.overflow_add-result
overflow_add-result c =
    let f = fits-at (entries_in c.args.self.now) c.args.i c.requires.fits in
    let h = short-at (entries_in c.args.self.now) c.args.i (c.requires.suits refl) in
    search rules

pub returns-then-i-len : goal.returns-then-i-len
returns-then-i-len c =
    let f = fits-at (entries_in c.args.self.now) c.args.i c.requires.fits in
    let h = short-at (entries_in c.args.self.now) c.args.i (c.requires.suits refl) in
    let e = ap short_entry c.entry-e.ensures in
    (rw c.number_of.ensures e, omega (arith, c.number_of.ensures, e))

pub returns-else-i-len : goal.returns-else-i-len
returns-else-i-len c = (entry-none (entries_in c.args.self.now) c.args.i (search rules), omega arith)
