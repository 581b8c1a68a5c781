-- Two halves, or an entry, by the form.
use Rattle.std.proofs.Common.{◌+◌, ◌*◌, sym, ◌∙◌, ap, ap₂, rules, arith}
use Rattle.dxr.specs.Dxr.{long_entry}
use Rattle.dxr.specs.Chunks.{entries_in}
use Rattle.dxr.proofs.Entries.{entries-length, fits-at, long-get, short-get}
use Rattle.dxr.proofs.chunk.Chunk.word.Goals as goal

pub entry-e-requires : goal.entry-e-requires
entry-e-requires c =
    let k = c.args.self.now in
    omega (arith, entries-length k.base k.rows.starts.now k.rows.hops.now k.rows.equal, rw c.in-Long.is at c.requires.k_bound)

pub overflow_mul-result-in-Long : goal.overflow_mul-result-in-Long
overflow_mul-result-in-Long c =
    let f = fits-at (entries_in c.args.self.now) c.args.k c.requires.encodable.fits in
    search rules

pub overflow_add-result-in-Long : goal.overflow_add-result-in-Long
overflow_add-result-in-Long c =
    let f = fits-at (entries_in c.args.self.now) c.args.k c.requires.encodable.fits in
    search rules

pub returns-in-Short : goal.returns-in-Short
returns-in-Short c =
    rw c.in-Short.is
    (ap₂ (λ x y. x * 65536 + y) c.short_half-upper.ensures.0 c.short_half.ensures.0 ∙ sym (short-get (entries_in c.args.self.now) c.args.k))

pub returns-in-Long : goal.returns-in-Long
returns-in-Long c =
    rw (c.in-Long.is, c.number_of.ensures) (ap long_entry c.entry-e.ensures ∙ sym (long-get (entries_in c.args.self.now) c.args.k))
