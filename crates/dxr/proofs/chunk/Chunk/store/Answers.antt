-- Nothing but the hop, or the chunk's words behind those that are used.
use Rattle.std.proofs.Common.{◌+◌, ap, rules}
use Rattle.dxr.proofs.Entries.{stored-one, stored-form, stored-end, stored-size, stored-many}
use Rattle.dxr.proofs.chunk.Chunk.store.Goals as goal

pub slice_bounds-put_words-end : goal.slice_bounds-put_words-end
slice_bounds-put_words-end c =
    let l = stored-end c.requires c.in-Pointer.p c.in-Pointer.ensures (rw c.in-Pointer.is at c.words.ensures) in
    search rules

pub put_words-requires : goal.put_words-requires
put_words-requires c =
    record {
      encodable = stored-form c.requires c.in-Pointer.p c.in-Pointer.ensures;
      part_len = stored-size c.requires c.in-Pointer.p c.in-Pointer.ensures (rw c.in-Pointer.is at c.words.ensures);
    }

pub returns-in-Pointer : goal.returns-in-Pointer
returns-in-Pointer c =
    let word = rw c.in-Pointer.is at c.word.ensures in
    let many = rw c.in-Pointer.is at c.words.ensures in
    stored-many c.requires c.in-Pointer.p c.in-Pointer.ensures many c.put_words.ensures word (ap (λ n. c.args.used + n) many)

pub returns-in_default : goal.returns-in_default
returns-in_default c =
    let word = rw c.in_default.is at c.word.ensures in
    let many = rw c.in_default.is at c.words.ensures in
    stored-one c.requires c.in_default.field-0 c.in_default.ensures word (ap (λ n. c.args.used + n) many)
