-- There are as many words as the part has.
use Rattle.std.proofs.Common.{sym, ◌∙◌, arith}
use Rattle.route.proofs.Fills.{fill_start, fill-turn, fill-whole}
use Rattle.dxr.specs.Shown.{is_short_form}
use Rattle.dxr.specs.Chunks.{entries_in}
use Rattle.dxr.proofs.ChunkWords.{encoded_length}
use Rattle.dxr.proofs.chunk.Chunk.put_words.Goals as goal

pub loop-k-init : goal.loop-k-init
loop-k-init c = fill_start (omega (arith, encoded_length (is_short_form c.args.form) (entries_in c.args.self.now)))

pub loop-k-preserved : goal.loop-k-preserved
loop-k-preserved c =
    fill-turn c.loop-k.invariant (omega (arith, encoded_length (is_short_form c.args.form) (entries_in c.args.self.now))) c.word.ensures

pub returns : goal.returns
returns c =
    let n = encoded_length (is_short_form c.args.form) (entries_in c.args.self.now) in
    fill-whole c.loop-k.invariant (n ∙ sym c.requires.part_len) (omega (arith, n))
