-- The pass over the entries, then the entry that its count says.
use Rattle.std.proofs.Common.{◌<◌, ◌∙◌, sym, arith}
use Rattle.std.proofs.lemmas.Bool.{not-false}
use Rattle.dxr.specs.Shown.{is_short_form}
use Rattle.dxr.proofs.Scans.{passed-within, passed-hop, decoded-length, decoded-get, entry-within}
use Rattle.dxr.proofs.lookup.Entries.look_through.Goals as goal
use Rattle.dxr.proofs.lookup.Entries.look_through.Goals.{After-pass-p}

-- the count is that of one of the entries
within : (c : After-pass-p) → c.pass-p.result.below < c.args.self.now.count
within c =
    let e = c.args.self.now in
    let many = decoded-length (is_short_form e.form) e.count e.words.now e.sized in
    rw many at (passed-within c.pass-p.ensures (omega (arith, many, e.many)))

pub entry_at-requires : goal.entry_at-requires
entry_at-requires c =
    let e = c.args.self.now in
    entry-within (is_short_form e.form) e.count e.words.now e.sized _ (within (goal.at.entry_at-requires c).After-pass-p)

pub returns : goal.returns
returns c =
    let e = c.args.self.now in
    c.entry_at.ensures.hop
    ∙ passed-hop c.pass-p.ensures c.args.chunk (not-false c.pass-p.result.fine c.if-not-p.false)
    (c.entry_at.ensures.range ∙ sym (decoded-get (is_short_form e.form) e.count e.words.now e.sized _ (within (goal.at.returns c).After-pass-p)))
