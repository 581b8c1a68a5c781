-- A turn: the filter keeps its length, and no earlier entry has the prefix of entry i. The loop was left at an earlier entry with the prefix of entry i.
use borrow.Author.Rules.{rules}
use mathlib.Core.Path.{◌≡◌, sym, ◌∙◌}
use lib.ListN.{length}
use native.Mathlib.Omega.{arith}
use Prim.Native.Nat.{◌<◌}
use Rattle.route.specs.Entries.{routes_of}
use Rattle.route.specs.Shown.{route_of}
use Rattle.route.proofs.Entries.{checked-twice, checked-turn, one-prefix}
use Rattle.route.proofs.Searches.{none-hit}
use Rattle.route.proofs.Notes.{noted-turn, noted-none}
use Rattle.route.proofs.list.List.check_with.Goals as goal
use Rattle.route.proofs.list.List.check_with.Goals.{else-entries-test, then-entries-test+in_ok-entry_check+then-note+then-loop-j-test+then-has_prefix, then-note+else-loop-j-test, else-note}

pub returns-in-Some : goal.returns-in-Some
returns-in-Some g c =
    elim c.entries-test.branch [
      | else-entries-test w ↦ cc
      | then-entries-test+in_ok-entry_check+then-note+then-loop-j-test+then-has_prefix w ↦
          let at = checked-twice c.entries.invariant.0 (search rules) w.entry-r.ensures w.in_ok-entry_check.ensures
          (none-hit w.loop-j.invariant.0 w.loop-j-test.true w.entry.ensures (sym w.has_prefix.ensures ∙ w.if-has_prefix.true)) in
          cc
    ]

pub entries-preserved : goal.entries-preserved
entries-preserved g c =
    let inv = c.entries.invariant in
    let inside : c.entries.i < length (routes_of c.args.self.now) = omega arith in
    let noted = noted-turn inv.1 one-prefix c.entry-r.ensures c.note.ensures.noting c.note.ensures.words_len_unchanged in
    elim c.if-note.branch [
      | then-note+else-loop-j-test w ↦
          let none : w.loop-j.j ≡ c.entries.i = omega arith in
          (checked-turn inv.0 inside c.entry-r.ensures c.in_ok-entry_check.ensures (rw none at w.loop-j.invariant.0.none), noted, cc)
      | else-note w ↦
          (checked-turn inv.0 inside c.entry-r.ensures c.in_ok-entry_check.ensures (noted-none inv.1 (route_of c.entry-r.result) (sym c.note.ensures.noting.asked ∙ w.if-note.false)), noted, cc)
    ]
