-- What a call shows determines the value that it returns. So a contract that fixes the number, the place and the values fixes the result.
use Rattle.std.specs.Prelude.{◌≡◌, ℕ, Option, Result}
use Rattle.route.specs.Shown.{verdict_of, counted, shown}
use Rattle.route.specs.declared.Refusal.{Refusal}
use Rattle.route.specs.declared.Hop.{Hop}
use Rattle.tcam.specs.Shown.{next_of}
use Rattle.tcam.specs.declared.slots.Cell.{Cell}
use Rattle.records.specs.Shown.{reply}
use Rattle.records.specs.declared.Record.{Record}
use Rattle.history.specs.Fills.{fill_answer}
use Rattle.history.specs.declared.fill.Part.{Part}

-- a test, a count, a lookup, a download, a record's reading, and a part of a report
pub record Determined : Type 0 where
  pub checks : (c d : Result (Unit {0}) Refusal) → verdict_of c ≡ verdict_of d → c ≡ d
  pub counts : (c d : Result ℕ Refusal) → counted c ≡ counted d → c ≡ d
  pub lookups : (f g : Result (Option Hop) Refusal) → shown f ≡ shown g → f ≡ g
  pub downloads : (r s : Result (Option Cell) Refusal) → next_of r ≡ next_of s → r ≡ s
  pub readings : (s t : Result (Option (Record × ℕ)) Refusal) → reply s ≡ reply t → s ≡ t
  pub parts : (f g : Result Part Refusal) → fill_answer f ≡ fill_answer g → f ≡ g
