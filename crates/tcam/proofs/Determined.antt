-- What a download's answer shows determines it, so a contract that fixes what is shown fixes the value that is returned.
use Rattle.std.proofs.Common.{◌≡◌, refl, ap}
use Rattle.std.specs.Prelude.{Option, None, Some, Result, Ok, Err}
use Rattle.route.specs.declared.Refusal.{Refusal}
use Rattle.route.proofs.Determined.{refusal_of, refusal-back, apart}
use Rattle.tcam.specs.Download.{Next, entry, end, refusal}
use Rattle.tcam.specs.Shown.{next_of}
use Rattle.tcam.specs.declared.slots.Cell.{Cell}

abbrev answer_of : Next → Result (Option Cell) Refusal
answer_of (entry a n t) = Ok (Some (record { address = a; tag = t }))
answer_of end = Ok None
answer_of (refusal n p) = Err (refusal_of n p)

next-back : (r : Result (Option Cell) Refusal) → answer_of (next_of r) ≡ r
next-back (Ok None) = refl
next-back (Ok (Some c)) = refl
next-back (Err r) = ap Err (refusal-back r).0

pub next-determined : (r s : Result (Option Cell) Refusal) → next_of r ≡ next_of s → r ≡ s
next-determined = apart next_of answer_of next-back
