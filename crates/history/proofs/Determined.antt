-- What a part shows determines it, so a contract that fixes what is shown fixes the value that is returned.
use mathlib.Core.Path.{◌≡◌, refl, ap}
use Rattle.std.specs.Prelude.{Result, Ok, Err}
use Rattle.route.specs.declared.Refusal.{Refusal}
use Rattle.route.proofs.Determined.{refusal_of, refusal-back, apart}
use Rattle.history.specs.Fills.{FillAnswer, printed_to, refused_fill, fill_answer}
use Rattle.history.specs.declared.fill.Part.{Part}

abbrev filled_of : FillAnswer → Result Part Refusal
filled_of (printed_to n s) = Ok (record { size = n; stage = s })
filled_of (refused_fill n p) = Err (refusal_of n p)

filled-back : (f : Result Part Refusal) → filled_of (fill_answer f) ≡ f
filled-back (Ok p) = refl
filled-back (Err r) = ap Err (refusal-back r).0

pub filled-determined : (f g : Result Part Refusal) → fill_answer f ≡ fill_answer g → f ≡ g
filled-determined = apart fill_answer filled_of filled-back
