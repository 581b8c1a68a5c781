-- What a call across the C interface answers: refusal 0 and the value, or the refusal's number and place.
use Rattle.route.specs.Refusals.{Answer, value, refused}
use Rattle.hawkmortar.specs.declared.Outcome.{Outcome}

abbrev pub outcome : Answer → Outcome
outcome (value v) = record { refusal = 0; value = v }
outcome (refused number place) = record { refusal = number; value = place }
