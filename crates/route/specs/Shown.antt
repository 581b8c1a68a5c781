-- The specification's numbers for the code's types: a refusal's number and place, what an answer shows, the route of a prefix.
--
-- What is shown tells any two answers apart (proofs/Determined), so that a contract which fixes what is shown fixes the value.
use Rattle.std.specs.Prelude.{ℕ, cond, eqb, Option, None, Some, Result, Ok, Err}
use Rattle.route.specs.Rule.{Route, route}
use Rattle.route.specs.Refusals.{Answer, value, refused, Verdict, fine, fault}
use Rattle.route.specs.Refusals.{length_refusal, address_refusal, hop_refusal, twice_refusal, full_refusal, absent_refusal, image_refusal}
use Rattle.route.specs.Refusals.{size_refusal, room_refusal, plan_refusal, number_refusal, cut_refusal, kind_refusal}
use Rattle.route.specs.declared.Route.{Route as RouteStruct}
use Rattle.route.specs.declared.Refusal.{Refusal}
use Rattle.route.specs.declared.Refusal.TheVariants.{Length, Address, Hop, Twice, Full, Absent, Image, Size, Room, Plan, Number, Cut, Kind}
use Rattle.route.specs.declared.Hop.{Hop as NextHop}

abbrev pub route_of : RouteStruct → Route
route_of r = route r.prefix.address r.prefix.length.0 r.hop.0

-- the number of a hop or none
abbrev pub hop_number : Option NextHop → ℕ
hop_number None = 0
hop_number (Some h) = h.0

-- the number of a refusal
abbrev pub number : Refusal → ℕ
number (Length p) = length_refusal
number (Address p) = address_refusal
number (Hop p) = hop_refusal
number (Twice p) = twice_refusal
number Full = full_refusal
number Absent = absent_refusal
number (Image p) = image_refusal
number Size = size_refusal
number Room = room_refusal
number (Plan p) = plan_refusal
number (Number p) = number_refusal
number (Cut p) = cut_refusal
number (Kind p) = kind_refusal

-- the place of a refusal
abbrev pub place : Refusal → ℕ
place (Length p) = p
place (Address p) = p
place (Hop p) = p
place (Twice p) = p
place Full = 0
place Absent = 0
place (Image p) = p
place Size = 0
place Room = 0
place (Plan p) = p
place (Number p) = p
place (Cut p) = p
place (Kind p) = p

abbrev pub verdict_of : Result (Unit {0}) Refusal → Verdict
verdict_of (Ok u) = fine
verdict_of (Err r) = fault (number r) (place r)

abbrev pub counted : Result ℕ Refusal → Answer
counted (Ok n) = value n
counted (Err r) = refused (number r) (place r)

-- no hop is 0: a hop 0 is no answer of the specification's
abbrev pub shown : Result (Option NextHop) Refusal → Answer
shown (Ok None) = value 0
shown (Ok (Some h)) = cond (eqb h.0 0) (refused 0 0) (value h.0)
shown (Err r) = refused (number r) (place r)
