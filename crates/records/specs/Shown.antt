-- What the code's results show: a number that was read, an update, and the reply that a reading is.
use Rattle.std.specs.Prelude.{ℕ, Option, None, Some, Result, Ok, Err}
use Rattle.route.specs.Shown.{route_of}
use Rattle.route.specs.Shown as Route
use Rattle.route.specs.declared.Refusal.{Refusal}
use Rattle.records.specs.Records.{Reading, number, no_number, Update, removal, setting, Reply, update, ended, refused_at}
use Rattle.records.specs.declared.Record.{Record}
use Rattle.records.specs.declared.Record.TheVariants.{Set, Remove}
use Rattle.records.specs.declared.Kind.{Kind}
use Rattle.records.specs.declared.Kind.TheVariants.{Set as ToSet, Remove as ToRemove}

-- the number of a kind
abbrev pub kind_number : Kind → ℕ
kind_number ToRemove = 0
kind_number ToSet = 1

-- what was read, as its number, with the place behind it
abbrev pub reading_by : {A : Type 0} → (A → ℕ) → Result (A × ℕ) Refusal → Reading
reading_by f (Ok p) = number (f p.0) p.1
reading_by f (Err r) = no_number (Route.number r) (Route.place r)

-- a number that was read
abbrev pub reading_of : Result (ℕ × ℕ) Refusal → Reading
reading_of r = reading_by (λ v. v) r

abbrev pub update_of : Record → Update
update_of (Set r) = setting (route_of r)
update_of (Remove p) = removal p.address p.length.0

-- a record with the next place, the end of the input, or a refusal
abbrev pub reply : Result (Option (Record × ℕ)) Refusal → Reply
reply (Ok None) = ended
reply (Ok (Some p)) = update (update_of p.0) p.1
reply (Err r) = refused_at (Route.number r) (Route.place r)
