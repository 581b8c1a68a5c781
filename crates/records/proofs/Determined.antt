-- What a reading shows determines it, so a contract that fixes what is shown fixes the value that is returned.
use mathlib.Core.Path.{◌≡◌, refl, ap}
use Prim.Native.Nat.{ℕ}
use Rattle.std.proofs.Common.{Option, None, Some, Result, Ok, Err}
use Rattle.route.specs.declared.Prefix.{Prefix}
use Rattle.route.specs.declared.Refusal.{Refusal}
use Rattle.route.proofs.Determined.{refusal_of, refusal-back, apart}
use Rattle.records.specs.Records.{Reading, number, no_number, Update, removal, setting, Reply, update, ended, refused_at}
use Rattle.records.specs.Shown.{reading_of, update_of, reply}
use Rattle.records.specs.declared.Record.{Record}
use Rattle.records.specs.declared.Record.TheVariants.{Set, Remove}

abbrev number_of : Reading → Result (ℕ × ℕ) Refusal
number_of (number v next) = Ok (v, next)
number_of (no_number n p) = Err (refusal_of n p)

number-back : (n : Result (ℕ × ℕ) Refusal) → number_of (reading_of n) ≡ n
number-back (Ok p) = refl
number-back (Err r) = ap Err (refusal-back r).0

abbrev prefix_of : ℕ → ℕ → Prefix
prefix_of a n = record { address = a; length = record { 0 = n } }

abbrev record_of : Update → Record
record_of (removal a n) = Remove (prefix_of a n)
record_of (setting r) = Set (record { prefix = prefix_of r.address r.length; hop = record { 0 = r.hop } })

record-back : (r : Record) → record_of (update_of r) ≡ r
record-back (Set r) = refl
record-back (Remove p) = refl

abbrev step_of : Reply → Result (Option (Record × ℕ)) Refusal
step_of (update u next) = Ok (Some (record_of u, next))
step_of ended = Ok None
step_of (refused_at n p) = Err (refusal_of n p)

step_back : (s : Result (Option (Record × ℕ)) Refusal) → step_of (reply s) ≡ s
step_back (Ok None) = refl
step_back (Ok (Some p)) = ap (λ x. Ok (Some (x, p.1))) (record-back p.0)
step_back (Err r) = ap Err (refusal-back r).0

pub number-determined : (m n : Result (ℕ × ℕ) Refusal) → reading_of m ≡ reading_of n → m ≡ n
number-determined = apart reading_of number_of number-back

pub step-determined : (s t : Result (Option (Record × ℕ)) Refusal) → reply s ≡ reply t → s ≡ t
step-determined = apart reply step_of step_back
