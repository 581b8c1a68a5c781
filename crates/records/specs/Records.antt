-- Update records: numbers in groups of seven bits, low group first, and the record at a place of the input.
--
-- A record is its kind, the length of a prefix, the address divided by the prefix's span and, for a set, the hop. Each number is read and
-- checked before the next. A number at fault is refused at its first byte; bytes that end inside a record, at the place where they end.
use Rattle.std.specs.Prelude.{ℕ, ◌+◌, ◌-◌, ◌*◌, ◌^◌, Bool, cond, ◌&&◌, ◌||◌, List, [], ◌∷◌, leb, ltb, eqb, length, drop}
use Rattle.route.specs.Rule.{Route, route, span}
use Rattle.route.specs.Refusals.{Verdict, fine, fault, fault_if, hop_fault}
use Rattle.route.specs.Refusals.{length_refusal, address_refusal, size_refusal, number_refusal, cut_refusal, kind_refusal}

-- a number with the place behind it, or a refusal
pub data Reading : Type 0 where
  number : (value next : ℕ) → Reading
  no_number : (refusal place : ℕ) → Reading

-- a fifth byte over 15 takes the number past 2^32 - 1; a byte 0 behind the first makes it longer than needed
abbrev pub bad_byte : ℕ → ℕ → Bool
bad_byte k b = (eqb k 4 && ltb 15 b) || (ltb 0 k && eqb b 0)

-- the number whose first byte stands at `first` and of which k bytes have been read, with the value v; the bytes are those that follow
abbrev pub number_in : ℕ → ℕ → ℕ → List ℕ → Reading
number_in first k v [] = no_number cut_refusal (first + k)
number_in first k v (b ∷ bs) =
    cond (bad_byte k b) (no_number number_refusal first)
    (cond (ltb b 128) (number (v + b * 128 ^ k) (first + k + 1)) (number_in first (k + 1) (v + (b - 128) * 128 ^ k) bs))

-- the number at a place
abbrev pub number_at : List ℕ → ℕ → Reading
number_at bs at = number_in at 0 0 (drop at bs)

-- a number that was read, unless a test finds a fault in its value
abbrev pub unless : Verdict → Reading → Reading
unless fine r = r
unless (fault n p) r = no_number n p

abbrev pub judged : (ℕ → Verdict) → Reading → Reading
judged test (number v next) = unless (test v) (number v next)
judged test (no_number n p) = no_number n p

-- the number at a place, read and checked
abbrev pub checked_at : List ℕ → ℕ → (ℕ → Verdict) → Reading
checked_at bs at test = judged test (number_at bs at)

-- what a record asks for
pub data Update : Type 0 where
  removal : (address length : ℕ) → Update
  setting : Route → Update

-- what a reader answers: an update with the next place, the end of the input, or a refusal
pub data Reply : Type 0 where
  update : Update → (next : ℕ) → Reply
  ended : Reply
  refused_at : (number place : ℕ) → Reply

-- go on with a number and the place behind it
abbrev pub go_on : Reading → (ℕ → ℕ → Reply) → Reply
go_on (number v next) go = go v next
go_on (no_number n p) go = refused_at n p

-- the hop of a set of the prefix a/n
abbrev pub hop_from : List ℕ → ℕ → ℕ → ℕ → Reply
hop_from bs at a n = go_on (checked_at bs at (hop_fault at)) λ h next. update (setting (route a n h)) next

-- the address, as its quotient by the span, and what follows it
abbrev pub address_from : ℕ → List ℕ → ℕ → ℕ → ℕ → Reply
address_from W bs at kind n =
    go_on (checked_at bs at λ x. fault_if (leb (2 ^ n) x) address_refusal at) λ x next.
    cond (eqb kind 0) (update (removal (x * span W n) n) next) (hop_from bs next (x * span W n) n)

-- the length, and what follows it
abbrev pub length_from : ℕ → List ℕ → ℕ → ℕ → Reply
length_from W bs at kind =
    go_on (checked_at bs at λ n. fault_if (ltb W n) length_refusal at) λ n next. address_from W bs next kind n

-- the kind, 0 for a removal and 1 for a set, and what follows it
abbrev pub kind_from : ℕ → List ℕ → ℕ → Reply
kind_from W bs at = go_on (checked_at bs at λ kind. fault_if (ltb 1 kind) kind_refusal at) λ kind next. length_from W bs next kind

-- what stands at a place of the input
abbrev pub record_at : ℕ → List ℕ → ℕ → Reply
record_at W bs at =
    cond (ltb (length bs) at) (refused_at size_refusal 0) (cond (eqb at (length bs)) ended (kind_from W bs at))
