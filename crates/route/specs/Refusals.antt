-- Refusals by their numbers, and the order in which they are tested.
--
-- A test finds nothing wrong, `fine`, or a fault with its number and place. `then` joins tests in the order in which they are made, so
-- the first fault is the one that is given. A call answers a value unless a test found a fault.
use Rattle.std.specs.Prelude.{ℕ, ◌%◌, Bool, true, false, not, ◌||◌, ltb, eqb}
use Rattle.route.specs.Limits.{max_hop}
use Rattle.route.specs.Rule.{Route, span}

-- the refusals' numbers
abbrev pub length_refusal : ℕ
length_refusal = 1

abbrev pub address_refusal : ℕ
address_refusal = 2

abbrev pub hop_refusal : ℕ
hop_refusal = 3

abbrev pub twice_refusal : ℕ
twice_refusal = 4

abbrev pub full_refusal : ℕ
full_refusal = 5

abbrev pub absent_refusal : ℕ
absent_refusal = 6

abbrev pub image_refusal : ℕ
image_refusal = 7

abbrev pub size_refusal : ℕ
size_refusal = 8

abbrev pub room_refusal : ℕ
room_refusal = 9

abbrev pub plan_refusal : ℕ
plan_refusal = 10

abbrev pub number_refusal : ℕ
number_refusal = 11

abbrev pub cut_refusal : ℕ
cut_refusal = 12

abbrev pub kind_refusal : ℕ
kind_refusal = 13

-- what a call answers: a value, or a refusal's number and place
pub data Answer : Type 0 where
  value : ℕ → Answer
  refused : (number place : ℕ) → Answer

-- what a test finds: nothing wrong, or a refusal's number and place
pub data Verdict : Type 0 where
  fine : Verdict
  fault : (number place : ℕ) → Verdict

-- a refusal where the test comes out true
abbrev pub fault_if : Bool → ℕ → ℕ → Verdict
fault_if true number place = fault number place
fault_if false number place = fine

infixr 30 ◌then◌
-- the first fault of two tests made in this order
abbrev pub ◌then◌ : Verdict → Verdict → Verdict
fine then v = v
(fault n p) then v = fault n p

-- the answer, unless a test found a fault
abbrev pub unless_fault : Verdict → Answer → Answer
unless_fault fine a = a
unless_fault (fault n p) a = refused n p

-- refusals 1 and 2 of a prefix: a length over the width, an address that is no multiple of the span
abbrev pub prefix_fault : ℕ → ℕ → ℕ → ℕ → Verdict
prefix_fault W place a n = fault_if (ltb W n) length_refusal place then fault_if (not (eqb (a % span W n) 0)) address_refusal place

-- refusal 3: a hop of 0 or over the limit
abbrev pub hop_fault : ℕ → ℕ → Verdict
hop_fault place h = fault_if (eqb h 0 || ltb max_hop h) hop_refusal place

-- refusals 1 to 3 of a prefix with its hop
abbrev pub entry_fault : ℕ → ℕ → Route → Verdict
entry_fault W place r = prefix_fault W place r.address r.length then hop_fault place r.hop
