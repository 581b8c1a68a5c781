-- What an answer shows determines the answer, so a contract that fixes what is shown fixes the value that is returned.
--
-- Each definition has a way back: the refusal of a number and a place, the answer of what is shown.
use Prim.Native.Nat.{ℕ, zero, suc}
use mathlib.Core.Path.{◌≡◌, refl, sym, ap, ◌∙◌}
use mathlib.Core.Bool.{false, cond}
use lib.Dec.{eqb, eqb-suc-zero}
use Rattle.std.specs.Prelude.{Option, None, Some, Result, Ok, Err}
use Rattle.route.specs.Refusals.{Answer, value, refused, Verdict, fine, fault}
use Rattle.route.specs.Shown.{number, place, verdict_of, counted, shown}
use Rattle.route.specs.declared.Refusal.{Refusal}
use Rattle.route.specs.declared.Refusal.TheVariants.{Length, Address, Hop, Twice, Full, Absent, Image, Size, Room, Plan, Number, Cut, Kind}
use Rattle.route.specs.declared.Hop.{Hop as NextHop}

-- the refusal of a number and a place; any other number goes to the last
abbrev pub refusal_of : ℕ → ℕ → Refusal
refusal_of n p =
    (cond (eqb n 1) (Length p)
    (cond (eqb n 2) (Address p)
    (cond (eqb n 3) (Hop p)
    (cond (eqb n 4) (Twice p)
    (cond (eqb n 5) Full
    (cond (eqb n 6) Absent
    (cond (eqb n 7) (Image p)
    (cond (eqb n 8) Size
    (cond (eqb n 9) Room
    (cond (eqb n 10) (Plan p)
    (cond (eqb n 11) (Number p)
    (cond (eqb n 12) (Cut p)
    (Kind p)))))))))))))

-- a refusal is that of its number and place, and no number is 0
pub refusal-back : (r : Refusal) → (refusal_of (number r) (place r) ≡ r) × (eqb (number r) 0 ≡ false)
refusal-back (Length p) = (refl, refl)
refusal-back (Address p) = (refl, refl)
refusal-back (Hop p) = (refl, refl)
refusal-back (Twice p) = (refl, refl)
refusal-back Full = (refl, refl)
refusal-back Absent = (refl, refl)
refusal-back (Image p) = (refl, refl)
refusal-back Size = (refl, refl)
refusal-back Room = (refl, refl)
refusal-back (Plan p) = (refl, refl)
refusal-back (Number p) = (refl, refl)
refusal-back (Cut p) = (refl, refl)
refusal-back (Kind p) = (refl, refl)

-- a definition that has a way back tells its arguments apart
pub apart : {A B : Type 0} (show : A → B) (back : B → A) → ((a : A) → back (show a) ≡ a) → (a b : A) → show a ≡ show b → a ≡ b
apart show back e a b s = sym (e a) ∙ ap back s ∙ e b

abbrev check_of : Verdict → Result (Unit {0}) Refusal
check_of fine = Ok tt
check_of (fault n p) = Err (refusal_of n p)

check-back : (c : Result (Unit {0}) Refusal) → check_of (verdict_of c) ≡ c
check-back (Ok u) = refl
check-back (Err r) = ap Err (refusal-back r).0

abbrev counted_of : Answer → Result ℕ Refusal
counted_of (value n) = Ok n
counted_of (refused n p) = Err (refusal_of n p)

counted_back : (c : Result ℕ Refusal) → counted_of (counted c) ≡ c
counted_back (Ok n) = refl
counted_back (Err r) = ap Err (refusal-back r).0

-- `shown` gives a hop 0 the number 0
abbrev found_of : Answer → Result (Option NextHop) Refusal
found_of (value h) = cond (eqb h 0) (Ok None) (Ok (Some (record { 0 = h })))
found_of (refused n p) = cond (eqb n 0) (Ok (Some (record { 0 = 0 }))) (Err (refusal_of n p))

via-back : (h : ℕ) → found_of (cond (eqb h 0) (refused 0 0) (value h)) ≡ Ok (Some (record { 0 = h }))
via-back zero = refl
via-back (suc h) = simp eqb-suc-zero

found_back : (f : Result (Option NextHop) Refusal) → found_of (shown f) ≡ f
found_back (Ok None) = refl
found_back (Ok (Some h)) = via-back h.0
found_back (Err r) = rw ((refusal-back r).1, (refusal-back r).0)

pub check-determined : (c d : Result (Unit {0}) Refusal) → verdict_of c ≡ verdict_of d → c ≡ d
check-determined = apart verdict_of check_of check-back

pub counted-determined : (c d : Result ℕ Refusal) → counted c ≡ counted d → c ≡ d
counted-determined = apart counted counted_of counted_back

pub found-determined : (f g : Result (Option NextHop) Refusal) → shown f ≡ shown g → f ≡ g
found-determined = apart shown found_of found_back
