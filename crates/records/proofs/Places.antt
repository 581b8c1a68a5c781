-- Where the places of an answer lie: a record's next place behind the place asked for and within the input, so that a loop from place to
-- place ends; the place of refusal 12 at the input's length.
use Prim.Native.Nat.{ℕ, ◌+◌, ◌-◌, ◌*◌, ◌^◌, ◌≤◌, ◌<◌}
use mathlib.Core.Path.{◌≡◌, refl, subst}
use mathlib.Core.Bool.{Bool, true, false, ◌||◌}
use mathlib.Core.List.{List, [], ◌∷◌}
use lib.Dec.{leb, ltb, eqb}
use lib.ListN.{length, drop, length-drop}
use native.Mathlib.Omega.{arith}
use Rattle.route.specs.Limits.{max_hop}
use Rattle.route.specs.Rule.{span}
use Rattle.route.specs.Refusals.{Verdict, fine, fault, fault_if, length_refusal, address_refusal, hop_refusal, cut_refusal, kind_refusal}
use Rattle.route.proofs.Tests.{orders, either}
use Rattle.records.specs.Records.{Reading, number, no_number, bad_byte, number_in, number_at, unless, judged, checked_at}
use Rattle.records.specs.Records.{Update, Reply, update, ended, refused_at, go_on, hop_from, address_from, length_from, kind_from, record_at}

-- the next place is behind `at`, and at most the input's length
pub record Ahead (at next size : ℕ) : Type 0 where
  pub behind : at < next
  pub within : next ≤ size

-- the places of a number and of a reply that are read from `at` on
abbrev NumberPlaced : ℕ → ℕ → Reading → Type 0
NumberPlaced at size (number v next) = Ahead at next size
NumberPlaced at size (no_number n p) = n ≡ cut_refusal → p ≡ size

abbrev Placed : ℕ → ℕ → Reply → Type 0
Placed at size (update u next) = Ahead at next size
Placed at size ended = Unit {0}
Placed at size (refused_at n p) = n ≡ cut_refusal → p ≡ size

-- what is read from a place further on
later : {at m size : ℕ} (r : Reply) → Ahead at m size → Placed m size r → Placed at size r
later (update u next) a b = record { behind = omega (arith, a.behind, b.behind); within = b.within }
later ended a b = b
later (refused_at n p) a f = f

-- a number of which k bytes have been read
number-placed : (at first k v : ℕ) (bs : List ℕ) (size : ℕ) → at ≤ first + k → first + k + length bs ≡ size
    → NumberPlaced at size (number_in first k v bs)
number-placed at first k v [] size l e = λ cut. omega arith
number-placed at first k v (b ∷ bs) size l e =
    either (NumberPlaced at size) (bad_byte k b) (λ bad cut. absurd (omega arith))
    (λ good.
    either (NumberPlaced at size) (ltb b 128) (λ last. record { behind = omega arith; within = omega arith })
    (λ more. number-placed at first (k + 1) (v + (b - 128) * 128 ^ k) bs size (omega arith) (omega arith)))

-- a test that never finds refusal 12
abbrev NeverCut : (ℕ → Verdict) → Type 0
NeverCut test = (v p : ℕ) → test v ≡ fault cut_refusal p → ⊥

never-cut : (n q : ℕ) (t : ℕ → Bool) → (n ≡ cut_refusal → ⊥) → NeverCut (λ v. fault_if (t v) n q)
never-cut n q t other v p e = found (t v) e
  where
    found : (b : Bool) → fault_if b n q ≡ fault cut_refusal p → ⊥
    found true e = other cc
    found false e = let z : ◌≡◌ {A = ℕ} 0 1 = cc in omega arith

-- a number that was read and checked, and what follows it
checked-placed : (bs : List ℕ) (at : ℕ) (test : ℕ → Verdict) (go : ℕ → ℕ → Reply) → at ≤ length bs → NeverCut test
    → ((v m : ℕ) → Ahead at m (length bs) → Placed at (length bs) (go v m))
    → Placed at (length bs) (go_on (checked_at bs at test) go)
checked-placed bs at test go l other goes =
    read (number_at bs at) (number-placed at at 0 0 (drop at bs) (length bs) (omega arith) (omega (arith, length-drop at bs)))
  where
    tested : (v m : ℕ) (w : Verdict) → test v ≡ w → Ahead at m (length bs) → Placed at (length bs) (go_on (unless w (number v m)) go)
    tested v m fine e a = goes v m a
    tested v m (fault n p) e a = λ cut. absurd (other v p (rw cut at e))

    read : (r : Reading) → NumberPlaced at (length bs) r → Placed at (length bs) (go_on (judged test r) go)
    read (number v m) a = tested v m (test v) refl a
    read (no_number n p) f = f

-- a record from each of its numbers on
module _ (W : ℕ) (bs : List ℕ) where
  hop-placed : (at a n : ℕ) → at ≤ length bs → Placed at (length bs) (hop_from bs at a n)
  hop-placed at a n l = checked-placed bs at _ _ l (never-cut hop_refusal at (λ h. eqb h 0 || ltb max_hop h) (λ e. omega arith)) (λ h m p. p)

  address-placed : (at kind n : ℕ) → at ≤ length bs → Placed at (length bs) (address_from W bs at kind n)
  address-placed at kind n l =
      checked-placed bs at _ _ l (never-cut address_refusal at (leb (2 ^ n)) (λ e. omega arith))
      (λ x m p.
      either (Placed at (length bs)) (eqb kind 0) (λ removal. p)
      (λ set. later (hop_from bs m (x * span W n) n) p (hop-placed m (x * span W n) n p.within)))

  length-placed : (at kind : ℕ) → at ≤ length bs → Placed at (length bs) (length_from W bs at kind)
  length-placed at kind l =
      checked-placed bs at _ _ l (never-cut length_refusal at (ltb W) (λ e. omega arith))
      (λ n m p. later (address_from W bs m kind n) p (address-placed m kind n p.within))

  kind-placed : (at : ℕ) → at ≤ length bs → Placed at (length bs) (kind_from W bs at)
  kind-placed at l =
      checked-placed bs at _ _ l (never-cut kind_refusal at (ltb 1) (λ e. omega arith))
      (λ kind m p. later (length_from W bs m kind) p (length-placed m kind p.within))

  -- what is answered at a place
  placed : (at : ℕ) → Placed at (length bs) (record_at W bs at)
  placed at =
      either (Placed at (length bs)) (ltb (length bs) at) (λ past cut. absurd (omega arith))
      (λ inside. either (Placed at (length bs)) (eqb at (length bs)) (λ end. tt) (λ more. kind-placed at (omega orders)))

  -- the next place of a record
  pub ahead : {u : Update} {next : ℕ} (at : ℕ) → record_at W bs at ≡ update u next → Ahead at next (length bs)
  ahead at e = subst (Placed at (length bs)) e (placed at)

  -- the place of refusal 12
  pub cut-at-the-end : {p : ℕ} (at : ℕ) → record_at W bs at ≡ refused_at cut_refusal p → p ≡ length bs
  cut-at-the-end at e = subst (Placed at (length bs)) e (placed at) refl
