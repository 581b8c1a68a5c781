-- A number behind a first byte that is not its last is 128 or more, so one that is to be smaller is refused by its first byte.
use Prim.Native.Nat.{ℕ, suc, ◌+◌, ◌-◌, ◌*◌, ◌^◌, ◌≤◌, ◌<◌}
use mathlib.Core.Path.{◌≡◌, sym}
use mathlib.Core.Bool.{cond}
use mathlib.Core.List.{List, [], ◌∷◌}
use lib.Dec.{ltb}
use lib.ListN.{length, drop, get_or}
use lib.Seq.{drop-cons}
use native.Mathlib.Nat.{pow-le-pow_right, mul-le-mul_right}
use native.Mathlib.Omega.{arith}
use borrow.Author.Tests.{lt-ltb}
use Rattle.route.specs.Refusals.{fault_if}
use Rattle.route.proofs.Tests.{by_test}
use Rattle.records.specs.Records.{number, no_number, bad_byte, number_in, number_at, checked_at}
use Rattle.records.proofs.Bytes.{no_number_lem, not-zero}

-- what its first byte makes of a number
first_byte : (bs : List ℕ) (at : ℕ) → at < length bs
    → number_at bs at ≡ cond (ltb (get_or bs at 0) 128) (number (get_or bs at 0) (at + 1)) (number_in at 1 (get_or bs at 0 - 128) (drop (at + 1) bs))
first_byte bs at h =
    let one : (x : ℕ) → 0 + x * 128 ^ 0 ≡ x = λ x. omega arith in
    let here : at + 0 + 1 ≡ at + 1 = omega arith in
    let next : at + 1 ≡ suc at = omega arith in
    rw (drop-cons bs at 0 h, one (get_or bs at 0), one (get_or bs at 0 - 128), here, next)

-- a number of more than one byte is 128 or more, since its last group is not 0
pub long-number : (first k v : ℕ) (bs : List ℕ) {x next : ℕ} → 1 ≤ k → number_in first k v bs ≡ number x next → 128 ≤ x
long-number first k v [] h e = no_number_lem e
long-number first k v (b ∷ bs) {x} {next} h e =
    by_test (bad_byte k b) (λ bad. no_number_lem (rw bad at e))
    (λ good.
    by_test (ltb b 128)
    (λ last.
    let some : 1 ≤ b = not-zero k b good h in
    let value : v + b * 128 ^ k ≡ x = cc (rw (good, last) at e) in
    omega (arith, mul-le-mul_right (128 ^ k) some, pow-le-pow_right {n = 128} (omega arith) h))
    (λ more. long-number first (k + 1) (v + (b - 128) * 128 ^ k) bs (omega arith) (rw (good, more) at e)))

-- a number that is to be at most a limit below 128 is over it behind a first byte over it
pub small-over : (bs : List ℕ) (at most n p : ℕ) → at < length bs → most < 128 → {v next : ℕ} → most < get_or bs at 0
    → number v next ≡ number_at bs at → no_number n p ≡ checked_at bs at (λ x. fault_if (ltb most x) n p)
small-over bs at most n p h l {v} {next} o e = rw (← e, lt-ltb most v over)
  where
    over : most < v
    over =
        by_test (ltb (get_or bs at 0) 128)
        (λ one. let value : v ≡ get_or bs at 0 = cc (rw (first_byte bs at h, one) at e) in omega arith)
        (λ more. omega (arith, long-number at 1 _ (drop (at + 1) bs) (omega arith) (sym (rw (first_byte bs at h, more) at e))))
