-- A plan applied again from its start: the tests read the lengths of the rows alone, which stay, and the writes that are made once more
-- leave what they leave the first time.
use Prim.Native.Nat.{ℕ}
use mathlib.Core.Path.{◌≡◌}
use mathlib.Core.List.{List}
use lib.ListN.{length, take}
use Rattle.tcam.specs.Applies.{writes_in, apply_fault, applied_addresses, applied_tags}
use Rattle.tcam.proofs.Stores.{length-stored_if, stored_if-again}
use Rattle.claims.specs.Reapplied.{Reapplied}

-- the fault of an apply is that of rows of the same lengths
same-fault : (W : ℕ) (ad ts ad' ts' plan : List ℕ) (k : ℕ) → length ad' ≡ length ad → length ts' ≡ length ts →
    apply_fault W ad' ts' plan k ≡ apply_fault W ad ts plan k
same-fault W ad ts ad' ts' plan k a t = rw (a, t)

pub reapplied : (W : ℕ) → Reapplied W
reapplied W ad ts plan j k l f =
    let first = apply_fault W ad ts plan j in
    let ws = writes_in plan in
    let again : apply_fault W (applied_addresses W ad ts plan j) (applied_tags W ad ts plan j) plan k ≡ apply_fault W ad ts plan k =
    same-fault W ad ts (applied_addresses W ad ts plan j) (applied_tags W ad ts plan j) plan k
    (length-stored_if (λ c. c.address) first ad (take j ws)) (length-stored_if (λ c. c.tag) first ts (take j ws)) in
    record {
      answers = rw again;
      addresses = rw (again, f) (stored_if-again (λ c. c.address) j k l ad ws first);
      tags = rw (again, f) (stored_if-again (λ c. c.tag) j k l ts ws first);
    }
