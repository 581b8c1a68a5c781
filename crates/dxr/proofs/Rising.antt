-- A table that keeps the rules: its first range starts at 0, starts rise, hops are small.
use Prim.Native.Nat.{ℕ, suc, ◌+◌, ◌≤◌, ◌<◌}
use mathlib.Core.Path.{◌≡◌, refl, ap}
use mathlib.Core.Bool.{false, not, ◌||◌}
use mathlib.Core.List.{List, [], ◌∷◌}
use lib.Dec.{eqb, leb}
use native.Mathlib.Omega.{arith}
use borrow.Author.Tests.{eqb-true, lt-leb, not-false}
use Rattle.route.specs.Limits.{max_hop}
use Rattle.route.specs.Refusals.{fine, fault_if, image_refusal}
use Rattle.route.proofs.Tests.{orders, by_test, or_parts, in_turn, passed}
use Rattle.ranges.specs.Ranges.{Range, range, breaks, first_breaks, ranges_fault, table_fault, hop_at}
use Rattle.ranges.proofs.Counting.{StartsRise}

-- no hop over the limit
abbrev pub SmallHops : List Range → Type 0
SmallHops [] = Unit {0}
SmallHops (r ∷ rs) = (r.hop ≤ max_hop) × SmallHops rs

pub rise_from : (lo x : ℕ) (rs : List Range) → lo ≤ x → StartsRise x rs → StartsRise lo rs
rise_from lo x [] le h = tt
rise_from lo x (r ∷ rs) le h = (omega arith, h.1)

-- before the first start nothing changes
pub early : (h q : ℕ) (rs : List Range) → StartsRise (suc q) rs → hop_at h rs q ≡ h
early h q [] s = refl
early h q (r ∷ rs) s = rw (lt-leb r.start q s.0)

-- a hop that a lookup finds is one of theirs
pub hop_at_small : (h q : ℕ) (rs : List Range) → h ≤ max_hop → SmallHops rs → hop_at h rs q ≤ max_hop
hop_at_small h q [] le s = le
hop_at_small h q (r ∷ rs) le s = by_test (leb r.start q)
    (λ t. rw t (hop_at_small r.hop q rs s.0 s.1))
    (λ t. rw t le)

-- what the test of a range leaves
keeps : (p r : Range) → breaks p r ≡ false → (p.start < r.start) × (r.hop ≤ max_hop)
keeps p r e =
    let h = or_parts (leb r.start p.start || eqb r.hop p.hop) _ e in
    let k = or_parts (leb r.start p.start) _ h.0 in
    (omega orders, omega orders)

fine_after : (i : ℕ) (p : Range) (rs : List Range) → ranges_fault i p rs ≡ fine → StartsRise (suc p.start) rs × SmallHops rs
fine_after i p [] ok = (tt, tt)
fine_after i p (r ∷ rs) ok =
    let h = in_turn (fault_if (breaks p r) image_refusal i) _ ok in
    let k = keeps p r (passed (breaks p r) _ _ h.0) in
    let rest = fine_after (i + 1) r rs h.1 in
    ((k.0, rest.0), (k.1, rest.1))

-- a table of a first range and others
pub record Rises (t : List Range) : Type 0 where
  pub first : ℕ
  pub others : List Range
  pub whole : t ≡ range 0 first ∷ others
  pub rise : StartsRise 0 t
  pub small : SmallHops t

pub fine-rises : (t : List Range) → table_fault t ≡ fine → Rises t
fine-rises [] ok = let z : ◌≡◌ {A = ℕ} 0 1 = cc in absurd (omega arith)
fine-rises (r ∷ rs) ok =
    let h = in_turn (fault_if (first_breaks r) image_refusal 0) _ ok in
    let k = or_parts (not (eqb r.start 0)) _ (passed (first_breaks r) _ _ h.0) in
    let z = eqb-true r.start 0 (not-false _ k.0) in
    let rest = fine_after 1 r rs h.1 in
    record {
      first = r.hop;
      others = rs;
      whole = ap (λ s. range s r.hop ∷ rs) z;
      rise = (omega arith, rest.0);
      small = (omega orders, rest.1);
    }
