-- A list is accepted exactly where its rows have one length, few enough, each route is valid and no prefix stands twice.
--
-- One way by induction on the entries: the tests of the first leave its facts, and the rest was compared with it. The other way each
-- test comes out right by those facts.
use Prim.Native.Nat.{ℕ, ◌+◌, ◌%◌, ◌≤◌, ◌<◌}
use mathlib.Core.Path.{◌≡◌, refl, sym, subst⁻¹}
use mathlib.Core.Logic.{◌↔◌}
use mathlib.Core.Bool.{false}
use mathlib.Core.List.Memᴰ
use mathlib.Core.List.{List, [], ◌∷◌}
use lib.Dec.{eqb, ltb}
use lib.ListN.{length, take}
use lib.Seq.{take_all, take-length}
use native.Mathlib.Omega.{arith}
use borrow.Author.Tests.{eqb-true, eq-eqb, ne_eqb, leb-true, le-leb, le-ltb, not-false}
use Rattle.route.specs.Limits.{max_hop, max_routes}
use Rattle.route.specs.Rule.{Route, span}
use Rattle.route.specs.Refusals.{Verdict, value, fine, fault_if, entry_fault, prefix_fault, hop_fault, length_refusal, twice_refusal}
use Rattle.route.specs.RightHop.{◌∈◌}
use Rattle.route.specs.Lists.{same_prefix, has_prefix, list_fault, routes, EqualRows, rows_size_fault, rows_fault, list_check}
use Rattle.route.specs.RowsOfSet.{Valid, Distinct, RowsOfSet}
use Rattle.route.proofs.Members.{any-so}
use Rattle.route.proofs.RouteSet.{RouteSet, route_set}
use Rattle.route.proofs.Tests.{orders, clash, both, neither, not-both, or_parts, all_three, in_turn, passed, answered}

-- what the tests of a prefix and of a hop leave
pub prefix-good : (W i a n : ℕ) → prefix_fault W i a n ≡ fine → (n ≤ W) × (a % span W n ≡ 0)
prefix-good W i a n e =
    let p = in_turn (fault_if (ltb W n) length_refusal i) _ e in
    let length : ltb W n ≡ false = passed _ _ _ p.0 in
    (omega orders, eqb-true _ 0 (not-false _ (passed _ _ _ p.1)))

pub hop-good : (i h : ℕ) → hop_fault i h ≡ fine → (0 < h) × (h ≤ max_hop)
hop-good i h e = let p = or_parts (eqb h 0) (ltb max_hop h) (passed _ _ _ e) in (omega orders, omega orders)

-- what the four tests of the first entry leave
record Entry (W i : ℕ) (earlier : List Route) (r : Route) (rs : List Route) : Type 0 where
  valid : Valid W r
  fresh : has_prefix r earlier ≡ false
  rest : list_fault W (i + 1) (r ∷ earlier) rs ≡ fine

entry : (W i : ℕ) (earlier : List Route) (r : Route) (rs : List Route) → list_fault W i earlier (r ∷ rs) ≡ fine →
    Entry W i earlier r rs
entry W i earlier r rs e =
    let h = in_turn (entry_fault W i r) _ e in
    let k = in_turn (prefix_fault W i r.address r.length) _ h.0 in
    let m = in_turn (fault_if (has_prefix r earlier) twice_refusal i) _ h.1 in
    let prefix = prefix-good W i r.address r.length k.0 in
    let hop = hop-good i r.hop k.1 in
    record {
      valid = record { short = prefix.0; aligned = prefix.1; hopped = hop.0; small = hop.1 };
      fresh = passed _ _ _ m.0;
      rest = m.1;
    }

all_valid : (W : ℕ) (r : Route) (i : ℕ) (earlier rs : List Route) → list_fault W i earlier rs ≡ fine → r ∈ rs → Valid W r
all_valid W r i earlier rs e (Memᴰ.head {x} {xs} p) = subst⁻¹ (Valid W) p (entry W i earlier x xs e).valid
all_valid W r i earlier rs e (Memᴰ.tail {x} {xs} m) =
    all_valid W r (i + 1) (x ∷ earlier) xs (entry W i earlier x xs e).rest m

-- a route that does not stand among others has another prefix than each
fresh_of : (r s : Route) (rs : List Route) → has_prefix r rs ≡ false → s ∈ rs →
    r.address ≡ s.address → r.length ≡ s.length → ⊥
fresh_of r s rs e m a n =
    clash (any-so (same_prefix r) m (both _ _ (eq-eqb r.address s.address a) (eq-eqb r.length s.length n))) e

-- no entry repeats a prefix from before the list
apart : (W : ℕ) (r s : Route) (i : ℕ) (earlier rs : List Route) → list_fault W i earlier rs ≡ fine →
    r ∈ rs → s ∈ earlier → r.address ≡ s.address → r.length ≡ s.length → ⊥
apart W r s i earlier rs e (Memᴰ.head {x} {xs} p) k a n =
    fresh_of x s earlier (entry W i earlier x xs e).fresh k (cc) (cc)
apart W r s i earlier rs e (Memᴰ.tail {x} {xs} m) k a n =
    apart W r s (i + 1) (x ∷ earlier) xs (entry W i earlier x xs e).rest m (Memᴰ.tail k) a n

-- nor one from before itself
all_distinct : (W i : ℕ) (earlier rs : List Route) → list_fault W i earlier rs ≡ fine → Distinct rs
all_distinct W i earlier [] e = tt
all_distinct W i earlier (r ∷ rs) e =
    let rest = (entry W i earlier r rs e).rest in (
      λ s m a n. apart W s r (i + 1) (r ∷ earlier) rs rest m (Memᴰ.head refl) (sym a) (sym n),
      all_distinct W (i + 1) (r ∷ earlier) rs rest,
    )

-- so a list without a fault has valid routes and distinct prefixes, and such a list has no fault
pub prefix_fine : (W i : ℕ) (r : Route) → Valid W r → prefix_fault W i r.address r.length ≡ fine
prefix_fine W i r v = rw (le-ltb W r.length v.short, eq-eqb (r.address % span W r.length) 0 v.aligned)

pub hop_fine : (W i : ℕ) (r : Route) → Valid W r → hop_fault i r.hop ≡ fine
hop_fine W i r v = rw (ne_eqb r.hop 0 (λ e. omega arith), le-ltb max_hop r.hop v.small)

pub other_prefix : (r s : Route) → (r.address ≡ s.address → r.length ≡ s.length → ⊥) → same_prefix s r ≡ false
other_prefix r s h = not-both (eqb s.address r.address) (eqb s.length r.length)
    (λ a n. h (sym (eqb-true _ _ a)) (sym (eqb-true _ _ n)))

list_fine : (W i : ℕ) (earlier rs : List Route) → ((r : Route) → r ∈ rs → Valid W r) → Distinct rs →
    ((r : Route) → r ∈ rs → has_prefix r earlier ≡ false) → list_fault W i earlier rs ≡ fine
list_fine W i earlier [] v d f = refl
list_fine W i earlier (r ∷ rs) v d f =
    let ok = v r (Memᴰ.head refl) in
    rw (prefix_fine W i r ok, hop_fine W i r ok, f r (Memᴰ.head refl))
    (list_fine W (i + 1) (r ∷ earlier) rs (λ s m. v s (Memᴰ.tail m)) d.1
    (λ s m. neither (same_prefix s r) _ (other_prefix r s (d.0 s m)) (f s (Memᴰ.tail m))))

-- rows of a right size have one length, their fault is that of the entries, and the parts that are as long as the first row are the rows
pub record Sized (ad ns hs : List ℕ) : Type 0 where
  pub equal : EqualRows ad ns hs
  pub few : length ad ≤ max_routes
  pub entries : (W : ℕ) → rows_fault W ad ns hs ≡ list_fault W 0 [] (routes ad ns hs)
  pub addresses : take (length ad) ad ≡ ad
  pub lengths : take (length ad) ns ≡ ns
  pub hops : take (length ad) hs ≡ hs

pub sized : (ad ns hs : List ℕ) → fine ≡ rows_size_fault ad ns hs → Sized ad ns hs
sized ad ns hs e =
    let h = all_three (eqb (length ad) (length ns)) (eqb (length ad) (length hs)) _ (not-false _ (passed _ _ _ (sym e))) in
    let second = eqb-true (length ad) (length ns) h.0 in
    let third = eqb-true (length ad) (length hs) h.1 in
    record {
      equal = record { second = second; third = third };
      few = leb-true _ _ h.2;
      entries = λ W. rw (← e);
      addresses = take-length ad;
      lengths = take_all (length ad) ns (omega arith);
      hops = take_all (length ad) hs (omega arith);
    }

-- rows are accepted exactly where they are those of a set
pub rows_of_set : (W : ℕ) (ad ns hs : List ℕ) → (rows_fault W ad ns hs ≡ fine) ↔ RowsOfSet W ad ns hs
rows_of_set W ad ns hs = (to, from)
  where
    rs : List Route
    rs = routes ad ns hs

    to : rows_fault W ad ns hs ≡ fine → RowsOfSet W ad ns hs
    to e =
        let t = in_turn (rows_size_fault ad ns hs) _ e in
        let size = sized ad ns hs (sym t.0) in
        record {
          equal = size.equal;
          few = size.few;
          valid = λ r. all_valid W r 0 [] rs t.1;
          distinct = all_distinct W 0 [] rs t.1;
        }

    from : RowsOfSet W ad ns hs → rows_fault W ad ns hs ≡ fine
    from s =
        rw (eq-eqb _ _ s.equal.second, eq-eqb _ _ s.equal.third, le-leb (length ad) max_routes s.few)
        (list_fine W 0 [] rs s.valid s.distinct (λ r m. refl))

-- the routes of an accepted list are a set
pub accepted_set : (W : ℕ) (ad ns hs : List ℕ) → rows_fault W ad ns hs ≡ fine → RouteSet W (routes ad ns hs)
accepted_set W ad ns hs e = let s = (rows_of_set W ad ns hs).0 e in route_set W (routes ad ns hs) s.valid s.distinct

-- what is counted of rows of a right size, and what their whole parts have
module _ {ad ns hs : List ℕ} (s : Sized ad ns hs) where
  abbrev pub part : List ℕ → List ℕ
  part row = take (length ad) row

  pub parts-fault : (W : ℕ) {v : Verdict} → v ≡ list_fault W 0 [] (routes (part ad) (part ns) (part hs)) → v ≡ list_fault W 0 [] (routes ad ns hs)
  parts-fault W e = rw (s.addresses, s.lengths, s.hops) at e

-- what a call that tests the list first learns of it
module _ (W : ℕ) (ad ns hs : List ℕ) where
  pub counted-fine : {n : ℕ} → value n ≡ list_check W ad ns hs → rows_fault W ad ns hs ≡ fine
  counted-fine e = answered (rows_fault W ad ns hs) (value (length ad)) e
