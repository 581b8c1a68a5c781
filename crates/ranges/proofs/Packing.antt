-- Keys say what they were made from, and they rise as their routes are in order. So the sweep over a list's sorted keys makes its
-- merged ranges.
use Rattle.std.proofs.Common.{◌≡◌, ℕ, zero, suc, ◌↔◌, refl, ◌+◌, ◌*◌, ◌/◌, ◌%◌, ◌<◌, ◌≤◌, List, [], ◌∷◌, length, get_or, sym, ap, ◌∙◌, subst, arith, le-ltb}
use mathlib.Core.List.Memᴰ
use Rattle.std.specs.List.{Contains}
use Rattle.std.specs.List.Sorted.{IsPermutation, IsSortedByKey, IsNonDecreasingBy}
use Rattle.std.specs.Ordering.{nat_cmp}
use Rattle.std.proofs.lemmas.List.Sorted.{IsPermutation-sym, length_permutation, Contains-permutation, IsNonDecreasingBy-drop, IsNonDecreasingBy-from_sort}
use Rattle.route.specs.Rule.{Route}
use Rattle.route.specs.PrefixOrder
use Rattle.route.specs.Entries.{routes_of}
use Rattle.route.specs.declared.list.List.{List as InRows}
use Rattle.route.specs.RightHop.{◌∈◌}
use Rattle.route.proofs.PrefixOrder.{by_key}
use Rattle.route.proofs.LongestMatch.{SameSet}
use Rattle.route.proofs.RouteSet.{RouteSet}
use Rattle.route.proofs.Accepted.{accepted_set}
use Rattle.route.proofs.Entries.{routes-addresses, routes-length}
use Rattle.route.proofs.Members.{each_at}
use Rattle.ranges.specs.Ranges.{Range, ranges_of}
use Rattle.ranges.specs.Keys.{key_of, route_in, keys_of, routes_in}
use Rattle.ranges.specs.declared.words.Key.{Key}
use Rattle.ranges.specs.Sweeps.{swept_ranges}
use Rattle.ranges.specs.Loops.{Accepted}
use Rattle.ranges.proofs.LastMatch.{InOrder, AllInOrder}
use Rattle.ranges.proofs.Boundaries.{Placed}
use Rattle.ranges.proofs.RangesAgree.{ranges_same}
use Rattle.ranges.proofs.Sweeps.{sweep_makes}
use Rattle.ranges.proofs.Fills.{keys_length}

-- the parts of a key
key_address : (a n h : ℕ) → a < 4294967296 → n < 64 → h < 65536 → ((a * 64 + n) * 65536 + h) / 4194304 % 4294967296 ≡ a
key_address a n h l m k = omega arith

key_length : (a n h : ℕ) → n < 64 → h < 65536 → ((a * 64 + n) * 65536 + h) / 65536 % 64 ≡ n
key_length a n h m k = omega arith

key_hop : (a n h : ℕ) → h < 65536 → ((a * 64 + n) * 65536 + h) % 65536 ≡ h
key_hop a n h k = omega arith

-- a route whose key says it
pub record Packable (r : Route) : Type 0 where
  pub address : r.address < 4294967296
  pub length : r.length < 64
  pub hop : r.hop < 65536

pub key_says : (r : Route) → Packable r → route_in (key_of r) ≡ r
key_says r f = rw (
  key_address r.address r.length r.hop f.address f.length f.hop,
  key_length r.address r.length r.hop f.length f.hop,
  key_hop r.address r.length r.hop f.hop,
)

-- keys rise as their routes are in order
key_order : (j k : Key) → j.0 ≤ k.0 → k.0 < 18014398509481984 → InOrder (route_in j) (route_in k)
key_order j k l b =
    let r = route_in j in
    let s = route_in k in
    by_key s.address s.length r.address r.length (omega arith) (omega arith)
    ∙ le-ltb (PrefixOrder.key_of s.address s.length) (PrefixOrder.key_of r.address r.length) (omega arith)

-- a member stands at a place, and what stands at a place is a member
contains : {k : Key} {ks : List Key} → k ∈ ks → Contains ks k
contains (Memᴰ.head e) = (0, omega arith, sym e)
contains (Memᴰ.tail m) = let c = contains m in (suc c.0, omega (arith, c.1), c.2)

member-at : (ks : List Key) (i : ℕ) (d : Key) → i < length ks → get_or ks i d ∈ ks
member-at [] i d l = absurd (omega arith)
member-at (k ∷ ks) zero d l = Memᴰ.head refl
member-at (k ∷ ks) (suc i) d l = Memᴰ.tail (member-at ks i d (omega arith))

member : {k : Key} {ks : List Key} → Contains ks k → k ∈ ks
member {k} {ks} c = subst (λ j. j ∈ ks) c.2 (member-at ks c.0 k c.1)

-- two rows of the same numbers have the same members
same_members : {ks js : List Key} → IsPermutation ks js → (k : Key) → (k ∈ js) ↔ (k ∈ ks)
same_members {ks} {js} p k = (
  λ m. member (Contains-permutation js ks k (IsPermutation-sym ks js p) (contains m)),
  λ m. member (Contains-permutation ks js k p (contains m)),
)

keys_order : (ks : List Key) → ((k : Key) → k ∈ ks → k.0 < 18014398509481984) → IsNonDecreasingBy (λ k. k.0) ks → AllInOrder (routes_in ks)
keys_order [] b up = tt
keys_order (k ∷ ks) b up = (
  (λ s m. let n = Memᴰ.of_map route_in ks m in
      let at = contains n.1 in
      let l : k.0 ≤ n.0.0 = rw at.2 at (up 0 (suc at.0) n.0 (omega arith) (omega (arith, at.1))) in
      subst (InOrder (route_in k)) n.2 (key_order k n.0 l (b n.0 (Memᴰ.tail n.1)))),
  keys_order ks (λ j m. b j (Memᴰ.tail m)) (IsNonDecreasingBy-drop (λ k. k.0) 1 (k ∷ ks) up),
)

-- the keys of a set, sorted: they say it, in order
module _ (rs : List Route) (fits : (r : Route) → r ∈ rs → Packable r) (ks : List Key) (same : IsPermutation (keys_of rs) ks) where
  keys_say : SameSet rs (routes_in ks)
  keys_say r = (
    (λ m. subst (λ s. s ∈ routes_in ks) (key_says r (fits r m))
        (Memᴰ.map route_in ((same_members same (key_of r)).1 (Memᴰ.map key_of m)))),
    (λ m. let n = Memᴰ.of_map route_in ks m in
        let o = Memᴰ.of_map key_of rs ((same_members same n.0).0 n.1) in
        let e : o.0 ≡ r = sym (key_says o.0 (fits o.0 o.1)) ∙ ap route_in o.2 ∙ n.2 in
        subst (λ s. s ∈ rs) e o.1),
  )

  keys_in_order : IsNonDecreasingBy (λ k. k.0) ks → AllInOrder (routes_in ks)
  keys_in_order = keys_order ks below
    where
      below : (k : Key) → k ∈ ks → k.0 < 18014398509481984
      below k m =
          let o = Memᴰ.of_map key_of rs ((same_members same k).0 m) in
          let f = fits o.0 o.1 in
          omega (arith, ap (λ k. k.0) o.2, f.address, f.length, f.hop)

-- so the sweep over them makes the merged ranges
pub keys_make : (rs : List Route) → RouteSet 32 rs → Placed 32 rs → (ks : List Key) → IsPermutation (keys_of rs) ks → IsNonDecreasingBy (λ k. k.0) ks →
    swept_ranges 32 (routes_in ks) ≡ ranges_of 32 rs
keys_make rs ok placed ks perm up =
    let same = keys_say rs fits ks perm in
    sweep_makes 32 (routes_in ks) (λ r m. ok.valid r ((same r).1 m)) (λ r m. placed r ((same r).1 m)) (keys_in_order rs fits ks perm up)
    ∙ ranges_same 32 rs (routes_in ks) ok placed same
  where
    fits : (r : Route) → r ∈ rs → Packable r
    fits r m =
        let v = ok.valid r m in
        record { address = placed r m; length = omega (arith, v.short); hop = omega (arith, v.small) }

-- the keys of a list, in any order, are as many as its entries
pub keys-many : (l : InRows) → {packed keys : List Key} → packed ≡ keys_of (routes_of l) → IsPermutation packed keys → length keys ≡ length l.addresses.now
keys-many l {packed} {keys} is perm =
    length_permutation packed keys perm ∙ ap length is ∙ keys_length (routes_of l) ∙ routes-length l.addresses.now l.lengths.now l.hops.now l.equal

-- the keys of a list that has been tested, sorted: what the sweep makes of them
pub list-made : {l : InRows} → Accepted l → {packed sorted keys : List Key} → packed ≡ keys_of (routes_of l) →
    IsPermutation packed sorted → IsSortedByKey (λ k. k.0) nat_cmp sorted → keys ≡ sorted →
    {t : List Range} → t ≡ swept_ranges 32 (routes_in keys) → t ≡ ranges_of 32 (routes_of l)
list-made {l} ok {packed} {sorted} is perm up same e =
    let ad = l.addresses.now in
    let placed = routes-addresses (λ a. a < 4294967296) ad l.lengths.now l.hops.now (each_at (λ a. a < 4294967296) ad ok.small) in
    e ∙ rw same
    (keys_make (routes_of l) (accepted_set 32 ad l.lengths.now l.hops.now ok.sound) placed sorted
    (rw is at perm) (IsNonDecreasingBy-from_sort (λ k. k.0) sorted up))
