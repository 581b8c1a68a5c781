-- The loops over the entries of a list: what each has found at entry i, and that a turn keeps it.
use Prim.Native.Nat.{ℕ, zero, suc, ◌+◌, ◌≤◌, ◌<◌}
use mathlib.Core.Path.{◌≡◌, refl, ap}
use mathlib.Core.Bool.{true, false}
use mathlib.Core.List.Memᴰ
use mathlib.Core.List.{List, [], ◌∷◌}
use native.Mathlib.Omega.{arith}
use native.Mathlib.Numerals.{add-one}
use borrow.Author.Tests.{eqb-true}
use lib.Dec.{eqb}
use lib.ListN.{length, drop, get_or, drop_of_length-le}
use lib.Seq.{drop-cons}
use Rattle.route.specs.Rule.{Route, route, Match, longest}
use Rattle.route.specs.Refusals.{fine, fault, fault_if, ◌then◌, entry_fault, twice_refusal}
use Rattle.route.specs.Lists.{EqualRows, routes, same_prefix, has_prefix, list_fault}
use Rattle.route.specs.RightHop.{◌∈◌}
use Rattle.route.specs.Loops.{before, entry_of}
use Rattle.route.proofs.Members.{each_of}
use Rattle.route.proofs.Tests.{and_parts}

-- as many routes as entries, in the same places
pub routes-length : (ad ns hs : List ℕ) → EqualRows ad ns hs → length (routes ad ns hs) ≡ length ad
routes-length [] ns hs e = refl
routes-length (a ∷ ad) [] hs e = absurd (omega (arith, e.second))
routes-length (a ∷ ad) (n ∷ ns) [] e = absurd (omega (arith, e.third))
routes-length (a ∷ ad) (n ∷ ns) (h ∷ hs) e =
    ap suc (routes-length ad ns hs (record { second = omega (arith, e.second); third = omega (arith, e.third) }))

pub routes-get : (ad ns hs : List ℕ) (i : ℕ) → EqualRows ad ns hs →
    entry_of (routes ad ns hs) i ≡ route (get_or ad i 0) (get_or ns i 0) (get_or hs i 0)
routes-get [] [] [] i e = refl
routes-get [] (n ∷ ns) hs i e = absurd (omega (arith, e.second))
routes-get [] [] (h ∷ hs) i e = absurd (omega (arith, e.third))
routes-get (a ∷ ad) [] hs i e = absurd (omega (arith, e.second))
routes-get (a ∷ ad) (n ∷ ns) [] i e = absurd (omega (arith, e.third))
routes-get (a ∷ ad) (n ∷ ns) (h ∷ hs) zero e = refl
routes-get (a ∷ ad) (n ∷ ns) (h ∷ hs) (suc i) e =
    routes-get ad ns hs i (record { second = omega (arith, e.second); third = omega (arith, e.third) })

-- what holds of every address of the row holds of every route's
pub routes-addresses : (P : ℕ → Type 0) (ad ns hs : List ℕ) → ((a : ℕ) → a ∈ ad → P a) → (r : Route) → r ∈ routes ad ns hs → P r.address
routes-addresses P [] ns hs k = λ r m. absurd (Memᴰ.not-nil m)
routes-addresses P (a ∷ ad) [] hs k = λ r m. absurd (Memᴰ.not-nil m)
routes-addresses P (a ∷ ad) (n ∷ ns) [] k = λ r m. absurd (Memᴰ.not-nil m)
routes-addresses P (a ∷ ad) (n ∷ ns) (h ∷ hs) k =
    each_of {P = λ (r : Route). P r.address} (route a n h) (routes ad ns hs) (k a (Memᴰ.head refl))
    (routes-addresses P ad ns hs (λ x m. k x (Memᴰ.tail m)))

-- two entries of one prefix
pub one-prefix : (r s : Route) → same_prefix r s ≡ true → (r.address ≡ s.address) × (r.length ≡ s.length)
one-prefix r s e =
    let p = and_parts (eqb r.address s.address) (eqb r.length s.length) e in
    (eqb-true _ _ p.0, eqb-true _ _ p.1)

-- the search from the end: m is the longest match of the entries from entry i on
pub record LongestFrom (W : ℕ) (rs : List Route) (q : ℕ) (m : Match) (i : ℕ) : Type 0 where
  pub within : i ≤ length rs
  pub right : m ≡ longest W (drop i rs) q

-- the entries from entry i on begin with entry i
entries-at : (rs : List Route) (i : ℕ) → i < length rs → drop i rs ≡ entry_of rs i ∷ drop (i + 1) rs
entries-at rs i l = rw (add-one, drop-cons rs i (route 0 0 0))

-- entry i's verdict, then what comes after it
list_at : (W : ℕ) (rs : List Route) (i : ℕ) → i < length rs →
    list_fault W i (before (entry_of rs) i) (drop i rs)
    ≡ (entry_fault W i (entry_of rs i)
    then fault_if (has_prefix (entry_of rs i) (before (entry_of rs) i)) twice_refusal i
    then list_fault W (i + 1) (before (entry_of rs) (suc i)) (drop (i + 1) rs))
list_at W rs i l = rw (entries-at rs i l)

-- the entries before entry i have no fault: what is left gives the whole verdict
pub record CheckedBefore (W : ℕ) (rs : List Route) (i : ℕ) : Type 0 where
  pub within : i ≤ length rs
  pub left : list_fault W i (before (entry_of rs) i) (drop i rs) ≡ list_fault W 0 [] rs

-- r is entry i
module _ {W : ℕ} {rs : List Route} {i : ℕ} (s : CheckedBefore W rs i) (l : i < length rs) {r : Route} (is : r ≡ entry_of rs i) where
  pub checked-twice : fine ≡ entry_fault W i r → has_prefix r (before (entry_of rs) i) ≡ true → fault twice_refusal i ≡ list_fault W 0 [] rs
  checked-twice e t = rw (list_at W rs i l, ← (rw is at e), rw is at t) at s.left

  pub checked-turn : fine ≡ entry_fault W i r → has_prefix r (before (entry_of rs) i) ≡ false → CheckedBefore W rs (i + 1)
  checked-turn e t = record {
    within = omega arith;
    left = rw (ap (before (entry_of rs)) (add-one i)) (rw (list_at W rs i l, ← (rw is at e), rw is at t) at s.left);
  }

pub checked-end : {W : ℕ} {rs : List Route} {i : ℕ} → CheckedBefore W rs i → length rs ≤ i → fine ≡ list_fault W 0 [] rs
checked-end {rs = rs} s l = rw (drop_of_length-le rs l) at s.left
