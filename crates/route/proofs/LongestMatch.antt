-- The answer is right: it is the hop of the longest matching route, no other hop is, and it goes by the set of routes alone.
--
-- A lookup finds nothing that matches or a longest match, by induction on the list. Two valid prefixes of one length that match one
-- address are one prefix, so two longest matches in one set are one route.
use Prim.Native.Nat.{ℕ, ◌/◌, ◌≤◌, ◌<◌}
use mathlib.Core.Path.{◌≡◌, refl, sym, ◌∙◌, ap}
use mathlib.Core.Logic.{◌↔◌}
use mathlib.Core.Bool.{true, false, true≢false}
use mathlib.Core.List.Memᴰ
use mathlib.Core.List.{List, [], ◌∷◌}
use lib.Dec.{ltb}
use native.Mathlib.Nat.{div-add-mod', le_antisymm}
use native.Mathlib.Omega.{arith}
use borrow.Author.Tests.{eqb-true}
use Rattle.route.specs.Rule.{Route, span, matches, Match, nothing, best, improved, longest, hop_of, answer}
use Rattle.route.specs.RightHop.{◌∈◌, Matches, Longest, Right, hop_of_longest, no_match}
use Rattle.route.specs.RowsOfSet.{Valid}
use Rattle.route.proofs.Members.{each_of}
use Rattle.route.proofs.Tests.{orders, by_test}
use Rattle.route.proofs.RouteSet.{RouteSet}

-- what a lookup of q found among the routes: nothing that matches, or a longest match
abbrev pub Found : ℕ → List Route → ℕ → Match → Type 0
Found W rs q nothing = (r : Route) → r ∈ rs → Matches W r q → ⊥
Found W rs q (best r) = Longest W rs q r

module _ (W : ℕ) (r : Route) (rs : List Route) (q : ℕ) where
  -- one route more, which does not match or is no longer than the longest
  longest-still : (s : Route) → (Matches W r q → r.length ≤ s.length) → Longest W rs q s → Longest W (r ∷ rs) q s
  longest-still s h f = record {
    member = Memᴰ.tail f.member;
    matching = f.matching;
    longest = each_of {P = λ (t : Route). Matches W t q → t.length ≤ s.length} r rs h f.longest;
  }

  -- a route that does not match changes nothing
  pub skip-unmatched : matches W r.address r.length q ≡ false → (m : Match) → Found W rs q m → Found W (r ∷ rs) q m
  skip-unmatched e nothing f = each_of {P = λ (s : Route). Matches W s q → ⊥} r rs (λ c. true≢false (sym c ∙ e)) f
  skip-unmatched e (best s) f = longest-still s (λ c. absurd (true≢false (sym c ∙ e))) f

  -- a route that matches, and than which no other that matches is longer
  pub longest-first : Matches W r q → ((s : Route) → s ∈ rs → Matches W s q → s.length ≤ r.length) → Longest W (r ∷ rs) q r
  longest-first e l = record {
    member = Memᴰ.head refl;
    matching = e;
    longest = each_of {P = λ (t : Route). Matches W t q → t.length ≤ r.length} r rs (λ _. omega arith) l;
  }

  improved-finds : Matches W r q → (m : Match) → Found W rs q m → Found W (r ∷ rs) q (improved true r m)
  improved-finds e nothing f = longest-first e (λ s m c. absurd (f s m c))
  improved-finds e (best s) f = by_test (ltb s.length r.length)
      (λ t. rw t (longest-first e (λ u m c. omega (orders, f.longest u m c))))
      (λ t. rw t (longest-still s (λ _. omega orders) f))

-- the longest match is found, in any list
pub finds : (W : ℕ) (rs : List Route) (q : ℕ) → Found W rs q (longest W rs q)
finds W [] q = λ r m c. Memᴰ.not-nil m
finds W (r ∷ rs) q = by_test (matches W r.address r.length q)
    (λ e. rw e (improved-finds W r rs q e (longest W rs q) (finds W rs q)))
    (λ e. rw e (skip-unmatched W r rs q e (longest W rs q) (finds W rs q)))

-- two matching prefixes of one length are one prefix
pub same_address : (W q : ℕ) (r s : Route) → Valid W r → Valid W s → Matches W r q → Matches W s q → r.length ≡ s.length →
    r.address ≡ s.address
same_address W q r s v w c d e =
    let a = div-add-mod' r.address (span W r.length) in
    let b = div-add-mod' s.address (span W s.length) in
    let h = eqb-true (q / span W r.length) _ c in
    let k = eqb-true (q / span W s.length) _ d in
    cc

-- two lists of routes with the same members
abbrev pub SameSet : List Route → List Route → Type 0
SameSet rs ss = (r : Route) → (r ∈ rs) ↔ (r ∈ ss)

-- two lookups that found the longest match in one set found one hop
pub agree : (W : ℕ) (rs ss : List Route) (q : ℕ) → RouteSet W rs → SameSet rs ss → (m n : Match) →
    Found W rs q m → Found W ss q n → hop_of m ≡ hop_of n
agree W rs ss q ok same nothing nothing f g = refl
agree W rs ss q ok same nothing (best s) f g = absurd (f s ((same s).1 g.member) g.matching)
agree W rs ss q ok same (best r) nothing f g = absurd (g r ((same r).0 f.member) f.matching)
agree W rs ss q ok same (best r) (best s) f g =
    let m = (same s).1 g.member in
    let e : r.length ≡ s.length =
    le_antisymm (g.longest r ((same r).0 f.member) f.matching) (f.longest s m g.matching) in
    let a = same_address W q r s (ok.valid r f.member) (ok.valid s m) f.matching g.matching e in
    ap (λ t. t.hop) (ok.once r s f.member m a e)

-- so the answer goes by the set, whatever the order
pub same_answer : (W : ℕ) (rs ss : List Route) (q : ℕ) → RouteSet W rs → SameSet rs ss → answer W rs q ≡ answer W ss q
same_answer W rs ss q ok same = agree W rs ss q ok same (longest W rs q) (longest W ss q) (finds W rs q) (finds W ss q)

module _ (W : ℕ) (rs : List Route) (q : ℕ) (ok : RouteSet W rs) where
  -- and it is right
  pub right : Right W rs q (answer W rs q)
  right = of_match (longest W rs q) (finds W rs q)
    where
      of_match : (m : Match) → Found W rs q m → Right W rs q (hop_of m)
      of_match nothing f = no_match f
      of_match (best s) f = hop_of_longest s f (ok.valid s f.member).hopped

  one_answer : (m : Match) → Found W rs q m → hop_of m ≡ answer W rs q
  one_answer m f = agree W rs rs q ok (λ s. (λ i. i, λ i. i)) m (longest W rs q) f (finds W rs q)

  -- and nothing else is
  pub only : (h : ℕ) → Right W rs q h → h ≡ answer W rs q
  only h (hop_of_longest r l p) = one_answer (best r) l
  only h (no_match f) = one_answer nothing f

  -- the route that is found has a hop
  pub found-hop : (r : Route) → best r ≡ longest W rs q → 0 < r.hop
  found-hop r e =
      let l : Longest W rs q r = rw (← e) at (finds W rs q) in
      (ok.valid r l.member).hopped
