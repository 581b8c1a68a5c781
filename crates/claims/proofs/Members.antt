-- Members of a list and how many pass a test; sets of routes that have each route as often; the slots that hold them.
use Prim.Native.Nat.{◌+◌, ◌≤◌}
use mathlib.Core.Path.{◌≡◌, refl, sym, ap, subst, subst⁻¹, ◌∙◌}
use mathlib.Core.Logic.{◌↔◌}
use mathlib.Core.Bool.{Bool, true, false, cond, ◌&&◌}
use mathlib.Core.List.Memᴰ
use mathlib.Core.List.{List, [], ◌∷◌, Memᴰ}
use native.Mathlib.Omega.{arith}
use lib.Dec.{eqb}
use borrow.Author.Tests.{eqb-true, eq-eqb}
use Rattle.route.specs.Lists.{any}
use Rattle.route.specs.Rule.{Route}
use Rattle.tcam.specs.Slots.{Cell, is_free}
use Rattle.tcam.specs.Book.{count_if}
use Rattle.tcam.specs.Tables.{route_of, routes_in}
use Rattle.route.proofs.Tests.{neither, both, all_three}
use Rattle.claims.proofs.Times.{All, times}

module _ {A : Type 0} where
  pub all_of : (P : A → Type 0) (xs : List A) → ((x : A) → Memᴰ x xs → P x) → All P xs
  all_of P [] h = tt
  all_of P (x ∷ xs) h = (h x (Memᴰ.head refl), all_of P xs (λ y m. h y (Memᴰ.tail m)))

  pub member : (P : A → Type 0) {x : A} {xs : List A} → All P xs → Memᴰ x xs → P x
  member P a (Memᴰ.head e) = subst P (sym e) a.0
  member P a (Memᴰ.tail m) = member P a.1 m

  -- no member passes a test
  pub any_none : (p : A → Bool) (xs : List A) → ((x : A) → Memᴰ x xs → p x ≡ false) → any p xs ≡ false
  any_none p [] h = refl
  any_none p (x ∷ xs) h = neither (p x) (any p xs) (h x (Memᴰ.head refl)) (any_none p xs (λ y m. h y (Memᴰ.tail m)))

  pub member-times : (t : A → Bool) {x : A} {xs : List A} → t x ≡ true → Memᴰ x xs → 1 ≤ times t xs
  member-times t h (Memᴰ.head {x = y} e) = let h' = rw e at h in rw h' (omega arith)
  member-times t h (Memᴰ.tail m) = omega (arith, member-times t h m)

  -- two members that pass a test which one member passes
  pub once-same : (t : A → Bool) {x y : A} {xs : List A} → times t xs ≤ 1 → t x ≡ true → t y ≡ true → Memᴰ x xs → Memᴰ y xs → x ≡ y
  once-same t o h i (Memᴰ.head {x = z} e) (Memᴰ.head f) = e ∙ sym f
  once-same t o h i (Memᴰ.head {x = z} e) (Memᴰ.tail n) =
      let h' = rw e at h in
      let o' = rw h' at o in
      absurd (omega (arith, member-times t i n))
  once-same t o h i (Memᴰ.tail m) (Memᴰ.head {x = z} f) =
      let i' = rw f at i in
      let o' = rw i' at o in
      absurd (omega (arith, member-times t h m))
  once-same t o h i (Memᴰ.tail m) (Memᴰ.tail n) = once-same t (omega arith) h i m n

-- of the first member and of the others, so of all
pub each_of : {P : Route → Type 0} (r : Route) (rs : List Route) → P r → ((s : Route) → Memᴰ s rs → P s) →
    (s : Route) → Memᴰ s (r ∷ rs) → P s
each_of {P} r rs h k s (Memᴰ.head e) = subst⁻¹ P e h
each_of r rs h k s (Memᴰ.tail m) = k s m

abbrev pub is_route : Route → Route → Bool
is_route r s = eqb s.address r.address && eqb s.length r.length && eqb s.hop r.hop

pub is-route : (r s : Route) → is_route r s ≡ true → r ≡ s
is-route r s h =
    let p = all_three (eqb s.address r.address) (eqb s.length r.length) (eqb s.hop r.hop) h in
    λ i. record {
      address = sym (eqb-true s.address r.address p.0) i;
      length = sym (eqb-true s.length r.length p.1) i;
      hop = sym (eqb-true s.hop r.hop p.2) i;
    }

own-route : (r : Route) → is_route r r ≡ true
own-route r = both _ _ (both _ _ (eq-eqb r.address r.address refl) (eq-eqb r.length r.length refl)) (eq-eqb r.hop r.hop refl)

-- a set has a route where it has it at least once
pub has-times : {r : Route} {rs : List Route} → Memᴰ r rs → 1 ≤ times (is_route r) rs
has-times {r} m = member-times (is_route r) (own-route r) m

pub times-has : (r : Route) (rs : List Route) → 1 ≤ times (is_route r) rs → Memᴰ r rs
times-has r [] h = absurd (omega arith)
times-has r (s ∷ rs) h = go (is_route r s) refl h (times-has r rs)
  where
    go : (t : Bool) → is_route r s ≡ t → 1 ≤ count_if t + times (is_route r) rs → (1 ≤ times (is_route r) rs → Memᴰ r rs) → Memᴰ r (s ∷ rs)
    go true e h later = Memᴰ.head (is-route r s e)
    go false e h later = Memᴰ.tail (later (omega arith))

-- the same routes, each as often
pub record Same (xs ys : List Route) : Type 0 where
  pub often : (r : Route) → times (is_route r) xs ≡ times (is_route r) ys

pub same-has : {xs ys : List Route} → Same xs ys → (r : Route) → Memᴰ r xs → Memᴰ r ys
same-has {xs} {ys} s r m = times-has r ys (omega (arith, has-times m, s.often r))

pub same-sym : {xs ys : List Route} → Same xs ys → Same ys xs
same-sym s = record { often = λ r. sym (s.often r) }

pub same-members : {xs ys : List Route} → Same xs ys → (r : Route) → Memᴰ r xs ↔ Memᴰ r ys
same-members s r = (same-has s r, same-has (same-sym s) r)

-- a route that an image holds stands in a used slot
pub record Slot (cs : List Cell) (r : Route) : Type 0 where
  pub cell : Cell
  pub stands : Memᴰ cell cs
  pub used : is_free cell ≡ false
  pub is : r ≡ route_of cell

pub slot_of : (cs : List Cell) (r : Route) → Memᴰ r (routes_in cs) → Slot cs r
slot_of [] r m = absurd (Memᴰ.not-nil m)
slot_of (c ∷ cs) r m = go (is_free c) refl m (slot_of cs)
  where
    behind : (r : Route) → Slot cs r → Slot (c ∷ cs) r
    behind r s = record { cell = s.cell; stands = Memᴰ.tail s.stands; used = s.used; is = s.is }

    go : (t : Bool) → is_free c ≡ t → Memᴰ r (cond t (routes_in cs) (route_of c ∷ routes_in cs)) → ((r : Route) → Memᴰ r (routes_in cs) → Slot cs r) → Slot (c ∷ cs) r
    go true e m later = behind r (later r m)
    go false e m later =
        each_of {P = Slot (c ∷ cs)} (route_of c) (routes_in cs) (record { cell = c; stands = Memᴰ.head refl; used = e; is = refl })
        (λ s i. behind s (later s i)) r m

pub routes_in-so : {c : Cell} {cs : List Cell} → is_free c ≡ false → Memᴰ c cs → Memᴰ (route_of c) (routes_in cs)
routes_in-so {c} u (Memᴰ.head {x = x} e) = let u' = rw e at u in rw u' (Memᴰ.head (ap route_of e))
routes_in-so {c} u (Memᴰ.tail {x = x} {xs = xs} m) = go (is_free x) (routes_in-so u m)
  where
    go : (t : Bool) → Memᴰ (route_of c) (routes_in xs) → Memᴰ (route_of c) (cond t (routes_in xs) (route_of x ∷ routes_in xs))
    go true m = m
    go false m = Memᴰ.tail m
