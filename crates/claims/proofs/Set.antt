-- The set that slots hold: where they keep S1 and have each prefix once, each route is valid and each prefix has one hop.
use Prim.Native.Nat.{ℕ, ◌≤◌}
use mathlib.Core.Path.{◌≡◌, refl, sym, ap, ◌∙◌, subst⁻¹}
use mathlib.Core.Logic.{◌↔◌}
use mathlib.Core.Bool.{true, not}
use mathlib.Core.List.{List, Memᴰ}
use borrow.Author.Tests.{eq-eqb}
use Rattle.route.specs.Rule.{Route}
use Rattle.route.specs.RowsOfSet.{Valid}
use Rattle.tcam.specs.Slots.{Cell}
use Rattle.tcam.specs.Plans.{of_prefix}
use Rattle.tcam.specs.Tables.{route_of, routes_in}
use Rattle.route.proofs.RouteSet.{RouteSet}
use Rattle.route.proofs.Tests.{both}
use Rattle.claims.proofs.Times.{All, times}
use Rattle.claims.proofs.Members.{member, once-same, Slot, slot_of}
use Rattle.claims.proofs.Apply.{Keeps}
use Rattle.claims.proofs.Row.{cell-valid}

-- each prefix stands in at most one slot
abbrev pub Once : List Cell → Type 0
Once cs = (a m : ℕ) → times (of_prefix a m) cs ≤ 1

-- the slots hold the routes of a set
abbrev pub Holds : List Cell → List Route → Type 0
Holds cs rs = (r : Route) → Memᴰ r (routes_in cs) ↔ Memᴰ r rs

module _ (W : ℕ) (rs : List Route) (cs : List Cell) (keeps : All (Keeps W) cs) (single : Once cs) (holds : Holds cs rs) where
  slot : (r : Route) → Memᴰ r rs → Slot cs r
  slot r m = slot_of cs r ((holds r).1 m)

  valid : (r : Route) → Memᴰ r rs → Valid W r
  valid r m =
      let s = slot r m in
      subst⁻¹ (Valid W) s.is (cell-valid W s.cell s.used (member (Keeps W) keeps s.stands))

  -- the slot's cell has the route's prefix
  has : (r : Route) (s : Slot cs r) (a n : ℕ) → r.address ≡ a → r.length ≡ n → of_prefix a n s.cell ≡ true
  has r s a n e f =
      both _ _ (both _ _ (ap not s.used) (eq-eqb _ _ (sym (ap (λ t. t.length) s.is) ∙ f)))
      (eq-eqb _ _ (sym (ap (λ t. t.address) s.is) ∙ e))

  once : (r s : Route) → Memᴰ r rs → Memᴰ s rs → r.address ≡ s.address → r.length ≡ s.length → r ≡ s
  once r s m k e f =
      let x = slot r m in
      let y = slot s k in
      let one = once-same (of_prefix s.address s.length) (single s.address s.length) (has r x _ _ e f) (has s y _ _ refl refl) in
      x.is ∙ ap route_of (one x.stands y.stands) ∙ sym y.is

  pub set-of : RouteSet W rs
  set-of = record { valid = valid; once = once }
