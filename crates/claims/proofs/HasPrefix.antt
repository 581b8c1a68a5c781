-- The set has a prefix where the book has it.
use Prim.Native.Nat.{ℕ, ◌≤◌}
use mathlib.Core.Path.{◌≡◌, refl, sym}
use mathlib.Core.Bool.{true, false, not, or-false}
use mathlib.Core.List.Memᴰ
use mathlib.Core.List.{List, [], ◌∷◌, ◌++◌}
use native.Mathlib.Omega.{arith}
use lib.Dec.{eqb}
use borrow.Author.Tests.{eqb-true, eq-eqb, not-true}
use Rattle.route.specs.Rule.{Route}
use Rattle.route.specs.Lists.{has_prefix, same_prefix}
use Rattle.tcam.specs.Slots.{Cell, is_free, length_in}
use Rattle.tcam.specs.Plans.{of_prefix}
use Rattle.tcam.specs.Book.{Book, book_image, has_entry}
use Rattle.tcam.specs.Tables.{route_of, routes_in}
use Rattle.route.proofs.Tests.{both, all_three, and_parts, is_false}
use Rattle.route.proofs.Members.{any-so}
use Rattle.claims.proofs.Times.{times, none_here}
use Rattle.claims.proofs.Row.{at}
use Rattle.claims.proofs.Image.{BookOk}
use Rattle.claims.proofs.Prefix.{prefix-times}
use Rattle.claims.proofs.Members.{any_none, Same, same-has, same-sym, Slot, slot_of, member-times, routes_in-so}

has_entry-not : (e : Cell) (r : List Cell) → times (at e.address) r ≡ 0 → has_entry e r ≡ false
has_entry-not e [] z = refl
has_entry-not e (c ∷ cs) z = rw (none_here (at e.address c) (times (at e.address) cs) z) (has_entry-not e cs (omega arith))

module _ (W M : ℕ) (b : Book) (ok : BookOk W M b) (rs : List Route) (same : Same (routes_in (book_image W M b)) rs) (a n h : ℕ) (i : n ≤ W) where
  abbrev route : Route
  route = record { address = a; length = n; hop = h }

  pub set-lacks : times (at a) (b n) ≡ 0 → has_prefix route rs ≡ false
  set-lacks z = any_none (same_prefix route) rs (λ s m. is_false (same_prefix route s) (λ e. go s (slot_of (book_image W M b) s (same-has (same-sym same) s m)) e))
    where
      go : (s : Route) → Slot (book_image W M b) s → same_prefix route s ≡ true → ⊥
      go s x e =
          let e' : same_prefix route (route_of x.cell) ≡ true = rw x.is at e in
          let one : a ≡ x.cell.address = eqb-true a x.cell.address (and_parts (eqb a x.cell.address) (eqb n (length_in x.cell)) e').0 in
          let two : n ≡ length_in x.cell = eqb-true n (length_in x.cell) (and_parts (eqb a x.cell.address) (eqb n (length_in x.cell)) e').1 in
          omega (
            arith,
            member-times (of_prefix a n) (rw (x.used, eq-eqb (length_in x.cell) n (sym two)) (eq-eqb x.cell.address a (sym one)))
                x.stands,
            prefix-times W M b ok a n i,
          )

  pub set-has : (front : List Cell) (c : Cell) (back : List Cell) → book_image W M b ≡ front ++ (c ∷ back) → of_prefix a n c ≡ true → has_prefix route rs ≡ true
  set-has front c back before p =
      let q = all_three (not (is_free c)) (eqb (length_in c) n) (eqb c.address a) p in
      any-so (same_prefix route) (same-has same (route_of c) (rw before (routes_in-so (not-true (is_free c) q.0) (Memᴰ.append_right front (Memᴰ.head refl)))))
      (both (eqb a c.address) (eqb n (length_in c)) (eq-eqb a c.address (sym (eqb-true c.address a q.2)))
      (eq-eqb n (length_in c) (sym (eqb-true (length_in c) n q.1))))

-- the row holds an entry itself where the one of its address has its tag
pub has_entry-is : (e : Cell) (u : List Cell) (c : Cell) (v : List Cell) → c.address ≡ e.address → times (at e.address) u ≡ 0 → times (at e.address) v ≡ 0
    → has_entry e (u ++ (c ∷ v)) ≡ eqb c.tag e.tag
has_entry-is e [] c v h i j = rw (eq-eqb c.address e.address h, has_entry-not e v j) (or-false (eqb c.tag e.tag))
has_entry-is e (x ∷ u) c v h i j = rw (none_here (at e.address x) (times (at e.address) u) i) (has_entry-is e u c v h (omega arith) j)
