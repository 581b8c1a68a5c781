-- Mends hold: every image without a fault is half-written, so it is mended.
use Prim.Native.Nat.{ℕ, ◌≤◌, zero-le}
use mathlib.Core.Path.{◌≡◌, refl, subst}
use mathlib.Core.Logic.{◌⊎◌, inl, inr}
use mathlib.Core.Bool.{false}
use mathlib.Core.List.{List, [], ◌∷◌, ◌++◌, Memᴰ}
use native.Mathlib.Nat.{zero-add}
use native.Mathlib.Omega.{arith}
use lib.Dec.{eqb, leb}
use lib.ListN.{length, length-map}
use lib.Seq.{get_or-append_seam}
use borrow.Author.Tests.{leb-true, le-ltb, not-false}
use Rattle.route.specs.Refusals.{fine, size_refusal}
use Rattle.route.specs.Rule.{Route}
use Rattle.tcam.specs.Slots.{max_slots, Cell, free, image_fault, size_fault}
use Rattle.tcam.specs.Mend.{mend_fault}
use Rattle.tcam.specs.Tables.{addresses, tags, routes_in}
use Rattle.route.proofs.Tests.{all_three, in_turn, passed}
use Rattle.claims.specs.Mending.{OneTwice, Mends}
use Rattle.claims.proofs.Members.{member-times}
use Rattle.claims.proofs.Apply.{cells-back}
use Rattle.claims.proofs.Rank.{no-order-fault, ordered-less}
use Rattle.claims.proofs.Repeats.{twin, twin-is, often-sought, no-repeat, image-fresh, fresh-image, once-fresh, one-repeat}
use Rattle.claims.proofs.Doubled.{own-twin}
use Rattle.claims.proofs.Half.{Half, whole, twice, half-found}
use Rattle.claims.proofs.Mends.{mendable, mendable-again}

-- the rows are of a right size
sizes : (cs : List Cell) → size_fault (addresses cs) (tags cs) ≡ fine → (1 ≤ length cs) × (length cs ≤ max_slots)
sizes cs e =
    let m = length (addresses cs) in
    let t = all_three (eqb m (length (tags cs))) (leb 1 m) (leb m max_slots) (not-false _ (passed _ size_refusal 0 e)) in
    let n : m ≡ length cs = rw length-map in
    (omega (arith, leb-true 1 m t.1), omega (arith, leb-true m max_slots t.2))

-- an image without a fault is half-written
half : (W : ℕ) (cs : List Cell) → mend_fault W (addresses cs) (tags cs) ≡ fine → (size_fault (addresses cs) (tags cs) ≡ fine) × Half W (routes_in cs) cs
half W cs e =
    let t = in_turn (size_fault (addresses cs) (tags cs)) _ e in
    let u = in_turn _ _ (rw cells-back at t.1) in
    (t.0, half-found W cs u.0 u.1)

-- which has each prefix once, or one cell in two slots
kinds : {W : ℕ} {rs : List Route} {cs : List Cell} → Half W rs cs → (image_fault W 0 [] cs ≡ fine) ⊎ OneTwice W cs
kinds {W} (whole {cs = cs} o once holds) = inl (fresh-image W 0 [] cs (no-order-fault W 0 [] cs o) (once-fresh cs once))
kinds {W} (twice front x back o u copy once holds) = inr record {
  front = front;
  later = x;
  back = back;
  is = refl;
  used = u;
  stands = let s = often-sought (twin x) front copy in subst (λ y. Memᴰ y front) (twin-is x s.cell s.passes) s.stands;
  in_order = no-order-fault W 0 [] (front ++ (x ∷ back)) o;
  others = fresh-image W 0 [] (front ++ back) (no-order-fault W 0 [] (front ++ back) (ordered-less W front x back o)) (once-fresh (front ++ back) once);
}

pub mends : (W : ℕ) → Mends W
mends W = record {
  every = λ cs e.
      let h = half W cs e in
      let s = sizes cs h.0 in
      mendable W _ cs s.0 s.1 h.1;
  again = λ cs e row k n.
      let h = half W cs e in
      let s = sizes cs h.0 in
      mendable-again W _ cs s.0 s.1 h.1 row k n;
  well_formed = λ cs room s e.
      let t = image-fresh W 0 [] cs e in
      let r = no-repeat 0 false [] cs t.1 in
      rw (s, cells-back, t.0, r.0, r.1, le-ltb room 0 zero-le);
  only = λ cs e. kinds (half W cs e).1;
  the_later = λ cs room s t.
      let r = one-repeat 0 [] t.front t.later t.back t.used (omega (arith, member-times (twin t.later) (own-twin t.later) t.stands))
      (omega arith) (image-fresh W 0 [] (t.front ++ t.back) t.others).1 in
      rw (s, cells-back, t.in_order, t.is, r.0, r.1, zero-add, get_or-append_seam t.front t.later t.back free);
}
