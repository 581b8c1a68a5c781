-- The chain of a plan walks the open slot over the rows of the book.
use Prim.Native.Nat.{ℕ, suc, ◌+◌, ◌≤◌, ◌<◌}
use mathlib.Core.Path.{◌≡◌, refl, sym, ap, ◌∙◌}
use mathlib.Core.Bool.{Bool, true, false, not}
use mathlib.Core.List.{List, [], ◌∷◌, ◌++◌}
use mathlib.Core.Option.{some}
use native.Mathlib.Omega.{arith}
use lib.Dec.{eqb, ltb}
use lib.ListN.{length}
use borrow.Author.Tests.{eqb-true, eq-eqb, ne_eqb}
use Rattle.tcam.specs.Slots.{Cell, free, is_free, length_in}
use Rattle.tcam.specs.Plans.{falling, of_length, chain, copied, open_after, remove_by}
use Rattle.tcam.specs.Book.{Book, rows}
use Rattle.tcam.specs.Loops.{edge_of, lengths_from}
use Rattle.route.proofs.Tests.{not-both}
use Rattle.claims.proofs.Times.{All, times}
use Rattle.claims.proofs.Join.{join, place-apart, around, around-is, join-assoc, join-nil, nil-join, length-join, times-join}
use Rattle.claims.proofs.Join.{all-parts, place}
use Rattle.claims.proofs.Find.{edge_none, edge-some}
use Rattle.claims.proofs.Row.{IsEntry, Row}
use Rattle.claims.proofs.Turn.{Ended, empty, edge, ended, turn, turn_is, length-turn, filled, filled-edge}
use Rattle.claims.proofs.Walk.{ends}
use Rattle.claims.proofs.Hop.{Goes, walks-as, hop, edge_in, edge-place}
use Rattle.claims.proofs.Rows.{filled_rows, stack, stack-lengths, lengths-all, lengths-times}

pub entry_of : {W l : ℕ} {c : Cell} → IsEntry W l c → of_length l c ≡ true
entry_of {W} {l} {c} e = rw e.used (eq-eqb (length_in c) l e.long)

pub entry-not : {W l : ℕ} {c : Cell} (m : ℕ) → IsEntry W l c → (m ≡ l → ⊥) → of_length m c ≡ false
entry-not {W} {l} {c} m e h = not-both (not (is_free c)) (eqb (length_in c) m) (λ i j. h (sym (eqb-true (length_in c) m j) ∙ e.long))

-- the slots of a length are those of its row
abbrev pub Only : List Cell → Book → ℕ → Type 0
Only cs b l = times (of_length l) cs ≡ times (of_length l) (b l)

module _ {W l : ℕ} (cs : List Cell) (up : Bool) where
  -- the entry at the edge of a row, with nothing of its length ahead of it, is at the edge slot of that length
  edge-is : (a b S : List Cell) (x : Cell) (xs : List Cell) → Row W l (join up (x ∷ []) xs) → cs ≡ join up a (join up (join up (x ∷ []) xs) S)
      → length S ≡ suc (length b) → times (of_length l) a ≡ 0 → edge_of up cs l ≡ edge_in up a (join up (x ∷ []) xs) b
  edge-is a b S x xs w e s h =
      let v = entry_of (all-parts up _ (x ∷ []) xs w.entries).0.0 in
      rw (e, join-assoc, edge-some (of_length l) up a x (join up xs S) h v, edge-place up a x xs S b s, filled-edge)

  row-edge-is : (a b S : List Cell) {r : List Cell} → Ended up r → Row W l r → cs ≡ join up a (join up r S) → length S ≡ suc (length b)
      → times (of_length l) cs ≡ times (of_length l) r → edge_of up cs l ≡ edge_in up a r b
  row-edge-is a b S empty w e s h = edge_none (of_length l) up cs h
  row-edge-is a b S (edge x xs) w e s h =
      let k = simp times-join at (sym (ap (times (of_length l)) e) ∙ h) in
      edge-is a b S x xs w e s (omega (arith, times-join up (of_length l) (x ∷ []) xs))

  -- a removal of the entry x, with u of its row ahead: the edge entry of u is copied to the slot of x, if u has one
  remove_by-is : (a : List Cell) {u : List Cell} → Ended up u → (x : Cell) (b : List Cell) (ls : List ℕ) → Row W l u → IsEntry W l x
      → cs ≡ join up a (join up u (join up (x ∷ []) b)) → times (of_length l) a ≡ 0
      → remove_by (edge_of up cs) cs ls (place up (join up a u) b) (open_after (place up (join up a u) b) (edge_of up cs l))
      ≡ copied cs (place up (join up a u) b) (edge_in up a u b) ++ chain (edge_of up cs) cs ls (open_after (place up (join up a u) b) (edge_in up a u b)) free
  remove_by-is a empty x b ls w v e h =
      let i : edge_of up cs l ≡ some (place up a b) = rw (e, nil-join) (edge-some (of_length l) up a x b h (entry_of v)) in
      rw (i, join-nil, eq-eqb (place up a b) _ refl)
  remove_by-is a (edge y ys) x b ls w v e h =
      let r = join up (y ∷ []) ys in
      let i = edge-is a b (join up (x ∷ []) b) y ys w e (simp length-join (omega arith)) h in
      let s = place-apart up a b r (turn up r) (simp length-join (omega arith)) (simp (turn_is, length-join) (omega arith)) in
      rw (i, filled-edge, ne_eqb (place up (join up a r) b) _ s)

module _ {W : ℕ} (b : Book) (ok : (l : ℕ) → Row W l (b l)) (last : Cell) (cs : List Cell) (up : Bool) where
  -- over the rows of some lengths, each row's far entry going over the others
  walk-over : (ls : List ℕ) → All (Only cs b) ls → (a c S : List Cell) (f : Cell) → cs ≡ join up (stack up a b ls) S → length S ≡ suc (length c)
      → Goes W last up (stack up a b ls) f c (chain (edge_of up cs) cs ls (place up (stack up a b ls) c) last)
      (around up a last (join up (stack up [] (λ m. turn up (b m)) ls) c)) (1 + filled_rows b ls)
  walk-over [] h a c S f e s = rw (nil-join, around-is) (record { walk = ends refl; many = refl })
  walk-over (l ∷ ls) h a c S f e s =
      let near = stack up a b ls in
      let e' = e ∙ join-assoc up near (b l) S in
      rw (row-edge-is cs up near c S (ended up (b l)) (ok l) e' s h.0)
      (walks-as refl (simp join-assoc) (omega arith)
      (hop last cs (λ at. chain (edge_of up cs) cs ls at last) up near c S _ f _ (ended up (b l)) (ok l) e' s
      (λ g. walk-over ls h.1 a (join up (turn up (b l)) c) (join up (b l) S) g e' (simp (length-join, length-turn (ended up (b l))) (omega arith)))))

module _ {W : ℕ} (b : Book) (ok : (l : ℕ) → Row W l (b l)) (cs : List Cell) (up : Bool) (k from : ℕ)
    (only : (m : ℕ) → from ≤ m → m < from + k → Only cs b m) where
  abbrev inner : List Cell
  inner = rows b (falling k from)

  abbrev turned : List Cell
  turned = rows (λ m. turn up (b m)) (falling k from)

  -- over the rows of the k lengths from `from` on
  pub walk_rows : (last : Cell) (a c S : List Cell) (f : Cell) → cs ≡ join up (join up a inner) S → length S ≡ suc (length c)
      → Goes W last up (join up a inner) f c (chain (edge_of up cs) cs (lengths_from up k from) (place up (join up a inner) c) last)
      (around up a last (join up turned c)) (1 + filled_rows b (falling k from))
  walk_rows last a c S f e s =
      let i = stack-lengths b up a k from in
      rw (← i, ← (stack-lengths (λ m. turn up (b m)) up [] k from ∙ nil-join up turned), ← (lengths-times (λ l. ltb 0 (length (b l))) up k from))
      (walk-over b ok last cs up (lengths_from up k from) (lengths-all up (Only cs b) k from only) a c S f (rw (← i) at e) s)

  -- from the slot of x, over what lies ahead of it in its row, and then over those rows
  pub walk_from_lem : {l : ℕ} (a u : List Cell) (x : Cell) (c : List Cell) → Row W l u → IsEntry W l x
      → cs ≡ join up (join up a inner) (join up u (join up (x ∷ []) c)) → times (of_length l) (join up a inner) ≡ 0
      → Goes W free up (join up (join up a inner) u) x c (remove_by (edge_of up cs) cs (lengths_from up k from) (place up (join up (join up a inner) u) c)
      (open_after (place up (join up (join up a inner) u) c) (edge_of up cs l)))
      (around up a free (join up turned (join up (turn up u) c))) (filled u + (1 + filled_rows b (falling k from)))
  walk_from_lem a u x c w i e z =
      rw (remove_by-is cs up (join up a inner) (ended up u) x c (lengths_from up k from) w i e z)
      (hop free cs (λ at. chain (edge_of up cs) cs (lengths_from up k from) at free) up (join up a inner) c (join up (x ∷ []) c) _ x _ (ended up u) w e
      (simp length-join (omega arith))
      (λ g. walk_rows free a (join up (turn up u) c) (join up u (join up (x ∷ []) c)) g e (simp (length-join, length-turn (ended up u)) (omega arith))))
