-- Sets and removals on either side of the pool. A set walks the open slot outward, from the pool over the rows between; a removal walks
-- it inward, over the rest of its own row and then the rows between. A replaced entry is one write.
use Prim.Native.Nat.{ℕ, suc, ◌+◌, ◌-◌, ◌≤◌, ◌<◌}
use mathlib.Core.Path.{◌≡◌, refl, sym, ap, ◌∙◌}
use mathlib.Core.Bool.{Bool, cond, not, not-not}
use mathlib.Core.List.{List, [], ◌∷◌, ◌++◌, append-nil}
use native.Mathlib.Omega.{arith}
use lib.Dec.{eqb}
use lib.ListN.{length, replicate}
use borrow.Author.Tests.{eq-eqb, ne_eqb}
use Rattle.tcam.specs.Slots.{Cell, free, is_free}
use Rattle.tcam.specs.Plans.{of_length, set_absent, remove_present, chain, write}
use Rattle.tcam.specs.Book.{Book, rows, book_image, entries, between, after_set, after_remove, replaced, rows_turned, lengths, count_if}
use Rattle.tcam.specs.Book.{at_edge, is_upper_length}
use Rattle.tcam.specs.Loops.{edge_of, lengths_from, edge}
use Rattle.route.proofs.Tests.{either}
use Rattle.claims.proofs.Times.{times}
use Rattle.claims.proofs.Join.{join, around, around-is, join-assoc, join-not, join-copies, length-join, times-join, all_join}
use Rattle.claims.proofs.Join.{place}
use Rattle.claims.proofs.Find.{edge-some}
use Rattle.claims.proofs.Row.{IsEntry, at, row_more}
use Rattle.claims.proofs.Turn.{ended, filled, turn, length-turn, row-turn}
use Rattle.claims.proofs.Found.{Found, ahead, behind, found-around, found-entry, ahead-row, replaced-own, replaced-row}
use Rattle.claims.proofs.Found.{gap_filled-own, less-row, edge_count}
use Rattle.claims.proofs.Walk.{ends}
use Rattle.claims.proofs.Hop.{walks-as}
use Rattle.claims.proofs.Chain.{Only, walk_rows, walk_from_lem}
use Rattle.claims.proofs.Lies.{Lies, lies}
use Rattle.claims.proofs.Image.{BookOk, Turned, Shape, inner_lengths, far_lengths, rows_turned-is, laid, image-about, next-about}
use Rattle.claims.proofs.Update.{Update, after_set-own, after_set-others, after_remove-own, after_remove-others}
use Rattle.claims.proofs.Prefix.{used-rows, image-times}

module _ (W M : ℕ) (b : Book) (ok : BookOk W M b) (n : ℕ) (i : n ≤ W) where
  abbrev L : Lies W n
  L = lies W n i

  abbrev s : Bool
  s = L.side

  abbrev cs : List Cell
  cs = book_image W M b

  abbrev pool : ℕ
  pool = M - length (entries W b)

  abbrev outer : List Cell
  outer = rows b L.outer

  abbrev inner : List Cell
  inner = rows b (inner_lengths L)

  abbrev far : List Cell
  far = rows b (far_lengths L)

  only : (m : ℕ) → L.from ≤ m → m < L.from + L.count → Only cs b m
  only m x y = image-times W M b ok m (omega (arith, L.within)) (of_length m) (λ c e. e)

  -- an entry joins its row at the end next to the pool
  pub update-set : (e : Cell) → IsEntry W n e → times (at e.address) (b n) ≡ 0 → length (entries W b) < M
      → Update W M b free e (λ s. set_absent W cs n e) (after_set W b n e) (1 + rows_turned W b n (lengths W))
  update-set e new away room = record {
    front = cond s near rest;
    back = cond s rest near;
    before = before ∙ around-is s near free rest;
    walks = walks-as (sym plan) (sym (next.is ∙ simp join-assoc)) (omega (arith, rows_turned-is L b))
        (walk_rows b ok.row cs s L.count L.from only e (join s outer (b n)) rest (join s (free ∷ []) rest) free before
        (simp length-join (omega arith)));
    ok = next.ok;
  }
    where
      p : ℕ
      p = pool - 1

      -- ahead of the open slot, and behind it
      near : List Cell
      near = join s (join s outer (b n)) inner

      rest : List Cell
      rest = join s (replicate p free) far

      before : cs ≡ around s near free rest
      before = image-about L M b (suc p) (omega arith) ∙ rw (← (join-copies s p free)) (simp join-assoc)

      used : times is_free near ≡ 0
      used = simp times-join
          (omega (arith, used-rows W M b ok L.outer, rw append-nil at (used-rows W M b ok (n ∷ [])), used-rows W M b ok (inner_lengths L)))

      plan : set_absent W cs n e ≡ chain (edge_of s cs) cs (lengths_from s L.count L.from) (place s near rest) e
      plan = L.sets cs e ∙ rw (ap (edge s is_free) before, edge-some is_free s near free rest used refl)

      next : Shape W M (after_set W b n e) (laid L outer (join s (b n) (e ∷ [])) (rows (λ m. turn s (b m)) (inner_lengths L)) p far)
      next = next-about L M b ok (after_set W b n e) (turn s) (λ r. length-turn (ended s r)) (λ l. row-turn s (b l) (ok.row l))
          (after_set-others W b n s L.is e) (join s (b n) (e ∷ [])) (after_set-own W b n s L.is e)
          (row_more e (b n) _ (ok.row n) away (all_join s _ (b n) (e ∷ []) (ok.row n).entries (new, tt)) (λ a. simp times-join (omega arith))) p
          (omega (arith, length-join s (b n) (e ∷ [])))

  module _ (a : ℕ) (f : Found a (b n)) where
    -- the entry of an address leaves its row
    pub update-remove : Update W M b f.entry free (λ s. remove_present W cs n s) (after_remove W b n a)
        (1 + rows_turned W b n (lengths W) + count_if (not (at_edge (is_upper_length W n) a (b n))))
    update-remove = record {
      front = cond d (join d near u) rest;
      back = cond d rest (join d near u);
      before = before ∙ sym (join-assoc d near u (join d (f.entry ∷ []) rest)) ∙ around-is d (join d near u) f.entry rest;
      walks = walks-as (sym (L.removes cs _)) (sym (next.is ∙ rw (← (join-copies s pool free)) (simp (join-not, join-assoc))))
          (omega (arith, rows_turned-is L b, edge))
          (walk_from_lem b ok.row cs d L.count L.from only (join d far (replicate pool free)) u f.entry rest
          (ahead-row f d (ok.row n)) (found-entry f d (ok.row n)) before clear);
      ok = next.ok;
    }
      where
        d : Bool
        d = not s

        -- ahead of the open slot in its row, ahead of that, and behind the slot
        u : List Cell
        u = ahead f d

        near : List Cell
        near = join d (join d far (replicate pool free)) inner

        rest : List Cell
        rest = join d (behind f d) outer

        before : cs ≡ join d near (join d u (join d (f.entry ∷ []) rest))
        before = image-about L M b pool (omega arith) ∙ rw (found-around f d) (simp (join-not, join-assoc))

        -- nothing of length n lies ahead of its row
        clear : times (of_length n) near ≡ 0
        clear =
            let all = sym (ap (times (of_length n)) before) ∙ image-times W M b ok n i (of_length n) (λ c e. e) ∙ ap (times (of_length n)) (found-around f d) in
            let parts = simp times-join at all in
            simp times-join (omega arith)

        edge : count_if (not (at_edge (is_upper_length W n) a (b n))) ≡ filled u
        edge = rw L.is (rw not-not at (edge_count f d (ok.row n)))

        next : Shape W M (after_remove W b n a) (laid L outer (join d (turn d u) (behind f d)) (rows (λ m. turn d (b m)) (inner_lengths L)) (suc pool) far)
        next = next-about L M b ok (after_remove W b n a) (turn d) (λ r. length-turn (ended d r)) (λ l. row-turn d (b l) (ok.row l))
            (after_remove-others W b n s L.is a) (join d (turn d u) (behind f d)) (after_remove-own W b n s L.is a ∙ gap_filled-own f d (ok.row n))
            (less-row f d (ok.row n)) (suc pool)
            (simp (length-join, length-turn (ended d u)) (omega (arith, simp length-join at (ap length (found-around f d)))))

    -- another entry of its address takes its place
    pub update-replace : (e : Cell) → IsEntry W n e → e.address ≡ a
        → Update W M b f.entry e (λ s. write s e ∷ []) (λ l. cond (eqb l n) (replaced a e (b l)) (b l)) 1
    update-replace e new has = record {
      front = cond s near rest;
      back = cond s rest near;
      before = image-about L M b pool (omega arith) ∙ rw (found-around f s) (about f.entry);
      walks = rw (next.is, about e) (record { walk = ends refl; many = refl });
      ok = next.ok;
    }
      where
        near : List Cell
        near = join s outer (ahead f s)

        rest : List Cell
        rest = join s (behind f s) (join s inner (join s (replicate pool free) far))

        about : (c : Cell) → laid L outer (around s (ahead f s) c (behind f s)) inner pool far ≡ cond s near rest ++ (c ∷ cond s rest near)
        about c = simp join-assoc (simp join-assoc at (around-is s near c rest))

        book : Book
        book l = cond (eqb l n) (replaced a e (b l)) (b l)

        others : Turned W b n (λ r. r) book
        others m h = rw (ne_eqb m n h) (either (λ r. b m ≡ r) (between W n m) (λ _. refl) (λ _. refl))

        next : Shape W M book (laid L outer (around s (ahead f s) e (behind f s)) inner pool far)
        next = next-about L M b ok book (λ r. r) (λ r. refl) ok.row others _ (rw (eq-eqb n n refl) (replaced-own f s (ok.row n) e))
            (replaced-row f s (ok.row n) e new has) pool (simp length-join (omega (arith, simp length-join at (ap length (found-around f s)))))
