-- Every set of at most M valid routes has a table of M slots: the book's image after they are set one by one.
use Prim.Native.Nat.{ℕ, ◌+◌, ◌≤◌, ◌<◌}
use mathlib.Core.Path.{◌≡◌, refl, sym, ap, ◌∙◌, subst}
use mathlib.Core.Bool.{Bool}
use mathlib.Core.List.{List, [], ◌∷◌, Memᴰ}
use native.Mathlib.Omega.{arith}
use lib.Dec.{eqb}
use lib.ListN.{length}
use borrow.Author.Tests.{eqb-true}
use Rattle.route.specs.Rule.{Route}
use Rattle.route.specs.Refusals.{fine, prefix_fault, hop_fault}
use Rattle.route.specs.Lists.{same_prefix}
use Rattle.route.specs.RowsOfSet.{Valid, Distinct}
use Rattle.tcam.specs.Slots.{free, is_free}
use Rattle.tcam.specs.Plans.{set_absent}
use Rattle.tcam.specs.Book.{Book, book_image, entries, empty_book, after_set, rows_turned, lengths}
use Rattle.tcam.specs.Tables.{routes_in}
use Rattle.claims.specs.Sequence.{without}
use Rattle.claims.specs.Agreement.{HasTable}
use Rattle.route.proofs.Tests.{clash, not-both}
use Rattle.route.proofs.Accepted.{prefix_fine, hop_fine, other_prefix}
use Rattle.claims.proofs.Times.{times, times-append}
use Rattle.claims.proofs.Row.{IsEntry, at}
use Rattle.claims.proofs.Found.{Search, absent, present, searched}
use Rattle.claims.proofs.Walk.{walk-times}
use Rattle.claims.proofs.Image.{BookOk}
use Rattle.claims.proofs.Update.{Update}
use Rattle.claims.proofs.Prefix.{free-times, free-slots}
use Rattle.claims.proofs.Updates.{update-replace, found_prefix}
use Rattle.claims.proofs.Form.{image-length}
use Rattle.claims.proofs.Members.{any_none, Same}
use Rattle.claims.proofs.Entry.{cell_of}
use Rattle.claims.proofs.HasPrefix.{set-has}
use Rattle.claims.proofs.NewEntry.{new-entry, joins, same-joins}
use Rattle.claims.proofs.Answer.{image-table}
use Rattle.claims.proofs.Demand3.{empty-ok, empty-is, empty-same}

-- the book of a set, with a free slot for each route that M leaves
record Filled (W M : ℕ) (rs : List Route) : Type 0 where
  book : Book
  ok : BookOk W M book
  same : Same (routes_in (book_image W M book)) rs
  left : times is_free (book_image W M book) + length rs ≡ M

-- a set without a prefix that it lacks
without-none : (r : Route) (rs : List Route) → ((s : Route) → Memᴰ s rs → r.address ≡ s.address → r.length ≡ s.length → ⊥) →
    without r.address r.length rs ≡ rs
without-none r [] h = refl
without-none r (s ∷ rs) h =
    rw (not-both (eqb s.address r.address) (eqb s.length r.length)
    (λ a n. h s (Memᴰ.head refl) (sym (eqb-true _ _ a)) (sym (eqb-true _ _ n))))
    (ap (λ l. s ∷ l) (without-none r rs (λ t m. h t (Memᴰ.tail m))))

-- one route more
module _ (W M : ℕ) (r : Route) (rs : List Route) (v : Valid W r)
    (new : (s : Route) → Memᴰ s rs → r.address ≡ s.address → r.length ≡ s.length → ⊥) (less : length rs < M) (t : Filled W M rs) where
  open r use {address as a, length as n, hop as h}
  open t use {book as b, ok, same}

  abbrev next : Book
  next = after_set W b n (cell_of a n h)

  f : prefix_fault W 0 a n ≡ fine
  f = prefix_fine W 0 r v

  g : hop_fault 0 h ≡ fine
  g = hop_fine W 0 r v

  is_entry : IsEntry W n (cell_of a n h)
  is_entry = new-entry W M b ok rs same a n h f g

  lacks : {x : Bool} → Search a (b n) x → times (at a) (b n) ≡ 0
  lacks (absent z) = z
  lacks (present q) =
      let u = update-replace W M b ok n v.short a q (cell_of a n h) is_entry refl in
      clash
      (set-has W M b ok rs same a n h v.short u.front q.entry u.back u.before (found_prefix W M b ok n v.short a q))
      (any_none (same_prefix r) rs (λ s m. other_prefix s r (λ x y. new s m (sym x) (sym y))))

  away : times (at a) (b n) ≡ 0
  away = lacks (searched a (b n))

  space : length (entries W b) < M
  space = omega (arith, free-slots W M b ok, t.left)

  u : Update W M b free (cell_of a n h) (λ s. set_absent W (book_image W M b) n (cell_of a n h)) next (1 + rows_turned W b n (lengths W))
  u = joins W M b ok rs same a n h f g away space

  fewer : times is_free (book_image W M next) + 1 ≡ times is_free (book_image W M b)
  fewer =
      let after = rw is_entry.used at (walk-times W (cell_of a n h) is_free u.walks.walk) in
      let before = ap (times is_free) u.before ∙ times-append is_free u.front (free ∷ u.back) in
      omega arith

  more : Filled W M (r ∷ rs)
  more = record {
    book = next;
    ok = u.ok;
    same = subst (λ l. Same (routes_in (book_image W M next)) (r ∷ l)) (without-none r rs new) (same-joins W M b ok rs same a n h f g away space);
    left = omega (arith, fewer, t.left);
  }

filled : (W M : ℕ) (rs : List Route) → ((r : Route) → Memᴰ r rs → Valid W r) → Distinct rs → length rs ≤ M → Filled W M rs
filled W M [] v d le = record {
  book = empty_book;
  ok = empty-ok W M;
  same = empty-same W M;
  left = rw (← (empty-is W M)) (omega (arith, free-times M));
}
filled W M (r ∷ rs) v d le =
    more W M r rs (v r (Memᴰ.head refl)) d.0 (omega arith) (filled W M rs (λ s m. v s (Memᴰ.tail m)) d.1 (omega arith))

pub has_table : (W : ℕ) → HasTable W
has_table W M i j rs v d le =
    let t = filled W M rs v d le in
    (book_image W M t.book, image-length W M t.book t.ok, image-table W M i j t.book t.ok rs t.same)
