-- A valid entry is written into the book's image: the set after it.
use Prim.Native.Nat.{ℕ, ◌+◌, ◌<◌}
use mathlib.Core.Path.{◌≡◌, refl}
use mathlib.Core.List.{List, ◌∷◌}
use lib.ListN.{length}
use Rattle.route.specs.Rule.{Route, route}
use Rattle.route.specs.Refusals.{fine, prefix_fault, hop_fault}
use Rattle.tcam.specs.Slots.{Cell, free}
use Rattle.tcam.specs.Plans.{Write, set_absent}
use Rattle.tcam.specs.Book.{Book, book_image, after_set, rows_turned, lengths, entries}
use Rattle.tcam.specs.Tables.{route_of, routes_in}
use Rattle.tcam.proofs.Cells.{entry_length, entry-hop}
use Rattle.claims.specs.Sequence.{without}
use Rattle.claims.proofs.Times.{times}
use Rattle.claims.proofs.Row.{IsEntry, at}
use Rattle.claims.proofs.Walk.{walk-times}
use Rattle.claims.proofs.Image.{BookOk}
use Rattle.claims.proofs.Update.{Update}
use Rattle.claims.proofs.Members.{Same}
use Rattle.claims.proofs.Next.{Cleared, same_set}
use Rattle.claims.proofs.Entry.{cell_of, prefix-length, entry}
use Rattle.claims.proofs.Updates.{update-set, cleared-absent}

module _ (W M : ℕ) (b : Book) (ok : BookOk W M b) (rs : List Route) (same : Same (routes_in (book_image W M b)) rs) (a n h : ℕ)
    (f : prefix_fault W 0 a n ≡ fine) (g : hop_fault 0 h ≡ fine) where
  pub new-entry : IsEntry W n (cell_of a n h)
  new-entry = entry W a n f h g

  new-route : route_of (cell_of a n h) ≡ route a n h
  new-route k = record { address = a; length = entry_length W a n f h g k; hop = entry-hop W a n f h g k }

  -- the set after an update that writes the new entry last
  pub same_next : (gap : Cell) (writes : ℕ → List Write) (next : Book) (w : ℕ) (u : Update W M b gap (cell_of a n h) writes next w)
      → Cleared a n u.front gap u.back → Same (routes_in (book_image W M next)) (route a n h ∷ without a n rs)
  same_next gap writes next w u c =
      rw (← new-route)
      (same_set a n c rs (rw u.before at same) (cell_of a n h) new-entry.used (book_image W M next) (λ t. walk-times W (cell_of a n h) t u.walks.walk))

  -- absent, and a slot is free
  module _ (z : times (at a) (b n) ≡ 0) (space : length (entries W b) < M) where
    pub joins : Update W M b free (cell_of a n h) (λ s. set_absent W (book_image W M b) n (cell_of a n h)) (after_set W b n (cell_of a n h))
        (1 + rows_turned W b n (lengths W))
    joins = update-set W M b ok n (prefix-length W a n f) (cell_of a n h) new-entry z space

    pub same-joins : Same (routes_in (book_image W M (after_set W b n (cell_of a n h)))) (route a n h ∷ without a n rs)
    same-joins = same_next free _ _ _ joins
        (cleared-absent W M b ok n (prefix-length W a n f) a joins.front free joins.back joins.before z refl)
