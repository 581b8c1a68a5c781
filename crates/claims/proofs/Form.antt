-- The image of a book that keeps its rows is well-formed: its slots fall in rank, and no prefix stands twice.
use Prim.Native.Nat.{ℕ, suc, zero, ◌+◌, ◌-◌, ◌/◌, ◌≤◌, ◌<◌, zero-le}
use mathlib.Core.Path.{◌≡◌, refl}
use mathlib.Core.Bool.{false}
use mathlib.Core.List.{List, [], ◌∷◌, ◌++◌}
use native.Mathlib.Nat.{zero-add, le_refl}
use native.Mathlib.Omega.{arith}
use lib.Dec.{leb}
use lib.ListN.{length, length-append, replicate, length-replicate}
use borrow.Author.Tests.{leb-true, leb-false}
use Rattle.route.specs.Refusals.{fine}
use Rattle.tcam.specs.Slots.{Cell, free, is_free, length_in, image_fault}
use Rattle.tcam.specs.Plans.{falling, of_prefix}
use Rattle.tcam.specs.Book.{Book, rows, book_image, entries}
use Rattle.route.proofs.Tests.{by_test}
use Rattle.tcam.proofs.Cells.{used-short}
use Rattle.claims.proofs.Times.{All, all-copies, all_append, all_map, none}
use Rattle.claims.proofs.Pairs.{Pairs, pairs-append}
use Rattle.claims.proofs.Row.{IsEntry, Row}
use Rattle.claims.proofs.Rows.{rows_all, rows-every, lengths-all}
use Rattle.claims.proofs.Lies.{upper_lengths, lower_lengths}
use Rattle.claims.proofs.Image.{upper, lower, entries-length, BookOk}
use Rattle.claims.proofs.Chain.{entry-not}
use Rattle.claims.proofs.Prefix.{prefix-times}
use Rattle.claims.proofs.Apply.{Keeps}
use Rattle.claims.proofs.Set.{Once}
use Rattle.claims.proofs.Rank.{Falls, rank_mono, rank-above, rank_below, level, in_order_lem, no-order-fault}
use Rattle.claims.proofs.Repeats.{fresh-image, once-fresh}

-- a used slot with a length from lo on, below hi
record Ranked (lo hi : ℕ) (c : Cell) : Type 0 where
  used : is_free c ≡ false
  low : lo ≤ length_in c
  high : length_in c < hi

entry-ranked : {W l : ℕ} (lo hi : ℕ) → lo ≤ l → l < hi → (c : Cell) → IsEntry W l c → Ranked lo hi c
entry-ranked lo hi i j c e = record { used = e.used; low = omega (arith, e.long); high = omega (arith, e.long) }

module _ (W : ℕ) where
  row-falls : (l : ℕ) (r : List Cell) → All (IsEntry W l) r → Pairs (Falls W) r
  row-falls l [] e = tt
  row-falls l (x ∷ xs) e = (all_map _ _ (λ y f. level W e.0 f) xs e.1, row-falls l xs e.1)

  rows-ranked : (b : Book) → ((l : ℕ) → Row W l (b l)) → (k l : ℕ) → All (Ranked l (l + k)) (rows b (falling k l))
  rows-ranked b ok k l = rows_all b _ (falling k l) (lengths-all false _ k l (λ m x y. all_map _ _ (entry-ranked l (l + k) x y) (b m) (ok m).entries))

  rows-fall : (b : Book) → ((l : ℕ) → Row W l (b l)) → (k l : ℕ) → Pairs (Falls W) (rows b (falling k l))
  rows-fall b ok zero l = tt
  rows-fall b ok (suc k) l =
      pairs-append (Falls W) (b (l + k)) (rows b (falling k l))
      (all_map _ _ (λ x e. all_map _ _ (λ y r. rank_mono W x y e.used r.used (omega (arith, e.long, r.high)))
      (rows b (falling k l)) (rows-ranked b ok k l)) (b (l + k)) (ok (l + k)).entries)
      (row-falls (l + k) (b (l + k)) (ok (l + k)).entries) (rows-fall b ok k l)

  free-falls : (p : ℕ) → Pairs (Falls W) (replicate p free)
  free-falls zero = tt
  free-falls (suc p) = (all-copies (Falls W free) p free (le_refl (W / 2)), free-falls p)

module _ (W M : ℕ) (b : Book) (ok : BookOk W M b) where
  abbrev pool : ℕ
  pool = M - length (entries W b)

  -- every slot is free or an entry of some length
  image-all : (P : Cell → Type 0) → P free → ((l : ℕ) (c : Cell) → IsEntry W l c → P c) → All P (book_image W M b)
  image-all P f h = all_append P (upper W b) (replicate pool free ++ lower W b) (part (upper_lengths W))
      (all_append P (replicate pool free) (lower W b) (all-copies P pool free f) (part (lower_lengths W)))
    where
      part : (ls : List ℕ) → All P (rows b ls)
      part = rows-every b P (λ m. all_map _ P (h m) (b m) (ok.row m).entries)

  pub image-keeps : All (Keeps W) (book_image W M b)
  image-keeps = image-all (Keeps W) refl (λ l c e. e.keeps)

  pub image-length : length (book_image W M b) ≡ M
  image-length = simp (length-append, length-replicate) (omega (arith, entries-length W b))

  pub image-falls : Pairs (Falls W) (book_image W M b)
  image-falls = pairs-append (Falls W) (upper W b) (replicate pool free ++ lower W b)
      (all_map _ _ (λ x r. all_append (Falls W x) (replicate pool free) (lower W b)
      (all-copies _ pool free (rank-above W x r.used r.low))
      (all_map _ _ (λ y s. rank_mono W x y r.used s.used (omega (arith, r.low, s.high))) (lower W b) shorter))
      (upper W b) (rows-ranked W b ok.row (W - W / 2 + 1) (W / 2)))
      (rows-fall W b ok.row (W - W / 2 + 1) (W / 2))
      (pairs-append (Falls W) (replicate pool free) (lower W b)
      (all-copies _ pool free (all_map _ _ (λ y s. rank_below W y s.used s.high) (lower W b) shorter))
      (free-falls W pool) (rows-fall W b ok.row (W / 2) 0))
    where
      shorter : All (Ranked 0 (W / 2)) (lower W b)
      shorter = rw zero-add at (rows-ranked W b ok.row (W / 2) 0)

  pub image-once : Once (book_image W M b)
  image-once a m = by_test (leb m W)
      (λ t. rw (prefix-times W M b ok a m (leb-true m W t)) ((ok.row m).once a))
      (λ t. let long = leb-false m W t in
      rw (none (of_prefix a m) (book_image W M b)
      (image-all _ refl (λ l c e. rw (entry-not m e (λ q. omega (arith, e.long, used-short W c e.keeps e.used)))))) zero-le)

  pub well-formed : image_fault W 0 [] (book_image W M b) ≡ fine
  well-formed =
      fresh-image W 0 [] (book_image W M b) (no-order-fault W 0 [] (book_image W M b) (in_order_lem W image-keeps image-falls))
      (once-fresh (book_image W M b) image-once)
