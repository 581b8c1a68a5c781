-- The book's image about one length: seen from outside inward, the rows beyond it, its own, those between it and the pool, the
-- pool, and the rows across the pool.
use Prim.Native.Nat.{ℕ, ◌+◌, ◌-◌, ◌≤◌}
use mathlib.Core.Path.{◌≡◌, refl, ap, ◌∙◌}
use mathlib.Core.Bool.{Bool, true, false, cond, ◌&&◌}
use mathlib.Core.List.{List, [], ◌∷◌, ◌++◌, append-nil}
use native.Mathlib.Omega.{arith}
use lib.Dec.{ltb, eqb}
use lib.ListN.{length, length-append, replicate}
use borrow.Author.Tests.{eqb-true, eqb-false}
use Rattle.tcam.specs.Slots.{Cell, free}
use Rattle.tcam.specs.Plans.{falling}
use Rattle.tcam.specs.Book.{Book, rows, entries, book_image, between, rows_turned, lengths}
use Rattle.route.proofs.Tests.{by_test, either}
use Rattle.claims.proofs.Times.{All, all_map, times, times-same, none}
use Rattle.claims.proofs.Join.{join, around, join-assoc, from-left, length-join, times-join}
use Rattle.claims.proofs.Row.{Row}
use Rattle.claims.proofs.Rows.{rows_join, rows_agree, rows-length, filled_rows}
use Rattle.claims.proofs.Lies.{upper_lengths, lower_lengths, Other, Lies, halves}

module _ (W : ℕ) (b : Book) where
  abbrev pub upper : List Cell
  upper = rows b (upper_lengths W)

  abbrev pub lower : List Cell
  lower = rows b (lower_lengths W)

  pub entries-length : length (entries W b) ≡ length upper + length lower
  entries-length = rw (halves W true, rows_join b true) (length-append upper lower)

-- a book that keeps its rows, with a slot for each entry
pub record BookOk (W M : ℕ) (b : Book) : Type 0 where
  pub row : (l : ℕ) → Row W l (b l)
  pub fits : length (entries W b) ≤ M

-- a book that differs from b in the row of n, and in the rows between it and the pool by f
abbrev pub Turned : (W : ℕ) (b : Book) (n : ℕ) (f : List Cell → List Cell) (next : Book) → Type 0
Turned W b n f next = (m : ℕ) → (m ≡ n → ⊥) → next m ≡ cond (between W n m) (f (b m)) (b m)

-- a book that keeps its rows, and whose image is this
pub record Shape (W M : ℕ) (b : Book) (cs : List Cell) : Type 0 where
  pub ok : BookOk W M b
  pub is : book_image W M b ≡ cs

module _ {W n : ℕ} (L : Lies W n) where
  abbrev pub inner_lengths : List ℕ
  inner_lengths = falling L.count L.from

  abbrev pub far_lengths : List ℕ
  far_lengths = cond L.side (lower_lengths W) (upper_lengths W)

  lengths-are : lengths W ≡ join L.side (around L.side L.outer n inner_lengths) far_lengths
  lengths-are = halves W L.side ∙ rw L.near

  -- the rows turned are the inner ones
  pub rows_turned-is : (b : Book) → rows_turned W b n (lengths W) ≡ filled_rows b inner_lengths
  rows_turned-is b = counted (lengths W) ∙ ap (times turns) lengths-are ∙ simp times-join (rw L.own (omega (
    arith,
    unturned L.outer L.beyond,
    times-same turns (λ l. ltb 0 (length (b l))) inner_lengths (all_map (Other W n true) _ (λ m q. rw q.1) inner_lengths L.inside),
    unturned far_lengths L.across,
  )))
    where
      turns : ℕ → Bool
      turns l = between W n l && ltb 0 (length (b l))

      counted : (ls : List ℕ) → rows_turned W b n ls ≡ times turns ls
      counted [] = refl
      counted (l ∷ ls) = omega (arith, counted ls)

      unturned : (ls : List ℕ) → All (Other W n false) ls → times turns ls ≡ 0
      unturned ls h = none turns ls (all_map (Other W n false) _ (λ m q. rw q.1) ls h)

  -- the image with these rows in these places
  abbrev pub laid : (outer own inner : List Cell) (p : ℕ) (far : List Cell) → List Cell
  laid outer own inner p far = join L.side outer (join L.side own (join L.side inner (join L.side (replicate p free) far)))

  pub entries-parts : (b : Book) → length (entries W b) ≡ length (rows b L.outer) + length (b n) + length (rows b inner_lengths) + length (rows b far_lengths)
  entries-parts b = ap (λ (ls : List ℕ). length (rows b ls)) lengths-are ∙ simp (rows_join, append-nil, length-join) (omega arith)

  pub image-about : (M : ℕ) (b : Book) (p : ℕ) → length (entries W b) + p ≡ M
      → book_image W M b ≡ laid (rows b L.outer) (b n) (rows b inner_lengths) p (rows b far_lengths)
  image-about M b p e =
      let q : M - length (entries W b) ≡ p = omega arith in
      ap (λ (k : ℕ). upper W b ++ (replicate k free ++ lower W b)) q ∙ from-left L.side (upper W b) (replicate p free) (lower W b)
      ∙ simp (rows-cond, L.near, rows_join, append-nil, join-assoc)
    where
      rows-cond : (d : Bool) (ks ls : List ℕ) → cond d (rows b ks) (rows b ls) ≡ rows b (cond d ks ls)
      rows-cond true ks ls = refl
      rows-cond false ks ls = refl

  -- the image of the next book, with the row y of n
  module _ (M : ℕ) (b : Book) (ok : BookOk W M b) (next : Book) (f : List Cell → List Cell) (size : (r : List Cell) → length (f r) ≡ length r)
      (keeps : (l : ℕ) → Row W l (f (b l))) (t : Turned W b n f next) (y : List Cell) (own : next n ≡ y) (y-row : Row W n y) where
    next_row : (l : ℕ) → Row W l (next l)
    next_row l = by_test (eqb l n) (λ q. rw (eqb-true l n q, own) y-row)
        (λ q. rw (t l (eqb-false l n q)) (either (Row W l) (between W n l) (λ _. keeps l) (λ _. ok.row l)))

    same : (ls : List ℕ) → All (Other W n false) ls → rows next ls ≡ rows b ls
    same ls h = rows_agree next b ls (all_map (Other W n false) _ (λ m q. t m q.0 ∙ rw q.1) ls h)

    pub next-about : (p : ℕ) → length (entries W b) + length y + p ≡ M + length (b n)
        → Shape W M next (laid (rows b L.outer) y (rows (λ m. f (b m)) inner_lengths) p (rows b far_lengths))
    next-about p e =
        let o = same L.outer L.beyond in
        let i : rows next inner_lengths ≡ rows (λ m. f (b m)) inner_lengths =
        rows_agree next (λ m. f (b m)) inner_lengths (all_map (Other W n true) _ (λ m q. t m q.0 ∙ rw q.1) inner_lengths L.inside) in
        let a = same far_lengths L.across in
        let sum : length (entries W next) + p ≡ M = omega (
          arith,
          entries-parts b,
          entries-parts next,
          ap length o,
          ap length own,
          ap length i,
          ap length a,
          rows-length (λ m. f (b m)) b inner_lengths (λ m. size (b m)),
        ) in
        record { ok = record { row = next_row; fits = omega arith }; is = image-about M next p sum ∙ rw (o, own, i, a) }
