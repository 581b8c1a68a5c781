-- The room that DXR needs: at most three range words for each route longer than S bits.
--
-- Such a route has at most two boundaries inside its chunk, behind the chunk's first address, and no other route has any. So a chunk with
-- n of them takes at most 2n ranges, has at most 2n + 1 entries, and words only where n is at least 1.
use Prim.Native.Nat.{ℕ, suc, zero, ◌+◌, ◌*◌, ◌/◌, ◌≤◌}
use mathlib.Core.Path.{◌≡◌, refl}
use mathlib.Core.Bool.{Bool, true, false, cond, ◌&&◌}
use mathlib.Core.List.Memᴰ
use mathlib.Core.List.{List, [], ◌∷◌}
use lib.Dec.{eqb, ltb}
use lib.ListN.{length, length-append}
use native.Mathlib.Omega.{arith}
use borrow.Author.Tests.{eq-eqb, ne_eqb, lt-ltb, le-ltb}
use Rattle.route.specs.Rule.{Route, answer}
use Rattle.route.specs.RightHop.{◌∈◌}
use Rattle.route.specs.RowsOfSet.{Valid}
use Rattle.route.proofs.Tests.{orders, by_test, and_parts, both}
use Rattle.ranges.specs.Ranges.{Range, range, past_end, boundaries, merged, ranges_of, hop_at, starts_of}
use Rattle.ranges.proofs.Boundaries.{Adds, at_zero, present, last, before, after, start_adds, end_adds, Placed}
use Rattle.dxr.specs.Dxr.{chunk_size, inside, chunk, words, all_short, all_words}
use Rattle.dxr.proofs.Chunks.{Takes, end, not_after, taken, beyond, takes}
use Rattle.dxr.proofs.ChunkWords.{encoded_length}
use Rattle.dxr.proofs.ChunkBounds.{Inside, LongIn, start_inside, end_inside}

abbrev one : Bool → ℕ
one t = cond t 1 0

one_most : (t : Bool) → one t ≤ 1
one_most true = omega arith
one_most false = omega arith

one_less : (s t : Bool) → (s ≡ true → t ≡ true) → one s ≤ one t
one_less true t h = rw (h refl) (omega arith)
one_less false t h = omega arith

-- how many members of a row pass a test
module _ {A : Type 0} where
  abbrev pub how_many : (A → Bool) → List A → ℕ
  how_many p [] = 0
  how_many p (x ∷ xs) = one (p x) + how_many p xs

  how_many_most : (p : A → Bool) (xs : List A) → how_many p xs ≤ length xs
  how_many_most p [] = omega arith
  how_many_most p (x ∷ xs) = omega (arith, one_most (p x), how_many_most p xs)

  how_many_less : (p s : A → Bool) → ((x : A) → p x ≡ true → s x ≡ true) → (xs : List A) → how_many p xs ≤ how_many s xs
  how_many_less p s h [] = omega arith
  how_many_less p s h (x ∷ xs) = omega (arith, one_less (p x) (s x) (h x), how_many_less p s h xs)

  how_many_join : (p q s : A → Bool) → ((x : A) → one (p x) + one (q x) ≤ one (s x)) → (xs : List A) →
      how_many p xs + how_many q xs ≤ how_many s xs
  how_many_join p q s h [] = omega arith
  how_many_join p q s h (x ∷ xs) = omega (arith, h x, how_many_join p q s h xs)

-- routes longer than S bits: all, those in chunk c, those in the chunks before it
abbrev is_longer : ℕ → Route → Bool
is_longer S r = ltb S r.length

abbrev longer_in : ℕ → ℕ → ℕ → Route → Bool
longer_in W S c r = is_longer S r && eqb (r.address / chunk_size W S) c

abbrev longer_before : ℕ → ℕ → ℕ → Route → Bool
longer_before W S c r = is_longer S r && ltb (r.address / chunk_size W S) c

abbrev pub longer : ℕ → List Route → ℕ
longer S rs = how_many (is_longer S) rs

pub longer_few : (S : ℕ) (rs : List Route) → longer S rs ≤ length rs
longer_few S rs = how_many_most (is_longer S) rs

before_next : (W S c : ℕ) (r : Route) → one (longer_before W S c r) + one (longer_in W S c r) ≤ one (longer_before W S (suc c) r)
before_next W S c r =
    let x = r.address / chunk_size W S in
    by_test (ltb S r.length)
    (λ s. rw s (by_test (ltb x c)
    (λ t. rw (t, lt-ltb x (suc c) (omega orders), ne_eqb x c (λ e. omega orders)) (omega arith))
    (λ t. by_test (eqb x c)
    (λ u. rw (t, u, lt-ltb x (suc c) (omega orders)) (omega arith))
    (λ u. rw (t, u) (omega arith)))))
    (λ s. rw s (omega arith))

-- numbers behind b and before e
abbrev between : ℕ → ℕ → ℕ → Bool
between b e x = ltb b x && ltb x e

-- a chunk takes at most as many ranges as there are boundaries in it
module _ (b e : ℕ) where
  taken_count : {rs es : List Range} → Takes b e rs es → length es ≤ how_many (between b e) (starts_of rs)
  taken_count end = omega arith
  taken_count (not_after h t) = omega (arith, taken_count t)
  taken_count (taken {r} h k t) = rw (lt-ltb b r.start h, lt-ltb r.start e k) (omega (arith, taken_count t))
  taken_count (beyond h k t) = omega (arith, taken_count t)

  merged_count : (f : ℕ → ℕ) (h : ℕ) (xs : List ℕ) → how_many (between b e) (starts_of (merged f h xs)) ≤ how_many (between b e) xs
  merged_count f h [] = omega arith
  merged_count f h (x ∷ xs) = by_test (eqb (f x) h)
      (λ t. rw t (omega (arith, merged_count f h xs)))
      (λ t. rw t (omega (arith, merged_count f (f x) xs)))

  ranges_count : (W : ℕ) (rs : List Route) → how_many (between b e) (starts_of (ranges_of W rs)) ≤ how_many (between b e) (boundaries W rs)
  ranges_count W rs = rw (le-ltb b 0 (omega arith)) (omega (arith, merged_count (answer W rs) (answer W rs 0) (boundaries W rs)))

  adds_count : {x : ℕ} {ys zs : List ℕ} → Adds x ys zs → how_many (between b e) zs ≤ one (between b e x) + how_many (between b e) ys
  adds_count (at_zero h) = omega arith
  adds_count (present h) = omega arith
  adds_count (last h) = omega arith
  adds_count (before h k) = omega arith
  adds_count (after h k a) = omega (arith, adds_count a)

-- a chunk that takes at most 2n ranges has at most 3n words
words_few : (r : Range) (es : List Range) (n : ℕ) → length es ≤ 2 * n → length (words (r ∷ es)) ≤ 3 * n
words_few r [] n le = omega arith
words_few r (s ∷ es) n le = by_test (all_short (r ∷ s ∷ es))
    (λ t. rw t (omega (arith, encoded_length true (r ∷ s ∷ es))))
    (λ t. rw t (omega (arith, encoded_length false (r ∷ s ∷ es))))

module _ (W S : ℕ) (narrow : S ≤ W) where
  -- a route has a boundary inside chunk c only if it is counted there
  counted_in : (r : Route) (c x : ℕ) → (Inside W S c x → LongIn W S c r) →
      one (between (c * chunk_size W S) ((c + 1) * chunk_size W S) x) ≤ one (longer_in W S c r)
  counted_in r c x f = one_less (between (c * chunk_size W S) ((c + 1) * chunk_size W S) x) (longer_in W S c r)
      (λ t. let h = and_parts (ltb (c * chunk_size W S) x) _ t in
      let here = f (omega orders) in
      both _ _ (lt-ltb S r.length here.0) (eq-eqb (r.address / chunk_size W S) c here.1))

  boundaries_in : (c : ℕ) (rs : List Route) → ((r : Route) → r ∈ rs → Valid W r) → Placed W rs →
      how_many (between (c * chunk_size W S) ((c + 1) * chunk_size W S)) (boundaries W rs) ≤ 2 * how_many (longer_in W S c) rs
  boundaries_in c [] valid placed = omega arith
  boundaries_in c (r ∷ rs) valid placed =
      let b = c * chunk_size W S in
      let e = (c + 1) * chunk_size W S in
      let v = valid r (Memᴰ.head refl) in
      let others = boundaries_in c rs (λ s m. valid s (Memᴰ.tail m)) (λ s m. placed s (Memᴰ.tail m)) in
      let start = counted_in r c r.address (start_inside W S narrow r v c) in
      let past = counted_in r c (past_end W r) (end_inside W S narrow r v c (placed r (Memᴰ.head refl))) in
      omega (arith, adds_count b e (start_adds W r rs), adds_count b e (end_adds W r rs))

  module _ (rs : List Route) (valid : (r : Route) → r ∈ rs → Valid W r) (placed : Placed W rs) where
    chunk_room : (c : ℕ) → length (words (chunk W S (ranges_of W rs) c)) ≤ 3 * how_many (longer_in W S c) rs
    chunk_room c =
        let b = c * chunk_size W S in
        let e = (c + 1) * chunk_size W S in
        let t = ranges_of W rs in
        words_few (range 0 (hop_at 0 t b)) (inside b e t) (how_many (longer_in W S c) rs)
        (omega (arith, taken_count b e (takes b e t), ranges_count b e W rs, boundaries_in c rs valid placed))

    room_before : (c : ℕ) → length (all_words W S (ranges_of W rs) c) ≤ 3 * how_many (longer_before W S c) rs
    room_before zero = omega arith
    room_before (suc c) =
        let t = ranges_of W rs in
        let next = how_many_join (longer_before W S c) (longer_in W S c) (longer_before W S (suc c)) (before_next W S c) rs in
        omega (arith, length-append (all_words W S t c) (words (chunk W S t c)), room_before c, chunk_room c)

    -- the words of any number of chunks
    pub room : (c : ℕ) → length (all_words W S (ranges_of W rs) c) ≤ 3 * longer S rs
    room c = omega (arith, room_before c, how_many_less (longer_before W S c) (is_longer S) (λ r e. (and_parts (is_longer S r) _ e).0) rs)
