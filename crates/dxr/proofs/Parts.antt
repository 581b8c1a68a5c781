-- The part of a range table that makes a chunk's entries: from the last range that starts at or before its first address up to the last one
-- that starts at or before its last address.
use Prim.Native.Nat.{ℕ, zero, suc, ◌+◌, ◌-◌, ◌*◌, ◌≤◌, ◌<◌}
use mathlib.Core.Path.{◌≡◌, refl, sym, ◌∙◌, ap}
use mathlib.Core.List.{List, [], ◌∷◌, map}
use native.Mathlib.Omega.{arith}
use native.Mathlib.Nat.{add-zero}
use borrow.Author.Tests.{le-leb, le-ltb, lt-ltb}
use lib.ListN.{length, get_or, take, drop, length-drop}
use lib.Pow.{pow_pos}
use lib.Seq.{length-take-le, get_or-take, get_or-drop}
use Rattle.ranges.specs.Ranges.{Range, range, ranges, starts_of, hop_at}
use Rattle.ranges.proofs.Rows.{starts_say, take_says, drop_says}
use Rattle.ranges.proofs.Counting.{StartsRise}
use Rattle.dxr.specs.Dxr.{chunk_size, inside, chunk, words, main_word}
use Rattle.dxr.specs.Loops.{LastAt, entry_from, entries_from, Splittable}
use Rattle.dxr.specs.Shown.{IsPart}
use Rattle.dxr.proofs.Rising.{rise_from, early, fine-rises}
use Rattle.dxr.proofs.Chunks.{inside_none}
use Rattle.dxr.proofs.Entries.{entries-length, entries-get, one-words, one-main}

-- no start is below the first
least : (lo : ℕ) (t : List Range) (i : ℕ) → StartsRise lo t → i < length (starts_of t) → lo ≤ get_or (starts_of t) i 0
least lo [] i s l = absurd (omega arith)
least lo (r ∷ rs) zero s l = s.0
least lo (r ∷ rs) (suc i) s l = omega (arith, least (suc r.start) rs i s.1 (omega arith), s.0)

-- starts that rise from behind x on, where the first does
behind : (lo x : ℕ) (t : List Range) → StartsRise lo t → (0 < length (starts_of t) → x < get_or (starts_of t) 0 0) → StartsRise (suc x) t
behind lo x [] s f = tt
behind lo x (r ∷ rs) s f = (f (omega arith), s.1)

-- the last of the ranges but the first
last_shift : {x : ℕ} (r : Range) (t : List Range) (i : ℕ) → LastAt x (starts_of (r ∷ t)) (suc i) → LastAt x (starts_of t) i
last_shift r t i k =
    let e : suc i + 1 ≡ suc (i + 1) = omega arith in
    record { within = omega (arith, k.within); start = k.start; next = λ l. (rw e at k.next) (omega arith) }

module _ (b l : ℕ) where
  -- of the ranges behind b, those up to the last are inside
  inside_to : (r : Range) (t : List Range) (j : ℕ) → StartsRise (suc b) t → LastAt l (starts_of (r ∷ t)) j →
      inside b (l + 1) t ≡ map (entry_from b) (take j t)
  inside_to r t zero s k =
      inside_none b (l + 1) t (rise_from (l + 1) (suc l) t (omega arith) (behind (suc b) l t s (λ p. k.next (omega arith))))
  inside_to r [] (suc j) s k = refl
  inside_to r (q ∷ qs) (suc j) s k =
      let k' = last_shift r (q ∷ qs) j k in
      let low = least q.start (q ∷ qs) j (omega arith, s.1) k'.within in
      rw (lt-ltb b q.start s.0, lt-ltb q.start (l + 1) (omega (arith, k'.start)))
      (ap (λ es. entry_from b q ∷ es) (inside_to q qs j (rise_from (suc b) (suc q.start) qs (omega (arith, s.0)) s.1) k'))

  -- from the last range that starts at or before b up to the last one that starts at or before l
  part_is : (h lo : ℕ) (t : List Range) (i j : ℕ) → StartsRise lo t → LastAt b (starts_of t) i → LastAt l (starts_of t) j → i ≤ j →
      range 0 (hop_at h t b) ∷ inside b (l + 1) t ≡ map (entry_from b) (take (j + 1 - i) (drop i t))
  part_is h lo [] i j s m k le = absurd (omega (arith, m.within))
  part_is h lo (r ∷ rs) zero j s m k le =
      let up = behind (suc r.start) b rs s.1 (λ p. m.next (omega arith)) in
      let count : j + 1 - 0 ≡ suc j = omega arith in
      let start : r.start - b ≡ 0 = omega (arith, m.start) in
      rw (le-leb r.start b m.start, le-ltb b r.start m.start, early r.hop b rs up, count, start)
      (ap (λ es. range 0 r.hop ∷ es) (inside_to r rs j up k))
  part_is h lo (r ∷ rs) (suc i) zero s m k le = absurd (omega arith)
  part_is h lo (r ∷ rs) (suc i) (suc j) s m k le =
      let m' = last_shift r rs i m in
      let low = least (suc r.start) rs i s.1 m'.within in
      let le' : r.start ≤ b = omega (arith, m'.start) in
      let count : suc j + 1 - suc i ≡ j + 1 - i = omega arith in
      rw (le-leb r.start b le', le-ltb b r.start le', count)
      (part_is r.hop (suc r.start) rs i j s.1 m' (last_shift r rs j k) (omega arith))

-- the last range that starts at or before y comes behind range i, where the one behind that does
pub last_later : {y : ℕ} {ss : List ℕ} {j : ℕ} (i : ℕ) → LastAt y ss j → i ≤ j → i + 1 < length ss → get_or ss (i + 1) 0 ≤ y → i < j
last_later i k le l s = grind arith

-- the part of both rows that makes the entries of chunk c
abbrev pub part : ℕ → ℕ → List ℕ → List ℕ
part i j row = take (j + 1 - i) (drop i row)

module _ {W S c : ℕ} {ss hs : List ℕ} {i j : ℕ} (is : IsPart W S c ss i j) (rows : Splittable W S ss hs) where
  pub chunk_part : entries_from (c * chunk_size W S) (part i j ss) (part i j hs) ≡ chunk W S (ranges ss hs) c
  chunk_part =
      let b = c * chunk_size W S in
      let l = b + (chunk_size W S - 1) in
      let past : (c + 1) * chunk_size W S ≡ l + 1 = omega (arith, pow_pos (W - S)) in
      rw (past, take_says (j + 1 - i) (drop i ss) (drop i hs), drop_says i ss hs)
      (sym (part_is b l 0 0 (ranges ss hs) i j (fine-rises (ranges ss hs) rows.rules).rise
      (rw (starts_say ss hs rows.equal) is.start) (rw (starts_say ss hs rows.equal) is.stop) is.some))

-- a chunk of one range: it has no words, and its main word is the range's hop
module _ {W S : ℕ} {ss hs : List ℕ} (rows : Splittable W S ss hs) (from c : ℕ) (within : from < length ss)
    (start : get_or ss from 0 ≤ c * chunk_size W S) (next : from + 1 < length ss → (c + 1) * chunk_size W S ≤ get_or ss (from + 1) 0) where
  alone : IsPart W S c ss from from
  alone = record {
    some = omega arith;
    start = record { within = within; start = start; next = λ l. omega (arith, next l, pow_pos (W - S)) };
    stop = record { within = within; start = omega arith; next = λ l. omega (arith, next l, pow_pos (W - S)) };
  }

  abbrev entry : List Range
  entry = entries_from (c * chunk_size W S) (part from from ss) (part from from hs)

  size : (row : List ℕ) → from < length row → length (part from from row) ≡ 1
  size row l = length-take-le (from + 1 - from) (drop from row) (simp length-drop (omega arith)) ∙ omega arith

  equal : length (part from from ss) ≡ length (part from from hs)
  equal = size ss within ∙ sym (size hs (omega (arith, rows.equal)))

  one_entry : length entry ≡ 1
  one_entry = entries-length (c * chunk_size W S) (part from from ss) (part from from hs) equal ∙ size ss within

  pub alone-words : words (chunk W S (ranges ss hs) c) ≡ []
  alone-words = rw (← chunk_part alone rows) (one-words entry one_entry)

  pub alone-main : (position : ℕ) → main_word (chunk W S (ranges ss hs) c) position ≡ get_or hs from 0
  alone-main position =
      rw (← chunk_part alone rows)
      (one-main entry position one_entry
      ∙ ap (λ r. r.hop) (entries-get (c * chunk_size W S) (part from from ss) (part from from hs) equal 0)
      ∙ get_or-take (from + 1 - from) (drop from hs) 0 0 (omega arith)
      ∙ get_or-drop from hs 0 0
      ∙ ap (λ i. get_or hs i 0) (add-zero from))
