-- The lookup's pass over a part: the entry at each place, what the pass finds of the entries, and that this gives the answer.
use Prim.Native.Nat.{ℕ, zero, suc, ◌+◌, ◌-◌, ◌*◌, ◌/◌, ◌%◌, ◌≤◌, ◌<◌}
use mathlib.Core.Path.{◌≡◌, refl, sym, ◌∙◌, ap}
use mathlib.Core.Bool.{Bool, true, false, cond, ◌&&◌, and_assoc, and-true}
use mathlib.Core.List.{List, [], ◌∷◌}
use native.Mathlib.Omega.{arith}
use native.Mathlib.Numerals.{add-one}
use borrow.Author.Tests.{eqb-true, lt-ltb, le-leb}
use lib.Dec.{eqb, leb, ltb}
use lib.ListN.{length, get_or, take, drop, length-drop, drop_of_length-le, get_or-map}
use lib.Seq.{drop-cons, get_or-take, get_or-drop, length-take-le}
use Rattle.route.specs.Refusals.{value}
use Rattle.route.proofs.Tests.{orders, by_test, and_parts, all_three}
use Rattle.ranges.specs.Ranges.{Range, range, hop_at}
use Rattle.ranges.specs.Loops.{below}
use Rattle.ranges.proofs.Counting.{StartsRise, below-within, hop_at-below}
use Rattle.dxr.specs.Dxr.{long_range, short_range, long_entries, short_entries, decoded, part_length, starts_rise, entries_fine}
use Rattle.dxr.specs.Loops.{half_at, entry_at, entries_answer}
use Rattle.dxr.specs.Shown.{pass_first, pass_next, IsPassed}
use Rattle.dxr.specs.declared.lookup.Pass.{Pass}

-- as many entries as words, or twice as many, and where each stands
long_many : (part : List ℕ) → length (long_entries part) ≡ length part
long_many [] = refl
long_many (w ∷ ws) = ap suc (long_many ws)

short_many : (part : List ℕ) → length (short_entries part) ≡ 2 * length part
short_many [] = refl
short_many (w ∷ ws) = omega (arith, short_many ws)

long_at : (part : List ℕ) (i : ℕ) → get_or (long_entries part) i (range 0 0) ≡ long_range (get_or part i 0)
long_at [] i = refl
long_at (w ∷ ws) zero = refl
long_at (w ∷ ws) (suc i) = long_at ws i

-- the places of entries two further on
next_half : (w i : ℕ) → half_at w (suc (suc i)) ≡ half_at w i
next_half w i = let e : suc (suc i) % 2 ≡ i % 2 = omega arith in rw e

short_at : (part : List ℕ) (i : ℕ) → get_or (short_entries part) i (range 0 0) ≡ short_range (half_at (get_or part (i / 2) 0) i)
short_at [] i = by_test (eqb (i % 2) 0) (λ e. rw e) (λ e. rw e)
short_at (w ∷ ws) zero = refl
short_at (w ∷ ws) (suc zero) = refl
short_at (w ∷ ws) (suc (suc i)) =
    let e : suc (suc i) / 2 ≡ suc (i / 2) = omega arith in
    rw (e, next_half (get_or ws (i / 2) 0) i) (short_at ws i)

-- a part of the right length has the entries that are counted, each at its place
module _ (short : Bool) (count : ℕ) (part : List ℕ) (size : length part ≡ part_length short count) where
  pub decoded-length : length (decoded short count part) ≡ count
  decoded-length = length-take-le count _ (enough short size)
    where
      enough : (short : Bool) → length part ≡ part_length short count → count ≤ length (cond short (short_entries part) (long_entries part))
      enough true e = omega (arith, short_many part)
      enough false e = omega (arith, long_many part)

  -- entry i is read inside the part
  pub entry-within : (i : ℕ) → i < count → cond short (i / 2) i < length part
  entry-within i l = within short size
    where
      within : (short : Bool) → length part ≡ part_length short count → cond short (i / 2) i < length part
      within true e = omega arith
      within false e = omega arith

  pub decoded-get : (i : ℕ) → i < count → get_or (decoded short count part) i (range 0 0) ≡ entry_at short part i
  decoded-get i l = get_or-take count _ i (range 0 0) l ∙ of_form short
    where
      of_form : (short : Bool) → get_or (cond short (short_entries part) (long_entries part)) i (range 0 0) ≡ entry_at short part i
      of_form true = short_at part i
      of_form false = long_at part i

  -- the entries from entry i on begin with entry i
  pub decoded-at : (i : ℕ) → i < count → {r : Range} → r ≡ entry_at short part i →
      drop i (decoded short count part) ≡ r ∷ drop (i + 1) (decoded short count part)
  decoded-at i l is =
      let m : i < length (decoded short count part) = omega (arith, decoded-length) in
      rw (is, add-one, ← decoded-get i l) (drop-cons (decoded short count part) i (range 0 0) m)

-- the places of the two entries in word k of short ones
pub upper-at : (part : List ℕ) (k : ℕ) → short_range (get_or part k 0 / 65536) ≡ entry_at true part (2 * k)
upper-at part k =
    let w : 2 * k / 2 ≡ k = omega arith in
    let e : 2 * k % 2 ≡ 0 = omega arith in
    rw (w, e)

pub lower-at : (part : List ℕ) (k : ℕ) → short_range (get_or part k 0 % 65536) ≡ entry_at true part (2 * k + 1)
lower-at part k =
    let w : (2 * k + 1) / 2 ≡ k = omega arith in
    let e : (2 * k + 1) % 2 ≡ 1 = omega arith in
    rw (w, e)

-- the words of a part behind the first
module _ (part : List ℕ) (n : ℕ) (l : n ≤ length part) where
  pub rest-length : length (take (n - 1) (drop 1 part)) ≡ n - 1
  rest-length = length-take-le (n - 1) (drop 1 part) (simp length-drop (omega arith))

  pub rest-get : (k : ℕ) → k < length (take (n - 1) (drop 1 part)) → get_or (take (n - 1) (drop 1 part)) k 0 ≡ get_or part (k + 1) 0
  rest-get k m =
      let e : 1 + k ≡ k + 1 = omega arith in
      get_or-take (n - 1) (drop 1 part) k 0 (omega (arith, rest-length)) ∙ get_or-drop 1 part k 0 ∙ ap (λ i. get_or part i 0) e

-- p is the pass over the entries before entry i: with those from it on it has the rules and the count of all
pub record PassedTo (size key : ℕ) (es : List Range) (p : Pass) (i : ℕ) : Type 0 where
  pub rules : (p.fine && starts_rise size p.last (drop i es)) ≡ entries_fine size es
  pub many : p.below + below (drop i es) key ≡ below (drop 1 es) key
  pub few : p.below < i

pub passed_start : (size key : ℕ) {es : List Range} {p : Pass} {r : Range} {rest : List Range} {s : ℕ} →
    es ≡ r ∷ rest → s ≡ r.start → p ≡ pass_first s → PassedTo size key es p 1
passed_start size key {r = r} now is first = rw (first, is) (record {
  rules = rw now (by_test (eqb r.start 0) (λ e. rw (eqb-true r.start 0 e)) (λ e. rw e));
  many = omega arith;
  few = omega arith;
})

module _ {size key : ℕ} {es : List Range} {p : Pass} {i : ℕ} (h : PassedTo size key es p i) where
  pub passed-turn : {r : Range} {q : Pass} {s : ℕ} → drop i es ≡ r ∷ drop (i + 1) es → s ≡ r.start → s < size →
      q ≡ pass_next p s key → PassedTo size key es q (i + 1)
  passed-turn {r} now is l next = rw (next, is) (record {
    rules = rw (and_assoc p.fine) (rw (now, lt-ltb r.start size (rw is at l), and-true) at h.rules);
    many = omega (arith, rw now at h.many);
    few = by_test (leb r.start key) (λ e. rw e (omega (arith, h.few))) (λ e. rw e (omega (arith, h.few)));
  })

  pub passed-end : length es ≤ i → IsPassed size key es p
  passed-end l =
      let none = drop_of_length-le es l in
      record { rules = sym (and-true p.fine) ∙ (rw none at h.rules); many = omega (arith, rw none at h.many) }

-- starts that are seen to rise do
rising : (size s : ℕ) (rs : List Range) → starts_rise size s rs ≡ true → StartsRise (suc s) rs
rising size s [] e = tt
rising size s (r ∷ rs) e =
    let h = all_three (ltb s r.start) _ _ e in
    (omega orders, rising size r.start rs h.2)

-- by the rules, the last entry that starts at or below the key is found by how many do
fine_hop : (size key : ℕ) (es : List Range) → entries_fine size es ≡ true → (get_or es (below (drop 1 es) key) (range 0 0)).hop ≡ hop_at 0 es key
fine_hop size key [] e = refl
fine_hop size key (r ∷ rs) e =
    let h = and_parts (eqb r.start 0) _ e in
    let z : r.start ≡ 0 = eqb-true r.start 0 h.0 in
    rw (le-leb r.start key (omega arith), hop_at-below r.hop 1 rs key (rising size 0 rs h.1))
    (sym (get_or-map (λ r. r.hop) (r ∷ rs) (below rs key) (range 0 0)))

module _ {size key : ℕ} {es : List Range} {p : Pass} (h : IsPassed size key es p) where
  -- the entry that has the answer is one of them
  pub passed-within : 0 < length es → p.below < length es
  passed-within l = omega (arith, h.many, below-within (drop 1 es) key, length-drop 1 es)

  module _ (c : ℕ) where
    pub passed-hop : p.fine ≡ true → {r : Range} → r ≡ get_or es p.below (range 0 0) → value r.hop ≡ entries_answer size c es key
    passed-hop e is =
        let fine = sym h.rules ∙ e in
        rw (is, h.many, fine, fine_hop size key es fine)
