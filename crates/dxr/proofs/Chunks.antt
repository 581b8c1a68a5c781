-- The entries of a chunk: they answer inside it as the ranges do, their starts rise inside it, and their hops are small.
--
-- Of the ranges a chunk takes those that start behind its first address and before its end. The others change nothing inside it but
-- the hop that holds at its first address, which is the chunk's first entry.
use Prim.Native.Nat.{ℕ, suc, ◌+◌, ◌-◌, ◌*◌, ◌≤◌, ◌<◌}
use mathlib.Core.Path.{◌≡◌, refl, sym, ◌∙◌, ap}
use mathlib.Core.Bool.{true}
use mathlib.Core.List.{List, [], ◌∷◌}
use lib.Dec.{ltb, leb}
use lib.ListN.{length}
use native.Mathlib.Omega.{arith}
use borrow.Author.Tests.{lt-leb, le-leb, lt-ltb}
use Rattle.route.proofs.Tests.{orders, by_test}
use Rattle.ranges.specs.Ranges.{Range, range, hop_at}
use Rattle.ranges.proofs.Counting.{StartsRise}
use Rattle.dxr.specs.Dxr.{chunk_size, inside, chunk, starts_rise, entries_fine}
use Rattle.dxr.proofs.Rising.{SmallHops, rise_from, early, hop_at_small}

-- what a chunk from b up to e takes from the ranges
pub data Takes (b e : ℕ) : List Range → List Range → Type 0 where
  end : Takes b e [] []
  not_after : {r : Range} {rs es : List Range} → r.start ≤ b → Takes b e rs es → Takes b e (r ∷ rs) es
  taken : {r : Range} {rs es : List Range} → b < r.start → r.start < e → Takes b e rs es →
      Takes b e (r ∷ rs) (range (r.start - b) r.hop ∷ es)
  beyond : {r : Range} {rs es : List Range} → b < r.start → e ≤ r.start → Takes b e rs es → Takes b e (r ∷ rs) es

pub takes : (b e : ℕ) (rs : List Range) → Takes b e rs (inside b e rs)
takes b e [] = end
takes b e (r ∷ rs) = by_test (ltb b r.start)
    (λ t. by_test (ltb r.start e)
    (λ u. rw (t, u) (taken {r = r} (omega orders) (omega orders) (takes b e rs)))
    (λ u. rw (t, u) (beyond {r = r} (omega orders) (omega orders) (takes b e rs))))
    (λ t. rw t (not_after {r = r} (omega orders) (takes b e rs)))

module _ {b e : ℕ} where
  -- nothing is taken past the end
  nothing_taken : {rs es : List Range} (lo : ℕ) → Takes b e rs es → StartsRise lo rs → e ≤ lo → es ≡ []
  nothing_taken lo end s le = refl
  nothing_taken lo (not_after {r} h t) s le = nothing_taken (suc r.start) t s.1 (omega arith)
  nothing_taken lo (taken {r} h k t) s le = absurd (omega arith)
  nothing_taken lo (beyond {r} h k t) s le = nothing_taken (suc r.start) t s.1 (omega arith)

  -- from the hop at b on, what is taken answers as the ranges do
  taken_answers : {rs es : List Range} (lo : ℕ) → Takes b e rs es → StartsRise lo rs → (h key : ℕ) → b + key < e →
      hop_at h rs (b + key) ≡ hop_at (hop_at h rs b) es key
  taken_answers lo end s h key lt = refl
  taken_answers lo (not_after {r} {rs} {es} x t) s h key lt =
      rw (le-leb r.start (b + key) (omega arith), le-leb r.start b x) (taken_answers (suc r.start) t s.1 r.hop key lt)
  taken_answers lo (taken {r} {rs} {es} x y t) s h key lt = rw (lt-leb r.start b x) (by_test (leb r.start (b + key))
      (λ u. rw (u, le-leb (r.start - b) key (omega orders))
      (taken_answers (suc r.start) t s.1 r.hop key lt
      ∙ ap (λ k. hop_at k es key) (early r.hop b rs (rise_from (suc b) (suc r.start) rs (omega arith) s.1))))
      (λ u. rw (u, lt-leb (r.start - b) key (omega orders))))
  taken_answers lo (beyond {r} {rs} {es} x y t) s h key lt =
      rw (lt-leb r.start (b + key) (omega arith), lt-leb r.start b x, nothing_taken (suc r.start) t s.1 (omega arith))

  -- what is taken rises, from s on, inside a chunk of this size
  taken_rise : {rs es : List Range} (size lo s : ℕ) → e ≡ b + size → Takes b e rs es → StartsRise lo rs → s ≤ lo - suc b →
      starts_rise size s es ≡ true
  taken_rise size lo s whole end up le = refl
  taken_rise size lo s whole (not_after {r} h t) up le = taken_rise size (suc r.start) s whole t up.1 (omega arith)
  taken_rise size lo s whole (taken {r} h k t) up le =
      rw (lt-ltb s (r.start - b) (omega arith), lt-ltb (r.start - b) size (omega arith))
      (taken_rise size (suc r.start) (r.start - b) whole t up.1 (omega arith))
  taken_rise size lo s whole (beyond {r} h k t) up le = taken_rise size (suc r.start) s whole t up.1 (omega arith)

  taken_small : {rs es : List Range} → Takes b e rs es → SmallHops rs → SmallHops es
  taken_small end s = tt
  taken_small (not_after h t) s = taken_small t s.1
  taken_small (taken h k t) s = (s.0, taken_small t s.1)
  taken_small (beyond h k t) s = taken_small t s.1

  taken_few : {rs es : List Range} → Takes b e rs es → length es ≤ length rs
  taken_few end = omega arith
  taken_few (not_after h t) = omega (arith, taken_few t)
  taken_few (taken h k t) = omega (arith, taken_few t)
  taken_few (beyond h k t) = omega (arith, taken_few t)

-- no range is inside where all start past the end
pub inside_none : (b e : ℕ) (rs : List Range) → StartsRise e rs → inside b e rs ≡ []
inside_none b e rs s = nothing_taken e (takes b e rs) s (omega arith)

-- what holds of each chunk of a table
module _ (W S : ℕ) (t : List Range) (c : ℕ) where
  abbrev taking : Takes (c * chunk_size W S) ((c + 1) * chunk_size W S) t (inside (c * chunk_size W S) ((c + 1) * chunk_size W S) t)
  taking = takes (c * chunk_size W S) ((c + 1) * chunk_size W S) t

  pub chunk_answers : StartsRise 0 t → (key : ℕ) → key < chunk_size W S → hop_at 0 (chunk W S t c) key ≡ hop_at 0 t (c * chunk_size W S + key)
  chunk_answers rise key lt = rw (le-leb 0 key (omega arith)) (sym (taken_answers 0 taking rise 0 key (omega arith)))

  pub chunk_is_fine : StartsRise 0 t → entries_fine (chunk_size W S) (chunk W S t c) ≡ true
  chunk_is_fine rise = taken_rise (chunk_size W S) 0 0 (omega arith) taking rise (omega arith)

  pub chunk_small : SmallHops t → SmallHops (chunk W S t c)
  chunk_small small = (hop_at_small 0 (c * chunk_size W S) t (omega arith) small, taken_small taking small)

  pub chunk_few : length (chunk W S t c) ≤ length t + 1
  chunk_few = omega (arith, taken_few taking)
