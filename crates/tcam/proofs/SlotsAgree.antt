-- On a well-formed table of a set the first match is the longest, so the lookup is the answer: the slots' part of demand 2.
--
-- S2 makes the used slots' lengths fall, so no slot behind the first match holds a longer prefix. S5 is not needed for that.
use Rattle.std.proofs.Common.{◌≡◌, ℕ, ◌+◌, ◌≤◌, Bool, true, false, cond, List, [], ◌∷◌, sym, refl, ap, ◌∙◌, arith}
use mathlib.Core.Logic.Iff
use mathlib.Core.List.Memᴰ
use Rattle.route.specs.Rule.{Route, matches, Match, nothing, best, longest, hop_of, answer}
use Rattle.route.specs.Refusals.{fine, fault_if, value, image_refusal}
use Rattle.route.specs.RightHop.{◌∈◌}
use Rattle.route.specs.Lists.{any}
use Rattle.tcam.specs.Slots.{Cell, length_in, is_free, cells, keeps_s1, longer_than_nearest, same_prefix_in, misplaced, repeats, breaks, first_fault, image_fault, slot_fault, first_match, slot_lookup}
use Rattle.tcam.specs.Tables.{route_of, routes_in, TableOf}
use Rattle.route.proofs.Tests.{orders, by_test, or_parts, in_turn, passed}
use Rattle.route.proofs.RouteSet.{RouteSet}
use Rattle.route.proofs.Members.{each_of}
use Rattle.route.proofs.LongestMatch.{Found, skip-unmatched, longest-first, SameSet, finds, agree}
use Rattle.tcam.proofs.Cells.{placed}

-- S2 of each used slot; `before` are the slots before the first, nearest first
abbrev pub Ordered : List Cell → List Cell → Type 0
Ordered before [] = Unit {0}
Ordered before (c ∷ cs) = (is_free c ≡ false → longer_than_nearest c before ≡ false) × Ordered (c ∷ before) cs

-- the nearest used slot of a row, nearest first, has a length of at most n
abbrev Within : ℕ → List Cell → Type 0
Within n [] = ⊥
Within n (b ∷ bs) = cond (is_free b) (Within n bs) (length_in b ≤ n)

nearest : (n : ℕ) (c : Cell) (before : List Cell) → Within n before → longer_than_nearest c before ≡ false → length_in c ≤ n
nearest n c [] w e = absurd w
nearest n c (b ∷ bs) w e = by_test (is_free b)
    (λ t. nearest n c bs (rw t at w) (rw t at e))
    (λ t. let h = rw t at w in let k = rw t at e in omega orders)

-- the slots after one of length n hold none longer
falling : (n : ℕ) (before cs : List Cell) → Ordered before cs → Within n before →
    (r : Route) → r ∈ routes_in cs → r.length ≤ n
falling n before [] o w r m = absurd (Memᴰ.not-nil m)
falling n before (c ∷ cs) o w r m =
    let later = falling n (c ∷ before) cs o.1 in
    by_test (is_free c)
    (λ u. later (rw u w) r (rw u at m))
    (λ u. let le = nearest n c before w (o.0 u) in
    each_of {P = λ (s : Route). s.length ≤ n} (route_of c) (routes_in cs) le (later (rw u le)) r (rw u at m))

-- the hop of a longest match
record Longests (W : ℕ) (rs : List Route) (q h : ℕ) : Type 0 where
  found : Match
  is_found : Found W rs q found
  hop : h ≡ hop_of found

first_is_longest : (W : ℕ) (before cs : List Cell) (q : ℕ) → Ordered before cs → Longests W (routes_in cs) q (first_match W cs q)
first_is_longest W before [] q o = record { found = nothing; is_found = λ r m c. Memᴰ.not-nil m; hop = refl }
first_is_longest W before (c ∷ cs) q o =
    let later = first_is_longest W (c ∷ before) cs q o.1 in
    by_test (is_free c)
    (λ u. rw u later)
    (λ u. by_test (matches W c.address (length_in c) q)
    (λ t. rw (u, t) record {
      found = best (route_of c);
      is_found = longest-first W (route_of c) (routes_in cs) q t
          (λ s m _. falling (length_in c) (c ∷ before) cs o.1 (rw u (omega arith)) s m);
      hop = refl;
    })
    (λ t. rw (u, t) record {
      found = later.found;
      is_found = skip-unmatched W (route_of c) (routes_in cs) q t later.found later.is_found;
      hop = later.hop;
    }))

-- so slots that keep S2 and hold a set answer for it, also where a prefix stands twice
pub ordered_answer : (W : ℕ) (rs : List Route) (cs : List Cell) (q : ℕ) → RouteSet W rs → SameSet rs (routes_in cs) → Ordered [] cs →
    first_match W cs q ≡ answer W rs q
ordered_answer W rs cs q ok same o =
    let first = first_is_longest W [] cs q o in
    first.hop ∙ sym (agree W rs (routes_in cs) q ok same (longest W rs q) first.found (finds W rs q) first.is_found)

-- S1, S2 and S5 of the first slot of an image without a fault, and the others
slot : (W i : ℕ) (before : List Cell) (c : Cell) (cs : List Cell) → image_fault W i before (c ∷ cs) ≡ fine →
    (keeps_s1 W c ≡ true) × (is_free c ≡ false → longer_than_nearest c before ≡ false) × (is_free c ≡ false → any (same_prefix_in c) before ≡ false)
    × (image_fault W (i + 1) (c ∷ before) cs ≡ fine)
slot W i before c cs e =
    let t = in_turn (fault_if (breaks W c before) image_refusal i) _ e in
    let parts = or_parts (misplaced W c before) (repeats c before) (passed (breaks W c before) image_refusal i t.0) in
    let q = placed W c before parts.0 in
    (q.keeps, q.falls, (λ u. rw u at parts.1), t.1)

image_ordered : (W i : ℕ) (before cs : List Cell) → image_fault W i before cs ≡ fine → Ordered before cs
image_ordered W i before [] e = tt
image_ordered W i before (c ∷ cs) e =
    let h = slot W i before c cs e in
    (h.1, image_ordered W (i + 1) (c ∷ before) cs h.3)

-- where no slot fails a test that asks for S1, each keeps it
keeps_s1_by : (W : ℕ) (fails : Cell → List Cell → Bool) → ((c : Cell) (before : List Cell) → fails c before ≡ false → keeps_s1 W c ≡ true) →
    (i j : ℕ) (before cs : List Cell) → first_fault fails i before cs ≡ fine → slot_fault W j cs ≡ fine
keeps_s1_by W fails h i j before [] e = refl
keeps_s1_by W fails h i j before (c ∷ cs) e =
    let t = in_turn (fault_if (fails c before) image_refusal i) _ e in
    rw (h c before (passed _ image_refusal i t.0)) (keeps_s1_by W fails h (i + 1) (j + 1) (c ∷ before) cs t.1)

pub order_keeps_s1 : (W i j : ℕ) (before cs : List Cell) → first_fault (misplaced W) i before cs ≡ fine → slot_fault W j cs ≡ fine
order_keeps_s1 W = keeps_s1_by W (misplaced W) (λ c before e. (placed W c before e).keeps)

pub image_keeps_s1 : (W i j : ℕ) (before cs : List Cell) → image_fault W i before cs ≡ fine → slot_fault W j cs ≡ fine
image_keeps_s1 W = keeps_s1_by W (breaks W) (λ c before e. (placed W c before (or_parts (misplaced W c before) (repeats c before) e).0).keeps)

pub slots_agree : (W : ℕ) (rs : List Route) (q : ℕ) → RouteSet W rs → (ad ts : List ℕ) → TableOf W rs ad ts →
    slot_lookup W ad ts q ≡ value (answer W rs q)
slots_agree W rs q ok ad ts t =
    let cs = cells ad ts in
    let same : SameSet rs (routes_in cs) = λ r. Iff.symm (t.exactly r) in
    rw (t.sized, image_keeps_s1 W 0 0 [] cs t.well_formed)
    (ap value (ordered_answer W rs cs q ok same (image_ordered W 0 [] cs t.well_formed)))
