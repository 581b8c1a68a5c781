-- S1 of one slot: what it says of a used one, the ways in which it is tested, and which slots keep it: those of an image without a
-- fault, and an entry whose prefix and hop are not refused. Then S1 to S4 of a slot, by rules.
use Rattle.std.proofs.Common.{◌≡◌, ℕ, zero, suc, ◌+◌, ◌%◌, ◌<◌, ◌≤◌, Bool, true, false, not, ◌&&◌, ◌||◌, eqb, leb, ◌≢◌, List, [], ◌∷◌, get_or, sym, refl, ap, ◌∙◌, arith, le-ltb, eq-eqb, ne_eqb, eqb-true, le-leb, leb-true}
use borrow.Author.Tests.{eqb-false, lt-leb, not-true, not-false}
use Rattle.route.specs.Rule.{span}
use Rattle.route.specs.Limits.{max_hop}
use Rattle.route.specs.Refusals.{fine, fault_if, prefix_fault, hop_fault, image_refusal}
use Rattle.route.specs.Lists.{any}
use Rattle.tcam.specs.Slots.{Cell, cell, free, tag_of, is_free, is_upper, is_lower, length_in, hop_in, keeps_s1, longer_than_nearest, misplaced, slot_fault}
use Rattle.route.proofs.Tests.{and_parts, all_three, or_parts, or_right, is_false, in_turn, passed}
use Rattle.route.proofs.Accepted.{prefix-good, hop-good}

module _ (W : ℕ) (c : Cell) where
  -- a used slot that keeps S1 has a length of at most W and a hop
  module _ (k : keeps_s1 W c ≡ true) (u : is_free c ≡ false) where
    parts : (leb (length_in c) W ≡ true) × (eqb (c.address % span W (length_in c)) 0 ≡ true) × (not (eqb (hop_in c) 0) ≡ true)
    parts = all_three (leb (length_in c) W) (eqb (c.address % span W (length_in c)) 0) (not (eqb (hop_in c) 0)) (or_right (is_free c) _ k u)

    pub used-short : length_in c ≤ W
    used-short = leb-true (length_in c) W parts.0

    pub used-hop : 0 < hop_in c
    used-hop = let h = eqb-false (hop_in c) 0 (not-true _ parts.2) in omega arith

    -- its prefix can be asked from
    pub used-prefix : prefix_fault W 0 c.address (length_in c) ≡ fine
    used-prefix = rw (le-ltb W (length_in c) used-short, parts.1)

  -- without a hop only a free slot keeps S1; with one, a short enough length and a multiple of its span
  pub valid-hopless : hop_in c ≡ 0 → is_free c ≡ keeps_s1 W c
  valid-hopless h = go (is_free c) (leb (length_in c) W) _ _ (eq-eqb (hop_in c) 0 h)
    where
      go : (free short whole none : Bool) → none ≡ true → free ≡ (free || (short && whole && not none))
      go true s w z e = refl
      go false false w z e = refl
      go false true false z e = refl
      go false true true z e = rw e

  module _ (h : hop_in c ≢ 0) where
    used : is_free c ≡ false
    used = is_false (is_free c) (λ f. h (ap (λ (t : ℕ). t % 65536) (eqb-true c.tag 0 (and_parts (eqb c.address 0) (eqb c.tag 0) f).1)))

    by-hop : (leb (length_in c) W && eqb (c.address % span W (length_in c)) 0) ≡ keeps_s1 W c
    by-hop = go (is_free c) (leb (length_in c) W) (eqb (c.address % span W (length_in c)) 0) (eqb (hop_in c) 0) used (ne_eqb (hop_in c) 0 h)
      where
        go : (free short whole none : Bool) → free ≡ false → none ≡ false → (short && whole) ≡ (free || (short && whole && not none))
        go free true true none e f = rw (e, f)
        go free true false none e f = rw e
        go free false whole none e f = rw e

    by_length : {b : Bool} → leb (length_in c) W ≡ b → (b && eqb (c.address % span W (length_in c)) 0) ≡ keeps_s1 W c
    by_length e = ap (λ (b : Bool). b && eqb (c.address % span W (length_in c)) 0) (sym e) ∙ by-hop

    pub valid-long : W < length_in c → false ≡ keeps_s1 W c
    valid-long l = by_length (lt-leb (length_in c) W l)

    pub valid-short : length_in c ≤ W → eqb (c.address % span W (length_in c)) 0 ≡ keeps_s1 W c
    valid-short l = by_length (le-leb (length_in c) W l)

-- each slot of an image without a fault keeps S1; past its end a slot is read as free
pub slot-keeps : (W i : ℕ) (cs : List Cell) (s : ℕ) → slot_fault W i cs ≡ fine → keeps_s1 W (get_or cs s free) ≡ true
slot-keeps W i [] s f = refl
slot-keeps W i (c ∷ cs) zero f = not-false _ (passed _ _ _ (in_turn (fault_if (not (keeps_s1 W c)) image_refusal i) _ f).0)
slot-keeps W i (c ∷ cs) (suc s) f = slot-keeps W (i + 1) cs s (in_turn (fault_if (not (keeps_s1 W c)) image_refusal i) _ f).1

-- the entry of a prefix and a hop that are not refused
module _ (W a n : ℕ) (f : prefix_fault W 0 a n ≡ fine) (h : ℕ) (g : hop_fault 0 h ≡ fine) where
  abbrev entry : Cell
  entry = cell a (tag_of n h)

  hop : (0 < h) × (h ≤ max_hop)
  hop = hop-good 0 h g

  pub entry_length : length_in entry ≡ n
  entry_length = omega (arith, hop)

  pub entry-hop : hop_in entry ≡ h
  entry-hop = omega (arith, hop)

  pub entry-used : is_free entry ≡ false
  entry-used = is_false (is_free entry) (λ e. omega (arith, hop, eqb-true (tag_of n h) 0 (and_parts (eqb a 0) (eqb (tag_of n h) 0) e).1))

  pub entry-keeps : keeps_s1 W entry ≡ true
  entry-keeps =
      let p = prefix-good W 0 a n f in
      rw (entry-used, entry_length, le-leb n W p.0, eq-eqb (a % span W n) 0 p.1, entry-hop, ne_eqb h 0 (λ e. omega (arith, hop)))

-- a slot that breaks none of S1 to S4
pub record Placed (W : ℕ) (c : Cell) (before : List Cell) : Type 0 where
  pub keeps : keeps_s1 W c ≡ true
  pub falls : is_free c ≡ false → longer_than_nearest c before ≡ false
  pub packed : (is_upper W c && any is_free before) ≡ false
  pub sunk : is_free c ≡ true → any (is_lower W) before ≡ false

pub placed : (W : ℕ) (c : Cell) (before : List Cell) → misplaced W c before ≡ false → Placed W c before
placed W c before e =
    let s4 = or_parts _ _ e in
    let s3 = or_parts _ _ s4.0 in
    let s2 = or_parts (not (keeps_s1 W c)) _ s3.0 in
    record { keeps = not-false (keeps_s1 W c) s2.0; falls = λ u. rw u at s2.1; packed = s3.1; sunk = λ u. rw u at s4.1 }
