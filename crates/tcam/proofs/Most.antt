-- The most writes of a plan. A chain has at most one write for each length between the prefix and the pool, and its last; a removal can
-- have one more ahead of it. So a plan for a row with room for that many is not refused for room, whatever the table.
use Rattle.std.proofs.Common.{◌≡◌, ℕ, ◌+◌, ◌-◌, ◌*◌, ◌/◌, ◌%◌, ◌<◌, ◌≤◌, Bool, true, false, cond, not, ◌&&◌, ◌||◌, eqb, ltb, leb, ◌≢◌, List, [], ◌∷◌, ◌++◌, length, get_or, refl, arith, le-ltb}
use mathlib.Core.Option.{Option, none, some}
use Rattle.route.specs.Limits.{max_hop}
use Rattle.route.specs.Rule.{route, span}
use Rattle.route.specs.Refusals.{Verdict, fine, fault, fault_if, ◌then◌, prefix_fault, hop_fault, entry_fault, refused}
use Rattle.route.specs.Refusals.{length_refusal, address_refusal, hop_refusal, full_refusal, image_refusal, size_refusal, room_refusal}
use Rattle.tcam.specs.Slots.{max_slots, Cell, cell, cells, free, is_free, tag_of, breaks, image_fault, table_fault}
use Rattle.tcam.specs.Plans.{Write, Planned, refuses, writes, write, first_slot, last_slot, of_prefix, open_after, chain, first_of_length, last_of, set_absent, remove_by, remove_present}
use Rattle.tcam.specs.Plans.{most_to_set, most_to_remove, with_room, is_some, set_at, remove_at, if_fine, plan_set, plan_remove, plan_answer}
use Rattle.tcam.specs.Loops.{lengths_from}
use Rattle.route.proofs.Tests.{either, in_turn}
use Rattle.route.proofs.Accepted.{prefix-good}
use Rattle.tcam.proofs.Chains.{moves-most, length-chain, length-lengths}

module _ (edge : ℕ → Option ℕ) (cs : List Cell) (up : Bool) (k l : ℕ) where
  chain-most : (at : ℕ) (c : Cell) → length (chain edge cs (lengths_from up k l) at c) ≤ k + 1
  chain-most at c = omega (arith, length-chain edge cs (lengths_from up k l) at c, moves-most edge (lengths_from up k l), length-lengths up k l)

  remove_by-most : (s e : ℕ) → length (remove_by edge cs (lengths_from up k l) s e) ≤ k + 2
  remove_by-most s e = go (eqb s e) (chain-most e free)
    where
      go : (b : Bool) → length (chain edge cs (lengths_from up k l) e free) ≤ k + 1 → length (cond b [] (write s (get_or cs e free) ∷ []) ++ chain edge cs (lengths_from up k l) e free) ≤ k + 2
      go true h = omega arith
      go false h = omega arith

module _ (W : ℕ) (cs : List Cell) (n : ℕ) (bits : n ≤ W) where
  pub set_absent-most : (c : Cell) → length (set_absent W cs n c) ≤ most_to_set W
  set_absent-most c =
      either (λ ws. length ws ≤ most_to_set W) (leb (W / 2) n)
      (λ _. omega (arith, chain-most (first_of_length cs) cs true (n - W / 2) (W / 2) (open_after 0 (first_slot is_free 0 cs)) c))
      (λ _. omega (arith, chain-most (last_of cs) cs false (W / 2 - 1 - n) (n + 1) (open_after 0 (last_slot is_free 0 cs)) c))

  pub remove_present-most : (s : ℕ) → length (remove_present W cs n s) ≤ most_to_remove W
  remove_present-most s =
      either (λ ws. length ws ≤ most_to_remove W) (leb (W / 2) n)
      (λ _. omega (arith, remove_by-most (last_of cs) cs false (n - W / 2) (W / 2) s (open_after s (last_of cs n))))
      (λ _. omega (arith, remove_by-most (first_of_length cs) cs true (W / 2 - 1 - n) (n + 1) s (open_after s (first_of_length cs n))))

-- no refusal for room, which has the greatest number of those that a plan gives
abbrev OtherFault : Verdict → Type 0
OtherFault fine = Unit {0}
OtherFault (fault n p) = n < room_refusal

abbrev HasRoom : Planned → Type 0
HasRoom (refuses n p) = n < room_refusal
HasRoom (writes ws) = Unit {0}

then-other : (u v : Verdict) → OtherFault u → OtherFault v → OtherFault (u then v)
then-other fine v a b = b
then-other (fault n p) v a b = a

fault_if-other : (b : Bool) (n p : ℕ) → n < room_refusal → OtherFault (fault_if b n p)
fault_if-other true n p h = h
fault_if-other false n p h = tt

test-other : (b : Bool) (n p : ℕ) (v : Verdict) → n < room_refusal → OtherFault v → OtherFault (fault_if b n p then v)
test-other b n p v h = then-other (fault_if b n p) v (fault_if-other b n p h)

prefix-other : (W a n : ℕ) → OtherFault (prefix_fault W 0 a n)
prefix-other W a n =
    test-other (ltb W n) length_refusal 0 (fault_if (not (eqb (a % span W n) 0)) address_refusal 0) (omega arith)
    (fault_if-other (not (eqb (a % span W n) 0)) address_refusal 0 (omega arith))

hop-other : (h : ℕ) → OtherFault (hop_fault 0 h)
hop-other h = fault_if-other (eqb h 0 || ltb max_hop h) hop_refusal 0 (omega arith)

image-other : (W i : ℕ) (before cs : List Cell) → OtherFault (image_fault W i before cs)
image-other W i before [] = tt
image-other W i before (c ∷ cs) = test-other (breaks W c before) image_refusal i _ (omega arith) (image-other W (i + 1) (c ∷ before) cs)

table-other : (W : ℕ) (ad ts : List ℕ) → OtherFault (table_fault W ad ts)
table-other W ad ts =
    test-other (not (eqb (length ad) (length ts) && leb 1 (length ad) && leb (length ad) max_slots)) size_refusal 0 _ (omega arith)
    (image-other W 0 [] (cells ad ts))

has_room : (room : ℕ) (v : Verdict) (ws : List Write) → OtherFault v → 3 * length ws ≤ room → HasRoom (with_room room v ws)
has_room room (fault n p) ws f l = f
has_room room fine ws f l = rw (le-ltb room (3 * length ws) l) tt

-- so no plan is refused for room whose writes have room where its tests find nothing
tested-room : (v : Verdict) (p : Planned) → OtherFault v → (v ≡ fine → HasRoom p) → (q : ℕ) → plan_answer (if_fine v p) ≢ refused room_refusal q
tested-room (fault n x) p f h q e = let same : n ≡ room_refusal = cc in omega arith
tested-room fine (refuses n x) f h q e = let same : n ≡ room_refusal = cc in omega (arith, h refl)
tested-room fine (writes ws) f h q e = let z : ◌≡◌ {A = ℕ} 0 1 = cc in omega arith

module _ (W : ℕ) (ad ts : List ℕ) (a n : ℕ) where
  abbrev cs : List Cell
  cs = cells ad ts

  set_at-room : (c : Cell) (room : ℕ) → 3 * most_to_set W ≤ room → n ≤ W → (o : Option ℕ) → HasRoom (set_at W cs n c room o)
  set_at-room c room l bits none =
      has_room room (fault_if (not (is_some (first_slot is_free 0 cs))) full_refusal 0) (set_absent W cs n c)
      (fault_if-other (not (is_some (first_slot is_free 0 cs))) full_refusal 0 (omega arith)) (omega (arith, set_absent-most W cs n bits c))
  set_at-room c room l bits (some s) =
      has_room room fine (cond (eqb (get_or cs s free).tag c.tag) [] (write s c ∷ [])) tt
      (either (λ ws. 3 * length ws ≤ room) (eqb (get_or cs s free).tag c.tag) (λ _. omega arith) (λ _. omega arith))

  remove_at-room : (room : ℕ) → 3 * most_to_remove W ≤ room → n ≤ W → (o : Option ℕ) → HasRoom (remove_at W cs n room o)
  remove_at-room room l bits none = omega arith
  remove_at-room room l bits (some s) = has_room room fine (remove_present W cs n s) tt (omega (arith, remove_present-most W cs n bits s))

  pub set-has-room : (h room : ℕ) → 3 * most_to_set W ≤ room → (q : ℕ) → plan_answer (plan_set W ad ts a n h room) ≢ refused room_refusal q
  set-has-room h room l =
      tested-room (table_fault W ad ts then entry_fault W 0 (route a n h)) (set_at W cs n (cell a (tag_of n h)) room (first_slot (of_prefix a n) 0 cs))
      (then-other (table_fault W ad ts) _ (table-other W ad ts) (then-other (prefix_fault W 0 a n) (hop_fault 0 h) (prefix-other W a n) (hop-other h)))
      (λ f. let g = in_turn (prefix_fault W 0 a n) _ (in_turn (table_fault W ad ts) _ f).1 in
      set_at-room (cell a (tag_of n h)) room l (prefix-good W 0 a n g.0).0 (first_slot (of_prefix a n) 0 cs))

  pub remove-has-room : (room : ℕ) → 3 * most_to_remove W ≤ room → (q : ℕ) → plan_answer (plan_remove W ad ts a n room) ≢ refused room_refusal q
  remove-has-room room l =
      tested-room (table_fault W ad ts then prefix_fault W 0 a n) (remove_at W cs n room (first_slot (of_prefix a n) 0 cs))
      (then-other (table_fault W ad ts) _ (table-other W ad ts) (prefix-other W a n))
      (λ f. remove_at-room room l (prefix-good W 0 a n (in_turn (table_fault W ad ts) _ f).1).0 (first_slot (of_prefix a n) 0 cs))
