-- The pass for repeats: what slot i comes to, and that the slots before it repeat a prefix at most once.
use Rattle.std.proofs.Common.{◌≡◌, ℕ, zero, suc, ◌+◌, ◌-◌, ◌<◌, ◌≤◌, Bool, true, false, not, ◌||◌, eqb, List, [], length, drop, sym, refl, subst, ap, ◌∙◌, add-one, arith, drop_of_length-le}
use Rattle.std.specs.Prelude.{Option as Optional, None, Some, Result, Ok, Err}
use Rattle.std.specs.Option.{is_some as has}
use mathlib.Core.Bool.{and-false, and-true, or_comm}
use mathlib.Core.Option.{Option, none, some}
use borrow.Author.Tests.{not-true, not-false}
use Rattle.route.specs.Refusals.{fine, fault, fault_if, image_refusal}
use Rattle.route.specs.Shown.{number, place}
use Rattle.route.specs.Lists.{any}
use Rattle.route.specs.Loops.{before}
use Rattle.tcam.specs.Slots.{Cell, cells, slot_fault, size_fault, is_free, length_in, same_prefix_in, repeats}
use Rattle.tcam.specs.Plans.{is_some, or_else, remove_present, with_room}
use Rattle.tcam.specs.Mend.{order_fault, plan_mend, other_tag_in, contradicts, repeat_fault, repeat_slot}
use Rattle.tcam.specs.Loops.{repeats_at, FreeBetween, unless_refused, since_at, fails_at, RepeatWith, MendFound}
use Rattle.tcam.specs.Shown.{cell_of, place_of, cell_at}
use Rattle.tcam.specs.Searches.{any_between}
use Rattle.tcam.specs.declared.image.Here.{Here}
use Rattle.tcam.specs.Held.{slot_at}
use Rattle.route.specs.declared.Refusal.{Refusal}
use Rattle.route.specs.declared.Refusal.TheVariants.{Image}
use Rattle.route.specs.declared.Slot.{Slot}
use Rattle.route.proofs.Tests.{by_test, is_false, and_parts, or_parts, in_turn, clash}
use Rattle.route.proofs.Members.{none-stronger}
use Rattle.tcam.proofs.Cells.{used-short, slot-keeps}
use Rattle.tcam.proofs.Rows.{cells_at, get_or-cells}
use Rattle.tcam.proofs.SlotsAgree.{order_keeps_s1}
use Rattle.tcam.proofs.OrElse.{or-else-assoc, or_else_none, or-else-cond, or_else_some}
use Rattle.tcam.proofs.Runs.{run_holds_lem, repeats-in-run}
use Rattle.tcam.proofs.RunLoops.{run-other}
use Rattle.tcam.proofs.Searched.{any-places}
use Rattle.tcam.proofs.SeenBefore.{repeats-free}
use Rattle.tcam.proofs.Tested.{free-at}

-- a slot with another tag than an earlier copy repeats it
pub contradicts-not : (c : Cell) (bs : List Cell) → repeats c bs ≡ false → contradicts c bs ≡ false
contradicts-not c bs e = by_test (is_free c)
    (λ t. rw t)
    (λ t. rw t (none-stronger (other_tag_in c) (same_prefix_in c) (λ x y. (and_parts (same_prefix_in c x) _ y).0) bs (rw t at e)))

-- a slot that repeats a prefix is used
repeats-used : (at : ℕ → Cell) (i : ℕ) → repeats_at at i ≡ true → is_free (at i) ≡ false
repeats-used at i e = not-true _ (and_parts (not (is_free (at i))) (any (same_prefix_in (at i)) (before at i)) e).0

-- a slot that was sought is there or not
place-has : (o : Optional Slot) → is_some (place_of o) ≡ has o
place-has None = refl
place-has (Some s) = refl

module _ (at : ℕ → Cell) (i : ℕ) where
  -- what slot i comes to: no repeat
  repeats-not : (o : Option ℕ) → repeats_at at i ≡ false →
      (fine ≡ fault_if (fails_at at o i) image_refusal i) × (o ≡ since_at o (repeats_at at i) i)
  repeats-not o e = rw (e, contradicts-not (at i) (before at i) e, and-false (is_some o)) (refl, sym (or_else_none o))

  -- no repeat, or a slot is refused already
  pub with-same : (refused later : Optional Slot) → (not (repeats_at at i) || has refused) ≡ true →
      RepeatWith at (unless_refused refused later) i (unless_refused refused later)
  with-same (Some s) later e = refl
  with-same None later e = repeats-not (place_of later) (is_false (repeats_at at i) (λ t. clash e (rw t)))

  -- the second slot to repeat a prefix, or another tag
  pub with-bad : (refused later : Optional Slot) → (not (repeats_at at i) || has refused) ≡ false →
      (has later || contradicts (at i) (before at i)) ≡ true → RepeatWith at (unless_refused refused later) i (Err (Image i))
  with-bad (Some s) later e b = clash refl (or_parts (not (repeats_at at i)) true e).1
  with-bad None later e b =
      let r = not-false _ (or_parts (not (repeats_at at i)) false e).0 in
      rw (r, and-true (is_some (place_of later)), place-has later) (rw (or_comm (contradicts (at i) (before at i)) (has later), b))

  -- the later copy
  pub with-once : (refused later : Optional Slot) → (not (repeats_at at i) || has refused) ≡ false →
      (has later || contradicts (at i) (before at i)) ≡ false → {s : Slot} → s.0 ≡ i → RepeatWith at (unless_refused refused later) i (Ok (Some s))
  with-once (Some s) later e b q = clash refl (or_parts (not (repeats_at at i)) true e).1
  with-once None (Some s) e b q = clash refl (or_parts true (contradicts (at i) (before at i)) b).0
  with-once None None e b q = rw (not-false _ (or_parts (not (repeats_at at i)) false e).0, b, q) (refl, refl)

-- another tag stands before a slot exactly where it stands in the run of its length
pub contradicts-in-run : (h : Here) (b : Bool) → (not (repeats_at (slot_at h.table.now) h.slot.0) || b) ≡ false →
    any_between (λ (j : ℕ). other_tag_in (cell_of h.cell) (slot_at h.table.now j)) h.seen.run.0 h.slot.0
    ≡ contradicts (slot_at h.table.now h.slot.0) (before (slot_at h.table.now) h.slot.0)
contradicts-in-run h b e =
    let r = not-false _ (or_parts (not (repeats_at (slot_at h.table.now) h.slot.0)) b e).0 in
    let at = slot_at h.table.now in
    let x = at h.slot.0 in
    let bs = before at h.slot.0 in
    let u = repeats-used at h.slot.0 r in
    any-places (other_tag_in (cell_of h.cell)) at h.seen.run.0 (h.slot.0 - h.seen.run.0)
    ∙ rw (h.holds, u)
    (sym (run_holds_lem 32 x (other_tag_in x) (λ y e. (and_parts (same_prefix_in x y) _ e).0) bs (h.placed, h.tested.in_order) u
    ∙ rw (h.tested.run.is (length_in x), nearest r u) refl))
  where
    -- its run is not empty
    nearest : repeats_at (slot_at h.table.now) h.slot.0 ≡ true → is_free (slot_at h.table.now h.slot.0) ≡ false
        → eqb (length_in (slot_at h.table.now h.slot.0)) h.seen.nearest.0 ≡ true
    nearest r u =
        let at = slot_at h.table.now in
        by_test (eqb (length_in (at h.slot.0)) h.seen.nearest.0)
        (λ t. t)
        (λ t. clash r (sym (run-other h.table.now.addresses.now h.table.now.tags.now h.tested.run (at h.slot.0) u t
        ∙ sym (repeats-in-run 32 (at h.slot.0) (before at h.slot.0) (h.placed, h.tested.in_order)))))

-- the slots before slot i repeat a prefix at most once, at the slot o: what is left gives the whole verdict, and the slot
pub record RepeatBefore (ad ts : List ℕ) (o : Option ℕ) (i : ℕ) : Type 0 where
  pub within : i ≤ length ad
  pub equal : length ad ≡ length ts
  pub verdict : repeat_fault i (is_some o) (before (cell_at ad ts) i) (cells (drop i ad) (drop i ts)) ≡ repeat_fault 0 false [] (cells ad ts)
  pub slot : or_else o (repeat_slot i (before (cell_at ad ts) i) (cells (drop i ad) (drop i ts))) ≡ repeat_slot 0 [] (cells ad ts)

module _ {ad ts : List ℕ} {o : Option ℕ} {i : ℕ} (h : RepeatBefore ad ts o i) where
  module _ (l : i < length ad) where
    stop : {n p : ℕ} → fault n p ≡ fault_if (fails_at (cell_at ad ts) o i) image_refusal i → fault n p ≡ repeat_fault 0 false [] (cells ad ts)
    stop e = rw (cells_at ad ts i h.equal l, ← e) at h.verdict

    turn : {p : Option ℕ} → (fine ≡ fault_if (fails_at (cell_at ad ts) o i) image_refusal i) × (p ≡ since_at o (repeats_at (cell_at ad ts) i) i) →
        RepeatBefore ad ts p (i + 1)
    turn t = let r = repeats_at (cell_at ad ts) i in record {
      within = omega arith;
      equal = h.equal;
      verdict = rw (t.1, or_else_some o r i, add-one) (rw (cells_at ad ts i h.equal l, ← t.0, add-one) at h.verdict);
      slot = rw (t.1, add-one)
          (or-else-assoc o _ _ ∙ ap (or_else o) (or-else-cond r i _) ∙ (rw (cells_at ad ts i h.equal l, add-one) at h.slot));
    }

    -- a free slot repeats nothing
    free : is_free (cell_at ad ts i) ≡ true → RepeatBefore ad ts o (i + 1)
    free f = turn (repeats-not (cell_at ad ts) i o (sym (repeats-free (cell_at ad ts i) (before (cell_at ad ts) i) f)))

  end : length ad ≤ i → (fine ≡ repeat_fault 0 false [] (cells ad ts)) × (o ≡ repeat_slot 0 [] (cells ad ts))
  end l = (rw (drop_of_length-le ad l) at h.verdict, sym (or_else_none o) ∙ (rw (drop_of_length-le ad l) at h.slot))

-- nor do free slots that follow
past : {ad ts : List ℕ} {o : Option ℕ} {i r : ℕ} → RepeatBefore ad ts o i → FreeBetween ad ts i r → RepeatBefore ad ts o r
past {ad} {ts} {o} {i} {r} h x = let z : i + (r - i) ≡ r = omega (arith, x.behind) in rw z at (go (r - i) (omega (arith, x.behind)))
  where
    go : (k : ℕ) → i + k ≤ r → RepeatBefore ad ts o (i + k)
    go zero l = let z : i + 0 ≡ i = omega arith in rw z h
    go (suc k) l =
        let z : i + suc k ≡ i + k + 1 = omega arith in
        rw z (free (go k (omega arith)) (omega (arith, x.within)) (free-at x (i + k) (omega arith) (omega arith)))

-- what the slots before slot i come to: they repeat a prefix at most once, or the first that is refused decides
abbrev pub RepeatKept : List ℕ → List ℕ → Result (Optional Slot) Refusal → ℕ → Type 0
RepeatKept ad ts (Ok p) i = RepeatBefore ad ts (place_of p) i
RepeatKept ad ts (Err f) i = fault (number f) (place f) ≡ repeat_fault 0 false [] (cells ad ts)

module _ (ad ts : List ℕ) where
  -- with slot i more, and the free slots behind it
  pub kept-past : (i n : ℕ) → i < length ad → FreeBetween ad ts (i + 1) n → (r s : Result (Optional Slot) Refusal) → RepeatKept ad ts r i →
      RepeatWith (cell_at ad ts) r i s → RepeatKept ad ts s n
  kept-past i n l x (Err f) s h e = rw e h
  kept-past i n l x (Ok p) (Err f) h e = stop h l e
  kept-past i n l x (Ok p) (Ok q) h e = past (turn h l e) x

-- where a slot was found, it is in the table and used
abbrev pub EntryAt : List ℕ → List ℕ → Option ℕ → Type 0
EntryAt ad ts none = Unit {0}
EntryAt ad ts (some s) = (s < length ad) × (is_free (cell_at ad ts s) ≡ false)

-- so it is with the later copy
pub repeat-entry : (ad ts : List ℕ) → length ad ≡ length ts → EntryAt ad ts (repeat_slot 0 [] (cells ad ts))
repeat-entry ad ts e = go (length ad) 0 (omega arith)
  where
    go : (k i : ℕ) → i + k ≡ length ad → EntryAt ad ts (repeat_slot i (before (cell_at ad ts) i) (cells (drop i ad) (drop i ts)))
    go zero i z = let l : length ad ≤ i = omega arith in rw (drop_of_length-le ad l) tt
    go (suc k) i z = rw (cells_at ad ts i e (omega arith)) (by_test (repeats_at (cell_at ad ts) i)
        (λ t. rw t (omega arith, repeats-used (cell_at ad ts) i t))
        (λ t. rw (t, add-one) (rw add-one at (go k (i + 1) (omega arith)))))

-- and its length is at most W where slots keep S1
pub entry-short : (W : ℕ) (ad ts : List ℕ) → length ad ≡ length ts → slot_fault W 0 (cells ad ts) ≡ fine → (s : ℕ) → EntryAt ad ts (some s) →
    length_in (cell_at ad ts s) ≤ W
entry-short W ad ts q k s e =
    used-short W (cell_at ad ts s) (rw (get_or-cells ad ts s q e.0) at (slot-keeps W 0 (cells ad ts) s k)) e.1

-- the later copy in slot s, as it was found in a table of a right size: it is in the table, its length is at most 32, the slots keep S1, and the
-- writes of a mend are those of its removal
module _ (ad ts : List ℕ) (e : length ad ≡ length ts) {o : Optional Slot} {s : Slot} (t : o ≡ Some s) (h : MendFound 32 (cells ad ts) (Ok o)) where
  found-slot : some s.0 ≡ repeat_slot 0 [] (cells ad ts)
  found-slot = ap place_of (sym t) ∙ h.1

  found-entry : EntryAt ad ts (some s.0)
  found-entry = subst (λ (x : Option ℕ). EntryAt ad ts x) (sym found-slot) (repeat-entry ad ts e)

  pub found-inside : s.0 < length ad
  found-inside = found-entry.0

  pub found-keeps : slot_fault 32 0 (cells ad ts) ≡ fine
  found-keeps = order_keeps_s1 32 0 0 [] (cells ad ts) (in_turn (order_fault 32 0 [] (cells ad ts)) _ (sym h.0)).0

  pub found-short : length_in (cell_at ad ts s.0) ≤ 32
  found-short = entry-short 32 ad ts e found-keeps s.0 found-entry

  pub found-planned : (room n : ℕ) → n ≡ length_in (cell_at ad ts s.0) → fine ≡ size_fault ad ts →
      plan_mend 32 ad ts room ≡ with_room room fine (remove_present 32 (cells ad ts) n s.0)
  found-planned room n l z = rw (← z, ← h.0, ← found-slot, get_or-cells ad ts s.0 e found-inside, l) refl
