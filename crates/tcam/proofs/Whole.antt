-- An accepted plan can be applied whole. It found no fault in the table, so each of its slots keeps S1; a chain copies such slots and ends
-- with the new entry, which is valid, or with a free cell; and it writes only to slots that were found in the table. So no write is
-- refused, and the row that the plan left is read back as its writes.
use Rattle.std.proofs.Common.{◌≡◌, ℕ, zero, suc, ◌+◌, ◌-◌, ◌*◌, ◌/◌, ◌<◌, ◌≤◌, Bool, true, false, not, eqb, ltb, leb, List, [], ◌∷◌, ◌++◌, length, get_or, take, drop, sym, refl, subst, le_refl, arith, length-append, le-ltb}
use mathlib.Core.Option.{Option, none, some}
use lib.Seq.{take-length, take-append-le}
use borrow.Author.Tests.{lt-leb}
use Rattle.route.specs.Rule.{route}
use Rattle.route.specs.Refusals.{Verdict, fine, fault, fault_if, prefix_fault, entry_fault, ◌then◌, plan_refusal, full_refusal}
use Rattle.tcam.specs.Slots.{Cell, cell, cells, free, tag_of, is_free, keeps_s1, slot_fault, size_fault, table_fault}
use Rattle.tcam.specs.Plans.{Write, Planned, refuses, writes, with_room, if_fine, write, numbers, row_after, first_slot, of_length, of_prefix}
use Rattle.tcam.specs.Plans.{copied, open_after, chain, first_of_length, last_of, rising, falling, set_absent, remove_by, remove_present}
use Rattle.tcam.specs.Plans.{is_some, set_at, remove_at, plan_set, plan_remove}
use Rattle.tcam.specs.Applies.{writes_in, is_wrong, write_fault, apply_fault, stored, stored_if, applied_addresses, applied_tags}
use Rattle.tcam.specs.Loops.{edge_of}
use Rattle.route.proofs.Tests.{either, in_turn, passed}
use Rattle.tcam.proofs.Cells.{slot-keeps, entry-keeps}
use Rattle.tcam.proofs.Rows.{length-cells}
use Rattle.tcam.proofs.Sizes.{Tested, tested}
use Rattle.tcam.proofs.Writes.{read_back}
use Rattle.tcam.proofs.Chains.{FoundIn, edge-within, open-within}
use Rattle.tcam.proofs.Planned.{length-numbers}

-- writes that can be made in a table of M slots, whatever the first one's number
pub record Makeable (W M : ℕ) (ws : List Write) : Type 0 where
  pub faultless : (i : ℕ) → write_fault W M i ws ≡ fine

-- the plan ws, left in a row, can be applied whole, and leaves its writes in both rows
pub record AppliesWhole (W : ℕ) (ad ts : List ℕ) (ws : List Write) (row : List ℕ) : Type 0 where
  pub accepted : apply_fault W ad ts (row_after (writes ws) row) (length ws) ≡ fine
  pub addresses : applied_addresses W ad ts (row_after (writes ws) row) (length ws) ≡ stored (λ c. c.address) ad ws
  pub tags : applied_tags W ad ts (row_after (writes ws) row) (length ws) ≡ stored (λ c. c.tag) ts ws

module _ {W M : ℕ} where
  pub none-makeable : Makeable W M []
  none-makeable = record { faultless = λ i. refl }

  pub write-makeable : {s : ℕ} {c : Cell} {ws : List Write} → s < M → keeps_s1 W c ≡ true → Makeable W M ws → Makeable W M (write s c ∷ ws)
  write-makeable {s} l k h = record { faultless = λ i. rw (lt-leb M s l, k) (h.faultless (i + 1)) }

-- of writes that can be made the first k can
pub faultless-first : (W M i k : ℕ) (ws : List Write) → write_fault W M i ws ≡ fine → write_fault W M i (take k ws) ≡ fine
faultless-first W M i zero ws h = refl
faultless-first W M i (suc k) [] h = refl
faultless-first W M i (suc k) (w ∷ ws) h =
    let t = in_turn (fault_if (is_wrong W M w) plan_refusal i) _ h in
    rw (passed (is_wrong W M w) plan_refusal i t.0) (faultless-first W M (i + 1) k ws t.1)

-- a table of slots that keep S1
module _ (W : ℕ) (cs : List Cell) (keeps : slot_fault W 0 cs ≡ fine) where
  -- whatever finds the edge slots, if it finds them in the table
  module _ (edge : ℕ → Option ℕ) (within : (l : ℕ) → FoundIn cs (edge l)) where
    chain-makeable : (ls : List ℕ) (at : ℕ) (last : Cell) → at < length cs → keeps_s1 W last ≡ true → Makeable W (length cs) (chain edge cs ls at last)
    chain-makeable [] at last b k = write-makeable b k none-makeable
    chain-makeable (l ∷ ls) at last b k = go (edge l) (within l) (λ s c. chain-makeable ls s last c k)
      where
        go : (o : Option ℕ) → FoundIn cs o → ((s : ℕ) → s < length cs → Makeable W (length cs) (chain edge cs ls s last)) →
            Makeable W (length cs) (copied cs at o ++ chain edge cs ls (open_after at o) last)
        go none w h = h at b
        go (some s) w h = write-makeable b (slot-keeps W 0 cs s keeps) (h s (w s refl))

    remove_by-makeable : (ls : List ℕ) (s e : ℕ) → s < length cs → e < length cs → Makeable W (length cs) (remove_by edge cs ls s e)
    remove_by-makeable ls s e b c =
        let rest = chain-makeable ls e free c refl in
        either (λ ws. Makeable W (length cs) (ws ++ chain edge cs ls e free)) (eqb s e)
        (λ _. rest) (λ _. write-makeable b (slot-keeps W 0 cs e keeps) rest)

  edges-within : (up : Bool) (l : ℕ) → FoundIn cs (edge_of up cs l)
  edges-within up l = edge-within up (of_length l) cs

  pub set_absent-makeable : (n : ℕ) (c : Cell) → 1 ≤ length cs → keeps_s1 W c ≡ true → Makeable W (length cs) (set_absent W cs n c)
  set_absent-makeable n c l k =
      either (Makeable W (length cs)) (leb (W / 2) n)
      (λ _. chain-makeable (first_of_length cs) (edges-within true) (rising (n - W / 2) (W / 2)) _ c (open-within true is_free cs 0 l) k)
      (λ _. chain-makeable (last_of cs) (edges-within false) (falling (W / 2 - 1 - n) (n + 1)) _ c (open-within false is_free cs 0 l) k)

  pub remove_present-makeable : (n s : ℕ) → s < length cs → Makeable W (length cs) (remove_present W cs n s)
  remove_present-makeable n s l =
      either (Makeable W (length cs)) (leb (W / 2) n)
      (λ _. remove_by-makeable (last_of cs) (edges-within false) (falling (n - W / 2) (W / 2)) s _ l (open-within false (of_length n) cs s l))
      (λ _. remove_by-makeable (first_of_length cs) (edges-within true) (rising (W / 2 - 1 - n) (n + 1)) s _ l (open-within true (of_length n) cs s l))

-- the first k writes of the row that a plan left
module _ (W : ℕ) (ad ts : List ℕ) (sized : size_fault ad ts ≡ fine) (ws : List Write) (m : Makeable W (length ad) ws) (row : List ℕ)
    (k : ℕ) (n : k ≤ length ws) where
  reads : take k (writes_in (row_after (writes ws) row)) ≡ take k ws
  reads = rw (read_back, take-append-le k ws _ n)

  pub first-accepted : apply_fault W ad ts (row_after (writes ws) row) k ≡ fine
  first-accepted =
      let e = length-append (numbers ws) (drop (3 * length ws) row) in
      rw (sized, le-ltb (length (row_after (writes ws) row) / 3) k (omega (arith, e, length-numbers ws)), reads)
      (faultless-first W (length ad) 0 k ws (m.faultless 0))

  pub first-stored : (part : Cell → ℕ) (old : List ℕ) →
      stored_if (apply_fault W ad ts (row_after (writes ws) row) k) part old (take k (writes_in (row_after (writes ws) row))) ≡ stored part old (take k ws)
  first-stored part old = rw (first-accepted, reads)

-- what holds of a plan's writes where it is accepted
abbrev IfAccepted : (List Write → Type 0) → Planned → Type 0
IfAccepted P (refuses n p) = Unit {0}
IfAccepted P (writes ws) = P ws

with-room : (P : List Write → Type 0) (room : ℕ) (v : Verdict) (ws : List Write) → P ws → IfAccepted P (with_room room v ws)
with-room P room (fault n p) ws h = tt
with-room P room fine ws h = either (IfAccepted P) (ltb room (3 * length ws)) (λ _. tt) (λ _. h)

-- an accepted plan passed its tests
tests-fine : (v : Verdict) (p : Planned) {ws : List Write} → if_fine v p ≡ writes ws → (v ≡ fine) × (p ≡ writes ws)
tests-fine fine p e = (refl, e)
tests-fine (fault n q) p e = (cc, cc)

-- by the slot that has the prefix, if one was found
module _ (W : ℕ) (cs : List Cell) (keeps : slot_fault W 0 cs ≡ fine) (n room : ℕ) where
  set_at-makeable : (c : Cell) (o : Option ℕ) → FoundIn cs o → 1 ≤ length cs → keeps_s1 W c ≡ true →
      IfAccepted (Makeable W (length cs)) (set_at W cs n c room o)
  set_at-makeable c none b l k =
      with-room (Makeable W (length cs)) room (fault_if (not (is_some (first_slot is_free 0 cs))) full_refusal 0) _ (set_absent-makeable W cs keeps n c l k)
  set_at-makeable c (some s) b l k =
      with-room (Makeable W (length cs)) room fine _
      (either (Makeable W (length cs)) (eqb (get_or cs s free).tag c.tag) (λ _. none-makeable) (λ _. write-makeable (b s refl) k none-makeable))

  remove_at-makeable : (o : Option ℕ) → FoundIn cs o → IfAccepted (Makeable W (length cs)) (remove_at W cs n room o)
  remove_at-makeable none b = tt
  remove_at-makeable (some s) b = with-room (Makeable W (length cs)) room fine _ (remove_present-makeable W cs keeps n s (b s refl))

module _ (W : ℕ) (ad ts : List ℕ) where
  whole : size_fault ad ts ≡ fine → (ws : List Write) → Makeable W (length ad) ws → (row : List ℕ) → AppliesWhole W ad ts ws row
  whole sized ws m row =
      let fits = le_refl (length ws) in
      record {
        accepted = first-accepted W ad ts sized ws m row (length ws) fits;
        addresses = rw take-length at (first-stored W ad ts sized ws m row (length ws) fits (λ c. c.address) ad);
        tags = rw take-length at (first-stored W ad ts sized ws m row (length ws) fits (λ c. c.tag) ts);
      }

  -- the table's test, then the test v, then the plan p
  accepted-plan : (v : Verdict) (p : Planned) {ws : List Write} → if_fine (table_fault W ad ts then v) p ≡ writes ws →
      (Tested W ad ts → v ≡ fine → IfAccepted (Makeable W (length (cells ad ts))) p) → (row : List ℕ) → AppliesWhole W ad ts ws row
  accepted-plan v p {ws} e h row =
      let t = tests-fine (table_fault W ad ts then v) p e in
      let u = in_turn (table_fault W ad ts) v t.0 in
      let tables = tested W ad ts (sym u.0) in
      let m : Makeable W (length (cells ad ts)) ws = subst (IfAccepted (Makeable W (length (cells ad ts)))) t.1 (h tables u.1) in
      whole (in_turn (size_fault ad ts) _ u.0).0 ws (rw (length-cells ad ts tables.size.equal) at m) row

  pub set-applies : {ws : List Write} (a n h room : ℕ) → plan_set W ad ts a n h room ≡ writes ws → (row : List ℕ) → AppliesWhole W ad ts ws row
  set-applies a n h room e = accepted-plan (entry_fault W 0 (route a n h)) _ e
      (λ t f. let g = in_turn (prefix_fault W 0 a n) _ f in
      set_at-makeable W (cells ad ts) t.keeps n room (cell a (tag_of n h)) (first_slot (of_prefix a n) 0 (cells ad ts))
      (edge-within true (of_prefix a n) (cells ad ts)) (rw (length-cells ad ts t.size.equal) t.size.some) (entry-keeps W a n g.0 h g.1))

  pub remove-applies : {ws : List Write} (a n room : ℕ) → plan_remove W ad ts a n room ≡ writes ws → (row : List ℕ) → AppliesWhole W ad ts ws row
  remove-applies a n room e = accepted-plan (prefix_fault W 0 a n) _ e
      (λ t f. remove_at-makeable W (cells ad ts) t.keeps n room (first_slot (of_prefix a n) 0 (cells ad ts)) (edge-within true (of_prefix a n) (cells ad ts)))
