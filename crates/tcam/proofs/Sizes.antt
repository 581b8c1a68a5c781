-- What a table without a fault says: as many tags as addresses, at least one slot, at most the limit; and its slots keep S1.
use Rattle.std.proofs.Common.{◌≡◌, ℕ, ◌≤◌, eqb, leb, List, [], length, sym, eqb-true, leb-true}
use borrow.Author.Tests.{not-false}
use Rattle.route.specs.Refusals.{fine}
use Rattle.tcam.specs.Slots.{max_slots, cells, slot_fault, slots_fault, size_fault, table_fault}
use Rattle.route.proofs.Tests.{all_three, passed, in_turn}
use Rattle.tcam.proofs.SlotsAgree.{image_keeps_s1}

pub record Sized (m n : ℕ) : Type 0 where
  pub equal : m ≡ n
  pub some : 1 ≤ m
  pub few : m ≤ max_slots

pub sized : (m n : ℕ) → fine ≡ slots_fault m n → Sized m n
sized m n e =
    let t = all_three (eqb m n) (leb 1 m) (leb m max_slots) (not-false _ (passed _ _ _ (sym e))) in
    record { equal = eqb-true m n t.0; some = leb-true 1 m t.1; few = leb-true m max_slots t.2 }

pub record Tested (W : ℕ) (ad ts : List ℕ) : Type 0 where
  pub size : Sized (length ad) (length ts)
  pub keeps : slot_fault W 0 (cells ad ts) ≡ fine

pub tested : (W : ℕ) (ad ts : List ℕ) → fine ≡ table_fault W ad ts → Tested W ad ts
tested W ad ts e =
    let t = in_turn (size_fault ad ts) _ (sym e) in
    record { size = sized (length ad) (length ts) (sym t.0); keeps = image_keeps_s1 W 0 0 [] (cells ad ts) t.1 }
