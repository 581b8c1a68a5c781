-- Mending: what a mend comes to, on every image that it finds no fault in.
--
-- The plan is the removal of the later copy of the one prefix that stands twice, and no writes where none does. It can be applied write by
-- write: lookups answer all along as they did at the start, and in the end the image is well-formed and holds what it held. That every
-- cut of an accepted update is such an image, and of which set, stands in demand 3 (Sequence).
use Rattle.std.specs.Prelude.{ℕ, ◌≤◌, ◌≡◌, ◌⊎◌, false, List, [], ◌∷◌, ◌++◌, length}
use Rattle.route.specs.Rule.{Route}
use Rattle.route.specs.Refusals.{fine, Answer, value}
use Rattle.route.specs.RightHop.{◌∈◌}
use Rattle.tcam.specs.Slots.{Cell, cells, is_free, length_in, image_fault, size_fault, slot_lookup}
use Rattle.tcam.specs.Tables.{addresses, tags, routes_in, TableOf}
use Rattle.tcam.specs.Plans.{writes, most_to_remove, remove_present, with_room, row_after}
use Rattle.tcam.specs.Applies.{apply_answer, applied_addresses, applied_tags}
use Rattle.tcam.specs.Mend.{order_fault, mend_fault, mend_writes, plan_mend}

-- the table after the first k writes of a row
abbrev pub after : ℕ → List Cell → List ℕ → ℕ → List Cell
after W cs row k = cells (applied_addresses W (addresses cs) (tags cs) row k) (applied_tags W (addresses cs) (tags cs) row k)

abbrev pub looked_up : ℕ → List Cell → ℕ → Answer
looked_up W cs q = slot_lookup W (addresses cs) (tags cs) q

-- the mend's plan, left in a row that held anything
abbrev pub mend_row : ℕ → List Cell → List ℕ → List ℕ
mend_row W cs row = row_after (writes (mend_writes W cs)) row

-- the image after the whole of it
abbrev pub mended : ℕ → List Cell → List ℕ → List Cell
mended W cs row = after W cs (mend_row W cs row) (length (mend_writes W cs))

-- the first k writes of a mend: the apply answers k, and every lookup answers as it did at the start
pub record MendCut (W : ℕ) (cs : List Cell) (row : List ℕ) (k : ℕ) : Type 0 where
  pub answers : apply_answer W (addresses cs) (tags cs) (mend_row W cs row) k ≡ value k
  pub looks_up : (q : ℕ) → looked_up W (after W cs (mend_row W cs row) k) q ≡ looked_up W cs q

-- the image is mended to a table of the set rs: its plan is refused for room alone, and bounded; every cut of it looks up as the image
-- did, and the whole leaves such a table
pub record Mendable (W : ℕ) (rs : List Route) (cs : List Cell) : Type 0 where
  pub accepted : (room : ℕ) → plan_mend W (addresses cs) (tags cs) room ≡ with_room room fine (mend_writes W cs)
  pub bounded : length (mend_writes W cs) ≤ most_to_remove W
  pub cuts : (row : List ℕ) (k : ℕ) → k ≤ length (mend_writes W cs) → MendCut W cs row k
  pub ends : (row : List ℕ) → TableOf W rs (addresses (mended W cs row)) (tags (mended W cs row))

-- an image that keeps S1 to S4 and has one prefix in two slots, with equal tags: without the later one it is well-formed
pub record OneTwice (W : ℕ) (cs : List Cell) : Type 0 where
  pub front : List Cell
  pub later : Cell
  pub back : List Cell
  pub is : cs ≡ front ++ (later ∷ back)
  pub used : is_free later ≡ false
  pub stands : later ∈ front
  pub in_order : order_fault W 0 [] cs ≡ fine
  pub others : image_fault W 0 [] (front ++ back) ≡ fine

pub record Mends (W : ℕ) : Type 0 where
  -- an image that is not refused with 8 or 7 is mended, to a table of what its slots hold
  pub every : (cs : List Cell) → mend_fault W (addresses cs) (tags cs) ≡ fine → Mendable W (routes_in cs) cs
  -- and a mend that is cut short can be mended, to the same
  pub again :
      (cs : List Cell) → mend_fault W (addresses cs) (tags cs) ≡ fine → (row : List ℕ) (k : ℕ) → k ≤ length (mend_writes W cs) →
      Mendable W (routes_in cs) (after W cs (mend_row W cs row) k)
  -- such an image is well-formed or has one prefix in two slots; any other is refused
  pub only : (cs : List Cell) → mend_fault W (addresses cs) (tags cs) ≡ fine → (image_fault W 0 [] cs ≡ fine) ⊎ OneTwice W cs
  -- a well-formed image needs no writes, whatever the room
  pub well_formed :
      (cs : List Cell) (room : ℕ) → size_fault (addresses cs) (tags cs) ≡ fine → image_fault W 0 [] cs ≡ fine →
      plan_mend W (addresses cs) (tags cs) room ≡ writes []
  -- with one prefix in two slots the plan is the removal of the later copy
  pub the_later :
      (cs : List Cell) (room : ℕ) → size_fault (addresses cs) (tags cs) ≡ fine → (t : OneTwice W cs) →
      plan_mend W (addresses cs) (tags cs) room ≡ with_room room fine (remove_present W cs (length_in t.later) (length t.front))
