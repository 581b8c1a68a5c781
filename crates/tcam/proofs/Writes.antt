-- The loops over the first k writes of a plan: what each has done at write i, and that a turn keeps it.
use Rattle.std.proofs.Common.{◌≡◌, ℕ, suc, ◌+◌, ◌-◌, ◌*◌, ◌/◌, ◌<◌, ◌≤◌, true, false, leb, List, [], ◌∷◌, ◌++◌, length, take, drop, set, refl, ap, add-one, arith, length-set, drop-cons, leb-false}
use native.Mathlib.Numerals.{add-two}
use Rattle.route.specs.Refusals.{fine, fault, fault_if, plan_refusal}
use Rattle.tcam.specs.Slots.{Cell}
use Rattle.tcam.specs.Plans.{Write, numbers}
use Rattle.tcam.specs.Applies.{writes_in, is_wrong, write_fault, stored}
use Rattle.tcam.specs.Loops.{write_at}
use Rattle.route.proofs.Tests.{in_turn, passed, or_parts}

-- the writes that a row of numbers begins with are read back from it
pub read_back : (ws : List Write) (row : List ℕ) → writes_in (numbers ws ++ row) ≡ ws ++ writes_in row
read_back [] row = refl
read_back (w ∷ ws) row = ap (λ (l : List Write). w ∷ l) (read_back ws row)

-- the first k writes from write i on
abbrev pub rest : ℕ → List ℕ → ℕ → List Write
rest k plan i = take (k - i) (writes_in (drop (3 * i) plan))

rest_at : (k : ℕ) (plan : List ℕ) (i : ℕ) → i < k → k ≤ length plan / 3 → rest k plan i ≡ write_at plan i ∷ rest k plan (i + 1)
rest_at k plan i l r =
    let n : k - i ≡ suc (k - (i + 1)) = omega arith in
    let f : 3 * (i + 1) ≡ suc (suc (suc (3 * i))) = omega arith in
    let p : 3 * i < length plan = omega arith in
    let q : suc (3 * i) < length plan = omega arith in
    let s : suc (suc (3 * i)) < length plan = omega arith in
    rw (n, f, add-one (3 * i), add-two (3 * i), drop-cons plan (3 * i) 0 p, drop-cons plan (suc (3 * i)) 0 q, drop-cons plan (suc (suc (3 * i))) 0 s)

-- the writes before write i can be made: what is left gives the whole verdict
pub record CheckedWrites (W M : ℕ) (plan : List ℕ) (k i : ℕ) : Type 0 where
  pub within : i ≤ k
  pub room : k ≤ length plan / 3
  pub left : write_fault W M i (rest k plan i) ≡ write_fault W M 0 (take k (writes_in plan))

module _ {W M : ℕ} {plan : List ℕ} {k i : ℕ} (v : CheckedWrites W M plan k i) where
  module _ (l : i < k) {w : Write} (is : w ≡ write_at plan i) where
    pub checked-stop : is_wrong W M w ≡ true → fault plan_refusal i ≡ write_fault W M 0 (take k (writes_in plan))
    checked-stop e = let e' = rw is at e in rw (rest_at k plan i l v.room, e') at v.left

    pub checked-turn : is_wrong W M w ≡ false → CheckedWrites W M plan k (i + 1)
    checked-turn e =
        let e' = rw is at e in
        record { within = omega arith; room = v.room; left = rw (rest_at k plan i l v.room, e') at v.left }

-- one row, of whose cells it takes a part, after the writes before write i: what is left of them gives the row that is wanted
pub record RowAt (part : Cell → ℕ) (plan : List ℕ) (k : ℕ) (row₀ row : List ℕ) (i : ℕ) : Type 0 where
  pub size : length row ≡ length row₀
  pub left : stored part row (rest k plan i) ≡ stored part row₀ (take k (writes_in plan))

-- both rows, and the writes that are left can be made
pub record MadeWrites (W : ℕ) (plan : List ℕ) (k : ℕ) (ad₀ ts₀ ad ts : List ℕ) (i : ℕ) : Type 0 where
  pub within : i ≤ k
  pub room : k ≤ length plan / 3
  pub equal : length ad₀ ≡ length ts₀
  pub sound : write_fault W (length ad₀) i (rest k plan i) ≡ fine
  pub addresses : RowAt (λ c. c.address) plan k ad₀ ad i
  pub tags : RowAt (λ c. c.tag) plan k ts₀ ts i

module _ {W : ℕ} {plan : List ℕ} {k : ℕ} {ad₀ ts₀ ad ts : List ℕ} {i : ℕ} (s : MadeWrites W plan k ad₀ ts₀ ad ts i) where
  module _ (l : i < k) {w : Write} (is : w ≡ write_at plan i) where
    rest-now : rest k plan i ≡ w ∷ rest k plan (i + 1)
    rest-now = rw is (rest_at k plan i l s.room)

    sound-now : (is_wrong W (length ad₀) w ≡ false) × (write_fault W (length ad₀) (i + 1) (rest k plan (i + 1)) ≡ fine)
    sound-now = let t = in_turn (fault_if (is_wrong W (length ad₀) w) plan_refusal i) _ (rw rest-now at s.sound) in (passed _ _ _ t.0, t.1)

    -- the write's slot is one of both rows
    pub made-slot : (w.slot < length ad) × (w.slot < length ts)
    made-slot =
        let b = leb-false (length ad₀) w.slot (or_parts (leb (length ad₀) w.slot) _ sound-now.0).0 in
        (omega (arith, s.addresses.size), omega (arith, s.addresses.size, s.tags.size))

    row-turn : {part : Cell → ℕ} {row₀ row : List ℕ} → RowAt part plan k row₀ row i →
        RowAt part plan k row₀ (set row w.slot (part w.cell)) (i + 1)
    row-turn r = record { size = simp length-set r.size; left = rw rest-now at r.left }

    pub made-turn : MadeWrites W plan k ad₀ ts₀ (set ad w.slot w.cell.address) (set ts w.slot w.cell.tag) (i + 1)
    made-turn = record {
      within = omega arith;
      room = s.room;
      equal = s.equal;
      sound = sound-now.1;
      addresses = row-turn s.addresses;
      tags = row-turn s.tags;
    }
