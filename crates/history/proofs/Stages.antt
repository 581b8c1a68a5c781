-- What a step keeps, and that it advances the report: the stage stays one of the bytes, the table keeps its size, fewer steps are left, and it prints
-- one line at most.
use Prim.Native.Nat.{ℕ, ◌+◌, ◌-◌, ◌≤◌, ◌<◌}
use mathlib.Core.Path.{◌≡◌, refl, sym, ◌∙◌}
use mathlib.Core.Bool.{Bool, true, false, cond}
use mathlib.Core.List.{List, [], ◌∷◌}
use native.Mathlib.Omega.{arith}
use lib.Dec.{leb, ltb}
use lib.ListN.{length, length-set, get_or, set}
use borrow.Author.Tests.{ltb-true, le-leb}
use Rattle.route.proofs.Tests.{both, by_test}
use Rattle.tcam.specs.Slots.{Cell, free, is_free}
use Rattle.tcam.specs.Tables.{route_of}
use Rattle.tcam.specs.Plans.{Write, Planned, refuses, writes}
use Rattle.tcam.specs.Applies.{stored}
use Rattle.records.specs.Records.{Update, Reply, update, ended, refused_at, record_at}
use Rattle.records.proofs.Places.{ahead}
use Rattle.lines.specs.Lines.{slot_line, end_line, max_line}
use Rattle.lines.proofs.Sizes.{header-fits, refused-fits, slot-fits}
use Rattle.history.specs.Reports.{Rows, slots, plan_room, plan_of, after, after_update, update_text}
use Rattle.history.specs.Stages.{slot_at, is_done, is_stage_of, step_text, step_to, steps_left, record_text, behind_record}
use Rattle.history.specs.Steps.{Ready}
use Rattle.history.specs.declared.Stage.{Stage}
use Rattle.history.specs.declared.Stage.TheVariants.{TooLong, Header, Reading, Listing, Done}
use Rattle.history.proofs.Updates.{accepted-fits}
use Rattle.history.proofs.Steps.{placed-parts}

-- the table keeps its size
length-stored : (part : Cell → ℕ) (row : List ℕ) (ws : List Write) → length (stored part row ws) ≡ length row
length-stored part row [] = refl
length-stored part row (w ∷ ws) = length-stored part (set row w.slot (part w.cell)) ws ∙ length-set row w.slot (part w.cell)

-- the rows of two tables have the same lengths
pub record SameSize (t t' : Rows) : Type 0 where
  pub addresses : length t'.addresses ≡ length t.addresses
  pub tags : length t'.tags ≡ length t.tags

same_size : {t : Rows} → SameSize t t
same_size = record { addresses = refl; tags = refl }

after-size : (t : Rows) (p : Planned) → SameSize t (after t p)
after-size t (refuses n q) = same_size
after-size t (writes ws) = record { addresses = length-stored _ t.addresses ws; tags = length-stored _ t.tags ws }

pub step-size : (bs : List ℕ) (s : Stage) (t : Rows) → SameSize t (step_to bs s t).table
step-size bs TooLong t = same_size
step-size bs Header t = same_size
step-size bs (Reading n at) t = go (record_at 32 bs at)
  where
    go : (r : Reply) → SameSize t (behind_record (n + 1) t r).table
    go (update u next) = after-size t (plan_of t u plan_room)
    go ended = same_size
    go (refused_at m p) = same_size
step-size bs (Listing slot) t = same_size
step-size bs Done t = same_size

-- the next stage is one of the bytes
pub step-placed : (bs : List ℕ) (s : Stage) (t : Rows) → Ready bs s t → is_stage_of (length bs) (step_to bs s t).stage ≡ true
step-placed bs TooLong t r = refl
step-placed bs Header t r = both (leb 0 0) (leb 0 (length bs)) refl (le-leb 0 (length bs) (omega arith))
step-placed bs (Reading n at) t r = go (record_at 32 bs at) refl
  where
    go : (a : Reply) → record_at 32 bs at ≡ a → is_stage_of (length bs) (behind_record (n + 1) t a).stage ≡ true
    go (update u next) e =
        let p = placed-parts r in
        let h = ahead 32 bs at e in
        both (leb (n + 1) next) (leb next (length bs)) (le-leb (n + 1) next (omega (arith, p.0, h.behind))) (le-leb next (length bs) h.within)
    go ended e = refl
    go (refused_at m p) e = refl
step-placed bs (Listing slot) t r = go (ltb slot.0 (length t.addresses))
  where
    go : (b : Bool) → is_stage_of (length bs) (cond b (Listing (slot_at (slot.0 + 1))) Done) ≡ true
    go true = refl
    go false = refl
step-placed bs Done t r = refl

pub step-ready : (bs : List ℕ) (s : Stage) (t : Rows) → Ready bs s t → Ready bs (step_to bs s t).stage (step_to bs s t).table
step-ready bs s t r =
    let h = step-size bs s t in
    record { equal = h.addresses ∙ r.equal ∙ sym h.tags; placed = step-placed bs s t r }

-- behind a record that was read and whose update was made
pub reading-ready : {bs : List ℕ} {n at : ℕ} {t : Rows} {u : Update} {next : ℕ} {t' : Rows} → Ready bs (Reading n at) t →
    update u next ≡ record_at 32 bs at → t' ≡ after_update t u → Ready bs (Reading (n + 1) next) t'
reading-ready {bs} {n} {at} {t} r e a = rw a (rw (← e) at (step-ready bs (Reading n at) t r))

-- fewer steps are left
pub step_falls : (bs : List ℕ) (s : Stage) (t : Rows) → Ready bs s t → is_done s ≡ false →
    steps_left (length bs) (length t.addresses) (step_to bs s t).stage < steps_left (length bs) (length t.addresses) s
step_falls bs TooLong t r d = omega arith
step_falls bs Header t r d = omega arith
step_falls bs (Reading n at) t r d = go (record_at 32 bs at) refl
  where
    go : (a : Reply) → record_at 32 bs at ≡ a →
        steps_left (length bs) (length t.addresses) (behind_record (n + 1) t a).stage < 2 + (length bs - at + length t.addresses)
    go (update u next) e = let h = ahead 32 bs at e in omega (arith, h.behind, h.within)
    go ended e = omega arith
    go (refused_at m p) e = omega arith
step_falls bs (Listing slot) t r d =
    by_test (ltb slot.0 (length t.addresses)) (λ e. rw e (omega (arith, ltb-true slot.0 (length t.addresses) e))) (λ e. rw e (omega arith))
step_falls bs Done t r d = let z : ◌≡◌ {A = ℕ} 0 1 = cc in absurd (omega arith)

-- a step prints one line at most
reported-fits : (nth : ℕ) (u : Update) (p : Planned) (t : Rows) → length (update_text nth u p t) ≤ max_line
reported-fits nth u (refuses n q) t = refused-fits nth n
reported-fits nth u (writes ws) t = accepted-fits nth u _ _

pub step_fits : (bs : List ℕ) (s : Stage) (t : Rows) → length (step_text bs s t) ≤ max_line
step_fits bs TooLong t = omega arith
step_fits bs Header t = header-fits (length t.addresses)
step_fits bs (Reading n at) t = go (record_at 32 bs at)
  where
    go : (a : Reply) → length (record_text (n + 1) t a) ≤ max_line
    go (update u next) = reported-fits (n + 1) u (plan_of t u plan_room) _
    go ended = omega arith
    go (refused_at m p) = refused-fits (n + 1) m
step_fits bs (Listing slot) t = go (ltb slot.0 (length t.addresses)) (is_free (get_or (slots t) slot.0 free))
  where
    go : (b f : Bool) → length (cond b (cond f [] (slot_line slot.0 (route_of (get_or (slots t) slot.0 free)))) end_line) ≤ max_line
    go true true = omega arith
    go true false = slot-fits slot.0 (route_of (get_or (slots t) slot.0 free))
    go false f = omega arith
step_fits bs Done t = omega arith
