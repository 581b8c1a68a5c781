-- One step: what is printed at each stage, and where it leads.
use Prim.Native.Nat.{ℕ, ◌+◌, ◌≤◌, ◌<◌}
use mathlib.Core.Path.{◌≡◌, refl}
use mathlib.Core.List.{List, []}
use lib.Dec.{leb}
use lib.ListN.{length}
use borrow.Author.Tests.{lt-ltb, le-ltb, leb-true}
use Rattle.route.proofs.Tests.{and_parts}
use Rattle.tcam.specs.Shown.{cell_at}
use Rattle.tcam.proofs.Rows.{get_or-cells}
use Rattle.records.specs.Records.{Update, update, record_at}
use Rattle.route.specs.Refusals.{Answer}
use Rattle.lines.specs.Lines.{end_line, IsWritten}
use Rattle.history.specs.Reports.{Rows, rows, slot_text, reported_text}
use Rattle.history.specs.Stages.{slot_at, step_text}
use Rattle.history.specs.Steps.{size_of, IsPrinted, Ready, stepped, IsStep}
use Rattle.history.specs.declared.Stage.{Stage}
use Rattle.history.specs.declared.Stage.TheVariants.{Reading, Listing, Done}
use Rattle.history.proofs.Updates.{line-printed}

-- a reading stage of these bytes
pub placed-parts : {bs : List ℕ} {n at : ℕ} {t : Rows} → Ready bs (Reading n at) t → (n ≤ at) × (at ≤ length bs)
placed-parts {bs} {n} {at} r = let h = and_parts (leb n at) (leb at (length bs)) r.placed in (leb-true n at h.0, leb-true at (length bs) h.1)

-- rows that are copies are as good
module _ (bs : List ℕ) (s : Stage) {ad ts ad' ts' : List ℕ} (a : ad' ≡ ad) (t : ts' ≡ ts) where
  pub printed-copy : {size : ℕ} → size ≡ length (step_text bs s (rows ad' ts')) → size ≡ length (step_text bs s (rows ad ts))
  printed-copy e = rw (a, t) at e

-- a slot's line, and that of an update, fit where the step's does
module _ {room : ℕ} where
  pub slot-fits : (slot : ℕ) (t : Rows) → slot < length t.addresses → length t.addresses ≡ length t.tags →
      length (step_text [] (Listing (slot_at slot)) t) ≤ room → length (slot_text slot (cell_at t.addresses t.tags slot)) ≤ room
  slot-fits slot t l e f = rw (lt-ltb slot (length t.addresses) l, get_or-cells t.addresses t.tags slot e l) at f

  pub update-fits : (bs : List ℕ) (n at : ℕ) (t : Rows) {u : Update} {next : ℕ} → update u next ≡ record_at 32 bs at →
      length (step_text bs (Reading n at) t) ≤ room → length (reported_text (n + 1) t u) ≤ room
  update-fits bs n at t e f = rw (← e) at f

module _ {bs : List ℕ} {buffer : List ℕ} {size : ℕ} {buffer' : List ℕ} where
  module _ (slot : ℕ) (t : Rows) where
    pub step-slot : slot < length t.addresses → length t.addresses ≡ length t.tags →
        IsPrinted (slot_text slot (cell_at t.addresses t.tags slot)) buffer size buffer' →
        IsStep bs (Listing (slot_at slot)) t buffer (stepped size (Listing (slot_at (slot + 1)))) t buffer'
    step-slot l e p =
        let inside = lt-ltb slot (length t.addresses) l in
        record { stage = rw inside; table = refl; line = rw (inside, get_or-cells t.addresses t.tags slot e l) p }

    pub step_end : {a : Answer} → length t.addresses ≤ slot → IsWritten end_line buffer a buffer' → size ≡ size_of a →
        length (step_text bs (Listing (slot_at slot)) t) ≤ length buffer → IsStep bs (Listing (slot_at slot)) t buffer (stepped size Done) t buffer'
    step_end l w s f =
        let past = le-ltb slot (length t.addresses) l in
        record { stage = rw past; table = refl; line = line-printed (rw past) w s f }
