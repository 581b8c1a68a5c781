-- One update: its plan is refused and the table stays, or it is applied whole, which an accepted plan always can be; and its line, which
-- fits, is printed.
use Prim.Native.Nat.{ℕ, ◌≤◌}
use mathlib.Core.Path.{◌≡◌, refl, ap, ◌∙◌}
use mathlib.Core.List.{List}
use native.Mathlib.Omega.{arith}
use borrow.Author.Tests.{le-ltb}
use lib.ListN.{length}
use Rattle.route.specs.Refusals.{Answer, value, refused}
use Rattle.tcam.specs.Plans.{Write, Planned, refuses, writes, plan_answer, row_after}
use Rattle.tcam.specs.Applies.{IsApplied}
use Rattle.tcam.proofs.Whole.{AppliesWhole, set-applies, remove-applies}
use Rattle.records.specs.Records.{Update, removal, setting}
use Rattle.lines.specs.Lines.{max_line, IsWritten}
use Rattle.lines.proofs.Sizes.{update-fits}
use Rattle.history.specs.Reports.{Rows, rows, plan_room, plan_of, after, accepted_text}
use Rattle.history.specs.Steps.{size_of, IsPrinted, IsUpdated}

-- an accepted plan can be applied whole
plan-applies : (t : Rows) (u : Update) (room : ℕ) {ws : List Write} → plan_of t u room ≡ writes ws → (row : List ℕ) →
    AppliesWhole 32 t.addresses t.tags ws row
plan-applies t (setting r) room e row = set-applies 32 t.addresses t.tags r.address r.length r.hop room e row
plan-applies t (removal a n) room e row = remove-applies 32 t.addresses t.tags a n room e row

-- a plan that was refused, and one that was applied whole
module _ (u : Update) (t : Rows) where
  pub updated-refused : {n q : ℕ} → refused n q ≡ plan_answer (plan_of t u plan_room) → IsUpdated u t (refused n q) t
  updated-refused {n} {q} e = record { answers = e; table = stays (plan_of t u plan_room) e }
    where
      stays : (p : Planned) → refused n q ≡ plan_answer p → t ≡ after t p
      stays (refuses m r) e = refl
      stays (writes ws) e = absurd (let z : ◌≡◌ {A = ℕ} 0 1 = cc in omega arith)

  pub updated-applied : (row : List ℕ) {k : ℕ} {answer : Answer} {ad ts : List ℕ} → value k ≡ plan_answer (plan_of t u plan_room) →
      IsApplied 32 t.addresses t.tags (row_after (plan_of t u plan_room) row) k answer ad ts → IsUpdated u t answer (rows ad ts)
  updated-applied row {k} {answer} {ad} {ts} v a =
      let h = whole (plan_of t u plan_room) refl v a in
      record { answers = h.0; table = h.1 }
    where
      whole : (p : Planned) → plan_of t u plan_room ≡ p → value k ≡ plan_answer p →
          IsApplied 32 t.addresses t.tags (row_after p row) k answer ad ts → (answer ≡ plan_answer p) × (rows ad ts ≡ after t p)
      whole (refuses m r) e v a = absurd (let z : ◌≡◌ {A = ℕ} 0 1 = cc in omega arith)
      whole (writes ws) e v a =
          let w = plan-applies t u plan_room e row in
          let same : k ≡ length ws = cc in
          let a' = rw same at a in
          (a'.answers ∙ rw w.accepted, λ i. rows ((a'.addresses ∙ w.addresses) i) ((a'.tags ∙ w.tags) i))

-- a text that fits is printed where it is the line that was written
pub line-printed : {text line buffer buffer' : List ℕ} {a : Answer} {size : ℕ} → text ≡ line → IsWritten line buffer a buffer' → size ≡ size_of a →
    length text ≤ length buffer → IsPrinted text buffer size buffer'
line-printed {text} {line} {buffer} same w s fits =
    let e = le-ltb (length buffer) (length line) (rw same at fits) in
    rw same (record { counts = s ∙ ap size_of w.answers ∙ rw e; prints = w.after ∙ rw e })

pub accepted-fits : (nth : ℕ) (u : Update) (w used : ℕ) → length (accepted_text nth u w used) ≤ max_line
accepted-fits nth (setting r) w used = update-fits nth _ _ w used (omega arith)
accepted-fits nth (removal a n) w used = update-fits nth _ _ w used (omega arith)
