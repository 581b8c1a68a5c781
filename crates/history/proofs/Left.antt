-- What is left to print at a stage is what a step prints and what is left behind it; at the start it is the whole report.
use Prim.Native.Nat.{ℕ, zero, suc, ◌+◌, ◌-◌, ◌≤◌, ◌<◌}
use mathlib.Core.Path.{◌≡◌, refl, sym, ap}
use mathlib.Core.Bool.{Bool, true, false, cond}
use mathlib.Core.List.{List, [], ◌∷◌, ◌++◌, append_assoc, append-nil}
use native.Mathlib.Nat.{sub-zero}
use native.Mathlib.Numerals.{add-one}
use native.Mathlib.Omega.{arith}
use lib.Dec.{ltb}
use lib.ListN.{length, drop, drop_of_length-le, get_or, length-replicate}
use lib.Seq.{drop-cons}
use borrow.Author.Tests.{le-ltb, ltb-true, ltb-false, eq-eqb}
use Rattle.route.proofs.Tests.{by_test}
use Rattle.tcam.specs.Slots.{free}
use Rattle.tcam.proofs.Rows.{length-cells}
use Rattle.records.specs.Records.{Reply, update, ended, refused_at, record_at}
use Rattle.records.proofs.Places.{ahead}
use Rattle.lines.specs.Lines.{header_line, end_line, too_long_line}
use Rattle.history.specs.Reports.{Rows, slots, max_input, report_slots, empty_rows, slot_text, asks, items_by, items, history, report}
use Rattle.history.specs.Stages.{slot_at, start_of, step_text, step_to, left, record_text, behind_record}
use Rattle.history.specs.Steps.{Ready}
use Rattle.history.specs.declared.Stage.{Stage}
use Rattle.history.specs.declared.Stage.TheVariants.{TooLong, Header, Reading, Listing, Done}
use Rattle.history.proofs.Steps.{placed-parts}

module _ (bs : List ℕ) where
  -- at the input's length there is no item more
  ended-there : {at : ℕ} → at ≡ length bs → record_at 32 bs at ≡ ended
  ended-there {at} e = rw (le-ltb (length bs) at (omega arith), eq-eqb at (length bs) e)

  no_items : {at : ℕ} (k : ℕ) → at ≡ length bs → items k bs at ≡ []
  no_items zero e = refl
  no_items (suc k) e = rw (ended-there e)

  -- as many items as there are bytes left, or more, are all of them
  enough-items : (k j at : ℕ) → at ≤ length bs → length bs - at ≤ k → length bs - at ≤ j → items k bs at ≡ items j bs at
  enough-items zero j at l m n = sym (no_items j (omega arith))
  enough-items (suc k) zero at l m n = no_items (suc k) (omega arith)
  enough-items (suc k) (suc j) at l m n = go (record_at 32 bs at) refl (λ next. enough-items k j next)
    where
      go : (r : Reply) → record_at 32 bs at ≡ r
          → ((next : ℕ) → next ≤ length bs → length bs - next ≤ k → length bs - next ≤ j → items k bs next ≡ items j bs next)
          → items_by (items k bs) r ≡ items_by (items j bs) r
      go (update u next) e same =
          let h = ahead 32 bs at e in
          ap (λ is. asks u ∷ is) (same next h.within (omega (arith, h.behind)) (omega (arith, h.behind)))
      go ended e same = refl
      go (refused_at m p) e same = refl

  -- the items from a place on, by what stands there
  items_at : (at : ℕ) → at ≤ length bs → items (length bs - at) bs at ≡ items_by (λ next. items (length bs - next) bs next) (record_at 32 bs at)
  items_at at l = go (length bs - at) refl
    where
      go : (k : ℕ) → length bs - at ≡ k → items k bs at ≡ items_by (λ next. items (length bs - next) bs next) (record_at 32 bs at)
      go zero e = rw (ended-there {at = at} (omega arith))
      go (suc k) e = by (record_at 32 bs at) refl
        where
          by : (r : Reply) → record_at 32 bs at ≡ r → items_by (items k bs) r ≡ items_by (λ next. items (length bs - next) bs next) r
          by (update u next) f =
              let h = ahead 32 bs at f in
              ap (λ is. asks u ∷ is) (enough-items k (length bs - next) next h.within (omega (arith, h.behind)) (omega arith))
          by ended f = refl
          by (refused_at m p) f = refl

  read_left : (n at : ℕ) (t : Rows) (r : Reply) →
      history (n + 1) t (items_by (λ next. items (length bs - next) bs next) r)
      ≡ record_text (n + 1) t r ++ left bs (behind_record (n + 1) t r).stage (behind_record (n + 1) t r).table
  read_left n at t (update u next) = refl
  read_left n at t ended = refl
  read_left n at t (refused_at m p) = refl

  -- a slot's line, and those of the slots behind it
  listed-left : (slot : ℕ) (t : Rows) → length t.addresses ≡ length t.tags →
      left bs (Listing (slot_at slot)) t ≡ step_text bs (Listing (slot_at slot)) t ++ left bs (step_to bs (Listing (slot_at slot)) t).stage t
  listed-left slot t e = by_test (ltb slot (length t.addresses)) inside past
    where
      inside : ltb slot (length t.addresses) ≡ true → left bs (Listing (slot_at slot)) t ≡ step_text bs (Listing (slot_at slot)) t ++ left bs (step_to bs (Listing (slot_at slot)) t).stage t
      inside b =
          let l : slot < length (slots t) = omega (arith, ltb-true slot (length t.addresses) b, length-cells t.addresses t.tags e) in
          let e : drop slot (slots t) ≡ get_or (slots t) slot free ∷ drop (slot + 1) (slots t) = rw (add-one slot) (drop-cons (slots t) slot free l) in
          rw (b, e) (append_assoc (slot_text slot (get_or (slots t) slot free)) _ end_line)

      past : ltb slot (length t.addresses) ≡ false → left bs (Listing (slot_at slot)) t ≡ step_text bs (Listing (slot_at slot)) t ++ left bs (step_to bs (Listing (slot_at slot)) t).stage t
      past b =
          let l : length (slots t) ≤ slot = omega (arith, ltb-false slot (length t.addresses) b, length-cells t.addresses t.tags e) in
          rw (b, drop_of_length-le (slots t) l)

  pub step_left : (s : Stage) (t : Rows) → Ready bs s t → left bs s t ≡ step_text bs s t ++ left bs (step_to bs s t).stage (step_to bs s t).table
  step_left TooLong t r = sym (append-nil too_long_line)
  step_left Header t r = rw sub-zero
  step_left (Reading n at) t r = rw (items_at at (placed-parts r).1) (read_left n at t (record_at 32 bs at))
  step_left (Listing slot) t r = listed-left slot.0 t r.equal
  step_left Done t r = refl

  -- all of the report is left at its start
  pub start_left : left bs (start_of (length bs)) (empty_rows report_slots) ≡ report bs
  start_left = go (ltb max_input (length bs))
    where
      go : (b : Bool) → left bs (cond b TooLong Header) (empty_rows report_slots)
          ≡ cond b too_long_line (header_line report_slots ++ history 1 (empty_rows report_slots) (items (length bs) bs 0))
      go true = refl
      go false = rw (length-replicate report_slots)
