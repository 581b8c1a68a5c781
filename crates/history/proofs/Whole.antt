-- All parts of a report: each advances it by what it prints, keeps the stage and the table's size right, and leaves fewer steps where its
-- buffer has room for a line.
use Prim.Native.Nat.{ℕ, zero, suc, ◌-◌, ◌≤◌, ◌<◌}
use mathlib.Core.Path.{◌≡◌, refl, sym, ap, ◌∙◌}
use mathlib.Core.Bool.{Bool, true, false, cond, ◌||◌}
use mathlib.Core.List.Memᴰ
use mathlib.Core.List.{List, [], ◌∷◌, ◌++◌, append_assoc, append-nil}
use native.Mathlib.Nat.{le_refl}
use native.Mathlib.Omega.{arith}
use lib.Dec.{ltb}
use lib.ListN.{length, length-append, length-replicate, drop}
use mathlib.Core.Logic.{◌↔◌}
use borrow.Author.Tests.{le-ltb, ltb-false, le-leb, eq-eqb}
use Rattle.route.proofs.Tests.{by_test, clash, passed}
use Rattle.route.specs.Refusals.{Verdict, fine, fault, room_refusal}
use Rattle.route.specs.RightHop.{◌∈◌}
use Rattle.tcam.specs.Slots.{max_slots}
use Rattle.lines.specs.Lines.{max_line}
use Rattle.history.specs.Reports.{Rows, max_input, report_slots, empty_rows}
use Rattle.history.specs.Stages.{start_of, is_done, is_stage_of, Run, run, step_text, step_to, left, steps_left}
use Rattle.history.specs.Fills.{Printed, behind_text, printed, part, next_line, room_fault, fill_fault, printed_to, fill_by, fill_of, IsFill}
use Rattle.history.specs.Whole.{answered, called, parts, started, behind, WholeReport}
use Rattle.history.specs.Steps.{Ready}
use Rattle.history.specs.declared.Stage.{Stage}
use Rattle.history.specs.declared.Stage.TheVariants.{TooLong, Header, Reading, Listing, Done}
use Rattle.history.proofs.Stages.{step-size, step-ready, step_falls, step_fits}
use Rattle.history.proofs.Left.{step_left, start_left}
use Rattle.history.proofs.NextLine.{line-fits, line-next, long-enough}

-- what is left to print, and how many steps at the most
abbrev left_of : List ℕ → Run → List ℕ
left_of bs r = left bs r.stage r.table

abbrev steps_of : List ℕ → Run → ℕ
steps_of bs r = steps_left (length bs) (length r.table.addresses) r.stage

-- a text advances the report from one stage to another
pub record Advances (bs : List ℕ) (from : Run) (p : Printed) : Type 0 where
  pub ready : Ready bs p.to.stage p.to.table
  pub slots : length p.to.table.addresses ≡ length from.table.addresses
  pub steps : steps_of bs p.to ≤ steps_of bs from
  pub text : left_of bs from ≡ p.text ++ left_of bs p.to

module _ {bs : List ℕ} {from : Run} where
  stays : Ready bs from.stage from.table → Advances bs from (record { text = []; to = from })
  stays r = record { ready = r; slots = refl; steps = le_refl (steps_of bs from); text = refl }

  -- one text behind another
  advances-then : {p q : Printed} → Advances bs from p → Advances bs p.to q → Advances bs from (behind_text p.text q)
  advances-then {p} {q} a b = record {
    ready = b.ready;
    slots = b.slots ∙ a.slots;
    steps = omega (arith, a.steps, b.steps);
    text = a.text ∙ rw b.text (sym (append_assoc p.text q.text (left_of bs q.to)));
  }

module _ (bs : List ℕ) (s : Stage) (t : Rows) (r : Ready bs s t) where
  abbrev stepped : Printed
  stepped = record { text = step_text bs s t; to = step_to bs s t }

  -- a step advances it
  step-steps : is_done s ≡ false → steps_of bs (step_to bs s t) < steps_of bs (run s t)
  step-steps d = rw (step-size bs s t).addresses (step_falls bs s t r d)

  step-advances : is_done s ≡ false → Advances bs (run s t) stepped
  step-advances d = record {
    ready = step-ready bs s t r;
    slots = (step-size bs s t).addresses;
    steps = omega (arith, step-steps d);
    text = step_left bs s t r;
  }

module _ (bs : List ℕ) where
  -- a part advances it
  printed-advances : (k room : ℕ) (s : Stage) (t : Rows) → Ready bs s t → Advances bs (run s t) (printed k bs room s t)
  printed-advances zero room s t r = stays r
  printed-advances (suc k) room s t r =
      go (is_done s) (ltb room (length (step_text bs s t))) refl
      (printed-advances k (room - length (step_text bs s t)) (step_to bs s t).stage (step_to bs s t).table (step-ready bs s t r))
    where
      more : Printed
      more = printed k bs (room - length (step_text bs s t)) (step_to bs s t).stage (step_to bs s t).table

      go : (d b : Bool) → is_done s ≡ d → Advances bs (step_to bs s t) more
          → Advances bs (run s t) (cond (d || b) (record { text = []; to = run s t }) (behind_text (step_text bs s t) more))
      go true b e h = stays r
      go false true e h = stays r
      go false false e h = advances-then (step-advances bs s t r e) h

  pub part-advances : (room : ℕ) (s : Stage) (t : Rows) → Ready bs s t → Advances bs (run s t) (part bs room s t)
  part-advances room s t r = printed-advances (steps_of bs (run s t)) room s t r

  -- and further where there is room for a line
  printed-falls : (k room : ℕ) (s : Stage) (t : Rows) → Ready bs s t → is_done s ≡ false → max_line ≤ room → 0 < k →
      steps_of bs (printed k bs room s t).to < steps_of bs (run s t)
  printed-falls zero room s t r d l n = absurd (omega arith)
  printed-falls (suc k) room s t r d l n =
      let test : (is_done s || ltb room (length (step_text bs s t))) ≡ false = rw (d, le-ltb room (length (step_text bs s t)) (omega (arith, step_fits bs s t))) in
      let h = printed-advances k (room - length (step_text bs s t)) (step_to bs s t).stage (step_to bs s t).table (step-ready bs s t r) in
      rw test (omega (arith, h.steps, step-steps bs s t r d))

  pub part_falls : (room : ℕ) (s : Stage) (t : Rows) → Ready bs s t → is_done s ≡ false → max_line ≤ room →
      steps_of bs (part bs room s t).to < steps_of bs (run s t)
  part_falls room s t r d l = printed-falls (steps_of bs (run s t)) room s t r d l (omega (arith, step-steps bs s t r d))

  -- a call, refused or not, and all parts
  called-advances : (room : ℕ) (from : Run) → Ready bs from.stage from.table → Advances bs from (called bs room from)
  called-advances room from r = go (fill_fault bs from.stage from.table room)
    where
      go : (v : Verdict) → Advances bs from (answered v (part bs room from.stage from.table) from)
      go (fault n p) = stays r
      go fine = part-advances room from.stage from.table r

  parts-advance : (rooms : List ℕ) (from : Run) → Ready bs from.stage from.table → Advances bs from (parts bs rooms from)
  parts-advance [] from r = stays r
  parts-advance (room ∷ rooms) from r =
      let h = called-advances room from r in
      advances-then h (parts-advance rooms (called bs room from).to h.ready)

  -- the report is done exactly where no step is left
  no_steps : (M : ℕ) (s : Stage) → steps_left (length bs) M s ≤ 0 → is_done s ≡ true
  no_steps M TooLong l = absurd (omega arith)
  no_steps M Header l = absurd (omega arith)
  no_steps M (Reading n at) l = absurd (omega arith)
  no_steps M (Listing slot) l = absurd (omega arith)
  no_steps M Done l = refl

  done-steps : (M : ℕ) (s : Stage) → is_done s ≡ true → steps_left (length bs) M s ≡ 0
  done-steps M TooLong e = clash e refl
  done-steps M Header e = clash e refl
  done-steps M (Reading n at) e = clash e refl
  done-steps M (Listing slot) e = clash e refl
  done-steps M Done e = refl

  -- a part leaves a step less, or none
  part-fewer : (room : ℕ) (from : Run) → Ready bs from.stage from.table → max_line ≤ room → (k : ℕ) → steps_of bs from ≤ suc k →
      steps_of bs (part bs room from.stage from.table).to ≤ k
  part-fewer room from r l k n =
      by_test (is_done from.stage)
      (λ d. omega (arith, (part-advances room from.stage from.table r).steps, done-steps (length from.table.addresses) from.stage d))
      (λ d. omega (arith, part_falls room from.stage from.table r d l))

  -- with a stage that is ready and a table of a right size a buffer is refused for the next line alone
  module _ (s : Stage) (t : Rows) (r : Ready bs s t) (i : 1 ≤ length t.addresses) (j : length t.addresses ≤ max_slots) where
    fault-of-room : (room : ℕ) → fill_fault bs s t room ≡ room_fault bs s t room
    fault-of-room room =
        rw (eq-eqb (length t.addresses) (length t.tags) r.equal, le-leb 1 (length t.addresses) i, le-leb (length t.addresses) max_slots j, r.placed)

    accepts : (room : ℕ) → (fill_fault bs s t room ≡ fine) ↔ (length (next_line bs s t) ≤ room)
    accepts room = (
      λ e. ltb-false room (length (next_line bs s t)) (passed _ room_refusal 0 (sym (fault-of-room room) ∙ e)),
      λ l. fault-of-room room ∙ rw (le-ltb room (length (next_line bs s t)) l),
    )

    called-whole : (room : ℕ) → max_line ≤ room → called bs room (run s t) ≡ part bs room s t
    called-whole room l = rw ((accepts room).1 (omega (arith, line-fits bs (steps_of bs (run s t)) s t)))

  parts-end : (rooms : List ℕ) (from : Run) → Ready bs from.stage from.table → 1 ≤ length from.table.addresses →
      length from.table.addresses ≤ max_slots → ((room : ℕ) → room ∈ rooms → max_line ≤ room) →
      steps_of bs from ≤ length rooms → is_done (parts bs rooms from).to.stage ≡ true
  parts-end [] from r i j long l = no_steps (length from.table.addresses) from.stage l
  parts-end (room ∷ rooms) from r i j long l =
      let most = long room (Memᴰ.head refl) in
      let h = called-advances room from r in
      parts-end rooms (called bs room from).to h.ready (omega (arith, h.slots)) (omega (arith, h.slots))
      (λ x m. long x (Memᴰ.tail m))
      (rw (called-whole from.stage from.table r i j room most) (part-fewer room from r most (length rooms) l))

  -- nothing is left where the report is done
  done-left : (r : Run) → is_done r.stage ≡ true → left_of bs r ≡ []
  done-left r e = go r.stage e
    where
      go : (s : Stage) → is_done s ≡ true → left bs s r.table ≡ []
      go TooLong e = clash e refl
      go Header e = clash e refl
      go (Reading n at) e = clash e refl
      go (Listing slot) e = clash e refl
      go Done e = refl

  pub start-ready : (t : Rows) → length t.addresses ≡ length t.tags → Ready bs (start_of (length bs)) t
  start-ready t e = record { equal = e; placed = go (ltb max_input (length bs)) }
    where
      go : (b : Bool) → is_stage_of (length bs) (cond b TooLong Header) ≡ true
      go true = refl
      go false = refl

  pub whole_report : (rooms : List ℕ) → WholeReport bs rooms
  whole_report rooms =
      let all = parts bs rooms (started bs) in
      let to = behind bs rooms in
      let r = start-ready (empty_rows report_slots) refl in
      let h = parts-advance rooms (started bs) r in
      let slots : length (empty_rows report_slots).addresses ≡ report_slots = length-replicate {A = ℕ} report_slots 0 in
      let size : length to.table.addresses ≡ report_slots = h.slots ∙ slots in
      let more = line-next bs (steps_of bs to) to.stage to.table h.ready in
      let accepts = accepts to.stage to.table h.ready (omega arith) (omega arith) in
      record {
        goes_on = (more.0, sym (start_left bs) ∙ h.text ∙ ap (λ l. all.text ++ l) more.1);
        accepted = accepts;
        prints = λ room l d. long-enough bs (steps_of bs to) room to.stage to.table h.ready (le_refl (steps_of bs to)) d l;
        lines = line-fits bs (steps_of bs to) to.stage to.table;
        whole = λ d. sym (append-nil all.text) ∙ ap (λ l. all.text ++ l) (sym (done-left to d)) ∙ sym h.text ∙ start_left bs;
        ends = λ long l. parts-end rooms (started bs) r (omega (arith, slots)) (omega (arith, slots)) long (rw slots l);
      }

-- what a caller knows of a part that was not refused: it stands in the buffer, and the next call can go on from there
pub record NextPart (bs : List ℕ) (s : Stage) (t : Rows) (buffer : List ℕ) (size : ℕ) (s' : Stage) (t' : Rows) (buffer' : List ℕ) : Type 0 where
  pub ready : Ready bs s' t'
  pub slots : length t'.addresses ≡ length t.addresses
  pub fits : size ≤ length buffer'
  pub falls : is_done s ≡ false → max_line ≤ length buffer → steps_left (length bs) (length t.addresses) s' < steps_left (length bs) (length t.addresses) s

module _ {bs : List ℕ} {s : Stage} {t : Rows} {buffer : List ℕ} {size : ℕ} {s' : Stage} {t' : Rows} {buffer' : List ℕ} where
  pub next-part : Ready bs s t → IsFill (fill_of bs s t buffer) (printed_to size s') t' buffer' → NextPart bs s t buffer size s' t' buffer'
  next-part r h = go (fill_fault bs s t (length buffer)) h
    where
      p : Printed
      p = part bs (length buffer) s t

      go : (v : Verdict) → IsFill (fill_by v p t buffer) (printed_to size s') t' buffer' → NextPart bs s t buffer size s' t' buffer'
      go (fault n q) h = absurd (let z : ◌≡◌ {A = ℕ} 0 1 = cc h.answers in omega arith)
      go fine h =
          let advances = part-advances bs (length buffer) s t r in
          let stage : s' ≡ p.to.stage = cc h.answers in
          let counts : size ≡ length p.text = cc h.answers in
          record {
            ready = rw (stage, h.table) advances.ready;
            slots = rw h.table advances.slots;
            fits = rw (counts, h.prints) (omega (arith, length-append p.text (drop (length p.text) buffer)));
            falls = λ d l. rw stage (rw advances.slots at (part_falls bs (length buffer) s t r d l));
          }
