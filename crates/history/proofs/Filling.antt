-- The loop that fills a buffer: what the definition says of the steps that are left is what it says of the whole part. Where it ends with
-- nothing printed and the report is not done, the next line does not fit.
use Prim.Native.Nat.{ℕ, zero, suc, ◌+◌, ◌-◌, ◌≤◌}
use mathlib.Core.Path.{◌≡◌, refl, sym, ap, ◌∙◌}
use mathlib.Core.Bool.{Bool, true, false, not, ◌&&◌, ◌||◌}
use mathlib.Core.List.{List, [], ◌++◌, append_assoc, append-nil}
use native.Mathlib.Nat.{le_refl, sub-zero}
use native.Mathlib.Omega.{arith}
use lib.Dec.{eqb, leb, ltb}
use lib.ListN.{length, length-append, length-drop, take, drop, take-append-drop}
use lib.Seq.{drop-drop, take_at, drop_at, length-take-le}
use borrow.Author.Tests.{le-ltb, lt-leb, le-leb, eqb-true, ltb-true, ltb-false, not-true}
use borrow.Rule.Slice.PartMut.{mid_of, put_mid}
use Rattle.route.proofs.Tests.{by_test, clash, and_parts}
use Rattle.route.proofs.Parts.{part-tail, put-tail}
use Rattle.route.specs.Refusals.{room_refusal}
use Rattle.history.specs.Reports.{Rows}
use Rattle.history.specs.Stages.{is_done, run, step_text, step_to, steps_left}
use Rattle.history.specs.Fills.{printed, part, next_line, room_fault, printed_to, refused_fill, fill_with, IsFill}
use Rattle.history.specs.Steps.{Ready, IsStep}
use Rattle.history.specs.declared.Stage.{Stage}
use Rattle.history.specs.declared.step.Stepped.{Stepped}
use Rattle.history.proofs.Stages.{step-size, step-ready, step_falls}
use Rattle.history.proofs.NextLine.{too_short, long-enough}

-- the part up to byte `at` of the buffer is printed, and the report has come to the stage s; at most k steps are left
pub record Filling (bs : List ℕ) (s₀ : Stage) (t₀ : Rows) (buffer₀ : List ℕ) (s : Stage) (t : Rows) (buffer : List ℕ) (at : ℕ) : Type 0 where
  pub most : ℕ
  pub enough : steps_left (length bs) (length t.addresses) s ≤ most
  pub ready : Ready bs s t
  pub size : length buffer ≡ length buffer₀
  pub within : at ≤ length buffer₀
  pub behind : drop at buffer ≡ drop at buffer₀
  pub text : take at buffer ++ (printed most bs (length buffer₀ - at) s t).text ≡ (part bs (length buffer₀) s₀ t₀).text
  pub to : (printed most bs (length buffer₀ - at) s t).to ≡ (part bs (length buffer₀) s₀ t₀).to

pub filling-start : {bs : List ℕ} {s : Stage} {t : Rows} {buffer : List ℕ} → Ready bs s t → Filling bs s t buffer s t buffer 0
filling-start {bs} {s} {t} r = record {
  most = steps_left (length bs) (length t.addresses) s;
  enough = le_refl (steps_left (length bs) (length t.addresses) s);
  ready = r;
  size = refl;
  within = omega arith;
  behind = refl;
  text = rw sub-zero;
  to = rw sub-zero;
}

-- nothing more is printed where the report is done, or where the step's line does not fit
printed-stop : (k : ℕ) (bs : List ℕ) (room : ℕ) (s : Stage) (t : Rows) → (is_done s || ltb room (length (step_text bs s t))) ≡ true →
    printed k bs room s t ≡ record { text = []; to = run s t }
printed-stop zero bs room s t e = refl
printed-stop (suc k) bs room s t e = rw e

module _ {bs : List ℕ} {s₀ : Stage} {t₀ : Rows} {buffer₀ : List ℕ} {s : Stage} {t : Rows} {buffer : List ℕ} {at : ℕ}
    (f : Filling bs s₀ t₀ buffer₀ s t buffer at) where
  abbrev line : List ℕ
  line = step_text bs s t

  -- the buffer behind the step, in two parts
  abbrev before : List ℕ
  before = take at buffer ++ line

  abbrev rest : List ℕ
  rest = drop (length line) (drop at buffer)

  turned : is_done s ≡ false → length line ≤ length buffer - at →
      Filling bs s₀ t₀ buffer₀ (step_to bs s t).stage (step_to bs s t).table (before ++ rest) (at + length line)
  turned d l = go f.most f.enough f.text f.to
    where
      reaches : length before ≡ at + length line
      reaches = length-append (take at buffer) line ∙ rw (length-take-le at buffer (omega (arith, f.size, f.within)))

      go : (k : ℕ) → steps_left (length bs) (length t.addresses) s ≤ k
          → take at buffer ++ (printed k bs (length buffer₀ - at) s t).text ≡ (part bs (length buffer₀) s₀ t₀).text
          → (printed k bs (length buffer₀ - at) s t).to ≡ (part bs (length buffer₀) s₀ t₀).to
          → Filling bs s₀ t₀ buffer₀ (step_to bs s t).stage (step_to bs s t).table (before ++ rest) (at + length line)
      go zero n x y = absurd (omega (arith, step_falls bs s t f.ready d))
      go (suc k) n x y =
          let goes : (is_done s || ltb (length buffer₀ - at) (length line)) ≡ false = rw (d, le-ltb (length buffer₀ - at) (length line) (omega (arith, f.size))) in
          let e : length buffer₀ - at - length line ≡ length buffer₀ - (at + length line) = omega arith in
          let x' = rw (goes, e) at x in
          record {
            most = k;
            enough = rw (step-size bs s t).addresses (omega (arith, step_falls bs s t f.ready d));
            ready = step-ready bs s t f.ready;
            size = length-append before rest ∙ omega (arith, reaches, length-drop (length line) (drop at buffer), length-drop at buffer, f.size, f.within);
            within = omega (arith, f.size, f.within);
            behind = drop_at before rest (at + length line) reaches ∙ rw f.behind (drop-drop (length line) at buffer₀);
            text = rw (take_at before rest (at + length line) reaches, append_assoc) x';
            to = rw (goes, e) at y;
          }

  -- the part that is lent to the step, and the buffer with what the step left in it
  pub lent : length (mid_of at (length buffer - at) buffer) ≡ length buffer - at
  lent = rw (part-tail at buffer) (length-drop at buffer)

  pub filling-turn : {r : Stepped} {t' : Rows} {part' : List ℕ} → is_done s ≡ false → length (step_text bs s t) ≤ length buffer - at →
      IsStep bs s t (mid_of at (length buffer - at) buffer) r t' part' →
      Filling bs s₀ t₀ buffer₀ r.stage t' (put_mid at (length buffer - at) buffer part') (at + r.size)
  filling-turn d l h =
      let h' = rw (part-tail at buffer) at h in
      let e = append_assoc (take at buffer) line rest in
      rw (put-tail at buffer _, h'.stage, h'.table, h'.line.prints, h'.line.counts, ← e) (turned d l)

  -- the loop has ended
  module _ (stop : (is_done s || ltb (length buffer - at) (length (step_text bs s t))) ≡ true) where
    whole : printed f.most bs (length buffer₀ - at) s t ≡ record { text = []; to = run s t }
    whole = printed-stop f.most bs (length buffer₀ - at) s t (rw f.size at stop)

    text : take at buffer ≡ (part bs (length buffer₀) s₀ t₀).text
    text = sym (append-nil (take at buffer)) ∙ rw whole at f.text

    to : run s t ≡ (part bs (length buffer₀) s₀ t₀).to
    to = rw whole at f.to

    size : length (take at buffer) ≡ at
    size = length-take-le at buffer (omega (arith, f.size, f.within))

    -- the next line fits, unless nothing is printed and the report is not done
    pub filling-end : (eqb at 0 && not (is_done s)) ≡ false →
        IsFill (fill_with (room_fault bs s₀ t₀ (length buffer₀)) bs s₀ t₀ buffer₀) (printed_to at s) t buffer
    filling-end some =
        by_test (ltb (length buffer₀) (length (next_line bs s₀ t₀)))
        (λ b.
        let h = too_short bs (steps_left (length bs) (length t₀.addresses) s₀) (length buffer₀) s₀ t₀ (ltb-true _ _ b) in
        let none : at ≡ 0 = sym size ∙ ap length (text ∙ h.text) in
        let goes : is_done s ≡ false = ap (λ r. is_done r.stage) to ∙ h.goes in
        clash refl (rw (none, goes) at some))
        (λ b.
        rw b
        (record {
          answers = rw (← text, size, ← to);
          table = ap (λ r. r.table) to;
          prints = rw (← text, size, ← f.behind) (sym (take-append-drop at buffer));
        }))

    pub filling-refused : Ready bs s₀ t₀ → (eqb at 0 && not (is_done s)) ≡ true →
        IsFill (fill_with (room_fault bs s₀ t₀ (length buffer₀)) bs s₀ t₀ buffer₀) (refused_fill room_refusal 0) t buffer
    filling-refused r none =
        let p = and_parts (eqb at 0) (not (is_done s)) none in
        let empty = eqb-true at 0 p.0 in
        let goes = not-true (is_done s) p.1 in
        let k = steps_left (length bs) (length t₀.addresses) s₀ in
        by_test (ltb (length buffer₀) (length (next_line bs s₀ t₀)))
        (λ b.
        let h = too_short bs k (length buffer₀) s₀ t₀ (ltb-true _ _ b) in
        rw b (record { answers = refl; table = ap (λ r. r.table) to ∙ h.table; prints = rw empty at f.behind }))
        (λ b.
        by_test (is_done s₀)
        (λ d.
        let stays = printed-stop k bs (length buffer₀) s₀ t₀ (rw d) in
        clash (ap (λ r. is_done r.stage) (to ∙ ap (λ p. p.to) stays) ∙ d) goes)
        (λ d.
        let some = long-enough bs k (length buffer₀) s₀ t₀ r (le_refl k) d (ltb-false _ _ b) in
        absurd (omega (arith, some, size, ap length text))))

-- the loop's test: the report is not done, and the step's line, of n bytes, fits
module _ {d : Bool} (goes : d ≡ false) where
  pub roomy : {room most n : ℕ} → most ≤ room → n ≤ most → true ≡ not (d || ltb room n)
  roomy {room} {most} {n} l m = rw (goes, le-ltb room n (omega arith))

  pub by_size : (room n : ℕ) {size : ℕ} → size ≡ n → leb size room ≡ not (d || ltb room n)
  by_size room n e =
      by_test (ltb room n) (λ b. rw (goes, e, b, lt-leb n room (ltb-true room n b))) (λ b. rw (goes, e, b, le-leb n room (ltb-false room n b)))

-- what the test says where it is true
pub goes_on_lem : (b : Bool) (room n : ℕ) → not (b || ltb room n) ≡ true → (b ≡ false) × (n ≤ room)
goes_on_lem true room n e = clash e refl
goes_on_lem false room n e = (refl, ltb-false room n (not-true (ltb room n) e))

-- a step's size, where its line fits
pub stepped-fits : {bs : List ℕ} {s : Stage} {t : Rows} {buffer : List ℕ} {r : Stepped} {t' : Rows} {buffer' : List ℕ} {room : ℕ} →
    IsStep bs s t buffer r t' buffer' → length (step_text bs s t) ≤ room → r.size ≤ room
stepped-fits h l = omega (arith, h.line.counts)
