-- The next line of a report: it is what a report goes on with, no longer than the longest one; where it does not fit a buffer, the part
-- for that buffer is empty and the table stays, and where it does, the part has it.
use Prim.Native.Nat.{ℕ, zero, suc, ◌+◌, ◌≤◌, ◌<◌}
use mathlib.Core.Path.{◌≡◌, refl, ap, ◌∙◌}
use mathlib.Core.Bool.{true, false}
use mathlib.Core.List.{List, [], ◌∷◌, ◌++◌}
use native.Mathlib.Nat.{sub-zero}
use native.Mathlib.Omega.{arith}
use lib.Dec.{ltb}
use lib.ListN.{length, length-append}
use borrow.Author.Tests.{lt-ltb, le-ltb}
use Rattle.route.specs.Rule.{Route}
use Rattle.route.proofs.Tests.{by_test, clash}
use Rattle.tcam.specs.Plans.{Planned, refuses, writes}
use Rattle.records.specs.Records.{Update, removal, setting, Reply, update, ended, refused_at, record_at}
use Rattle.lines.specs.Lines.{update_line, max_line}
use Rattle.lines.proofs.Sizes.{update-size}
use Rattle.history.specs.Reports.{Rows, plan_room, plan_of, after, accepted_text, update_text}
use Rattle.history.specs.Stages.{is_done, step_text, step_to, left, steps_left, record_text, behind_record}
use Rattle.history.specs.Fills.{printed, or_else, line_within}
use Rattle.history.specs.Steps.{Ready}
use Rattle.history.specs.declared.Stage.{Stage}
use Rattle.history.specs.declared.Stage.TheVariants.{TooLong, Header, Reading, Listing, Done}
use Rattle.history.proofs.Stages.{step-size, step-ready, step_falls, step_fits}
use Rattle.history.proofs.Left.{step_left}

-- an accepted update has a line
some-line : (nth : ℕ) (word : List ℕ) (r : Route) (w used : ℕ) → 0 < length (update_line nth word r w used)
some-line nth word r w used = omega (arith, update-size nth word r w used)

accepted-line : (nth : ℕ) (u : Update) (w used : ℕ) → 0 < length (accepted_text nth u w used)
accepted-line nth (setting r) w used = some-line nth _ r w used
accepted-line nth (removal a n) w used = some-line nth _ _ w used

-- a text with bytes is not empty
some_bytes : {xs : List ℕ} → 0 < length xs → xs ≡ [] → ⊥
some_bytes l e = omega (arith, ap length e)

module _ (bs : List ℕ) where
  -- a step without a line leaves the table, and the report is not done behind it
  silent-table : (s : Stage) (t : Rows) → step_text bs s t ≡ [] → (step_to bs s t).table ≡ t
  silent-table TooLong t e = refl
  silent-table Header t e = refl
  silent-table (Reading n at) t e = go (record_at 32 bs at) e
    where
      by : (u : Update) (p : Planned) → update_text (n + 1) u p (after t p) ≡ [] → after t p ≡ t
      by u (refuses m q) e = refl
      by u (writes ws) e = absurd (some_bytes (accepted-line (n + 1) u _ _) e)

      go : (r : Reply) → record_text (n + 1) t r ≡ [] → (behind_record (n + 1) t r).table ≡ t
      go (update u next) e = by u (plan_of t u plan_room) e
      go ended e = refl
      go (refused_at m p) e = refl
  silent-table (Listing slot) t e = refl
  silent-table Done t e = refl

  silent-goes : (s : Stage) (t : Rows) → step_text bs s t ≡ [] → is_done s ≡ false → is_done (step_to bs s t).stage ≡ false
  silent-goes TooLong t e d = absurd (some_bytes (omega arith) e)
  silent-goes Header t e d = refl
  silent-goes (Reading n at) t e d = go (record_at 32 bs at)
    where
      go : (r : Reply) → is_done (behind_record (n + 1) t r).stage ≡ false
      go (update u next) = refl
      go ended = refl
      go (refused_at m p) = refl
  silent-goes (Listing slot) t e d =
      by_test (ltb slot.0 (length t.addresses)) (λ b. rw b) (λ b. absurd (some_bytes (omega arith) (rw b at e)))
  silent-goes Done t e d = clash refl d

  -- a report that is done has no next line
  done-line : (k : ℕ) (s : Stage) (t : Rows) → is_done s ≡ true → line_within k bs s t ≡ []
  done-line zero s t d = refl
  done-line (suc k) TooLong t d = clash d refl
  done-line (suc k) Header t d = clash d refl
  done-line (suc k) (Reading n at) t d = clash d refl
  done-line (suc k) (Listing slot) t d = clash d refl
  done-line (suc k) Done t d = done-line k Done t refl

  -- no line exceeds the most
  pub line-fits : (k : ℕ) (s : Stage) (t : Rows) → length (line_within k bs s t) ≤ max_line
  line-fits zero s t = omega arith
  line-fits (suc k) s t = go (line_within k bs (step_to bs s t).stage (step_to bs s t).table) (step_text bs s t) (step_fits bs s t) (line-fits k (step_to bs s t).stage (step_to bs s t).table)
    where
      go : (other line : List ℕ) → length line ≤ max_line → length other ≤ max_line → length (or_else line other) ≤ max_line
      go other [] l m = m
      go other (b ∷ line) l m = l

  -- the report goes on with it
  pub line-next : (k : ℕ) (s : Stage) (t : Rows) → Ready bs s t → (rest : List ℕ) × (left bs s t ≡ line_within k bs s t ++ rest)
  line-next zero s t r = (left bs s t, refl)
  line-next (suc k) s t r =
      go (line_within k bs (step_to bs s t).stage (step_to bs s t).table) (step_text bs s t) (step_left bs s t r)
      (line-next k (step_to bs s t).stage (step_to bs s t).table (step-ready bs s t r))
    where
      behind : List ℕ
      behind = left bs (step_to bs s t).stage (step_to bs s t).table

      go : (other line : List ℕ) → left bs s t ≡ line ++ behind → (rest : List ℕ) × (behind ≡ other ++ rest) →
          (rest : List ℕ) × (left bs s t ≡ or_else line other ++ rest)
      go other [] e h = (h.0, e ∙ h.1)
      go other (b ∷ line) e h = (behind, e)

  -- where it does not fit: nothing is printed, and the table stays
  pub record TooShort (k room : ℕ) (s : Stage) (t : Rows) : Type 0 where
    pub text : (printed k bs room s t).text ≡ []
    pub table : (printed k bs room s t).to.table ≡ t
    pub goes : is_done (printed k bs room s t).to.stage ≡ false

  pub too_short : (k room : ℕ) (s : Stage) (t : Rows) → room < length (line_within k bs s t) → TooShort k room s t
  too_short zero room s t l = absurd (omega arith)
  too_short (suc k) room s t l =
      by_test (is_done s) (λ d. absurd (omega (arith, ap length (done-line (suc k) s t d)))) (λ d. go (step_text bs s t) refl d (too_short k room (step_to bs s t).stage (step_to bs s t).table) l)
    where
      go : (line : List ℕ) → step_text bs s t ≡ line → is_done s ≡ false →
          (room < length (line_within k bs (step_to bs s t).stage (step_to bs s t).table) → TooShort k room (step_to bs s t).stage (step_to bs s t).table) →
          room < length (or_else line (line_within k bs (step_to bs s t).stage (step_to bs s t).table)) → TooShort (suc k) room s t
      go [] e d more l =
          let h = more l in
          record {
            text = rw (d, e, le-ltb room 0 (omega arith), sub-zero room) h.text;
            table = rw (d, e, le-ltb room 0 (omega arith), sub-zero room) (h.table ∙ silent-table s t e);
            goes = rw (d, e, le-ltb room 0 (omega arith), sub-zero room) h.goes;
          }
      go (b ∷ line) e d more l =
          let stops = lt-ltb room (length (b ∷ line)) l in
          record { text = rw (d, e, stops); table = rw (d, e, stops); goes = rw (d, e, stops) d }

  -- where it fits, something is printed
  pub long-enough : (k room : ℕ) (s : Stage) (t : Rows) → Ready bs s t → steps_left (length bs) (length t.addresses) s ≤ k → is_done s ≡ false →
      length (line_within k bs s t) ≤ room → 0 < length (printed k bs room s t).text
  long-enough zero room s t r n d l = absurd (omega (arith, step_falls bs s t r d))
  long-enough (suc k) room s t r n d l =
      go (step_text bs s t) refl
      (long-enough k room (step_to bs s t).stage (step_to bs s t).table (step-ready bs s t r)
      (rw (step-size bs s t).addresses (omega (arith, step_falls bs s t r d))))
      l
    where
      go : (line : List ℕ) → step_text bs s t ≡ line →
          (is_done (step_to bs s t).stage ≡ false → length (line_within k bs (step_to bs s t).stage (step_to bs s t).table) ≤ room →
          0 < length (printed k bs room (step_to bs s t).stage (step_to bs s t).table).text) →
          length (or_else line (line_within k bs (step_to bs s t).stage (step_to bs s t).table)) ≤ room → 0 < length (printed (suc k) bs room s t).text
      go [] e more l = rw (d, e, le-ltb room 0 (omega arith), sub-zero room) (more (silent-goes s t e d) l)
      go (b ∷ line) e more l = rw (d, e, le-ltb room (length (b ∷ line)) l) (simp length-append (omega arith))
