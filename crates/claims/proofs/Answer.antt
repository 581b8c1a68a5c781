-- What a planned set or removal answers and leads to: a refusal, or an accepted plan.
use Prim.Native.Nat.{ℕ, ◌*◌, ◌≤◌}
use mathlib.Core.Path.{◌≡◌, refl, sym, ap, subst, ◌∙◌}
use mathlib.Core.Bool.{Bool, true, false, cond}
use mathlib.Core.List.{List}
use native.Mathlib.Nat.{le_refl, le_of_lt}
use lib.Dec.{ltb}
use lib.ListN.{length, take}
use lib.Seq.{take-length}
use Rattle.route.specs.Rule.{Route, answer}
use Rattle.route.specs.Refusals.{fine, value, refused, room_refusal}
use Rattle.tcam.specs.Slots.{max_slots, Cell, first_match}
use Rattle.tcam.specs.Plans.{Write, Planned, refuses, writes, plan_answer, with_room, row_after}
use Rattle.tcam.specs.Applies.{written}
use Rattle.tcam.specs.Book.{Book, BookAnswer, book_image, settled}
use Rattle.tcam.specs.Tables.{addresses, tags, routes_in, TableOf}
use Rattle.claims.specs.Mending.{Mendable}
use Rattle.claims.specs.Sequence.{Table, Plan, Request, Sound, AcceptedPlan, Held, refused_table, planned_table, after, looked_up}
use Rattle.tcam.proofs.Whole.{Makeable}
use Rattle.claims.proofs.Image.{BookOk}
use Rattle.claims.proofs.Form.{well-formed, image-length}
use Rattle.claims.proofs.Members.{Same, same-members}
use Rattle.claims.proofs.Apply.{cells-back, no-size-fault, answers-k, after_is, looked-up, length-written}
use Rattle.claims.proofs.Half.{Half, half-ordered, half-right, half-answers, half-book}
use Rattle.claims.proofs.Mends.{mendable}
use Rattle.claims.proofs.Cuts.{Leads}

-- the table is the image of a book that keeps its rows, and holds its set
pub record Holding (W M : ℕ) (t : Table) : Type 0 where
  pub is_image : t.image ≡ book_image W M t.book
  pub ok : BookOk W M t.book
  pub same : Same (routes_in (book_image W M t.book)) t.routes

-- a set or a removal keeps this: refused, of the table as it was; accepted, of the table after the plan
abbrev pub HoldsAfter : ℕ → ℕ → Table → List ℕ → Request → Planned → Type 0
HoldsAfter W M t row r (refuses n p) = Holding W M (refused_table t r)
HoldsAfter W M t row r (writes ws) = Holding W M (planned_table W t row r ws)

-- the claim of a request, and what it keeps
abbrev pub PlanHolds : ℕ → ℕ → Table → List ℕ → Request → Type 0
PlanHolds W M t row r = (plan_answer r.plan ≡ r.booked.answer) × Held W M t row r r.plan × HoldsAfter W M t row r r.plan

-- the image of such a book is a table of the set
pub image-table : (W M : ℕ) → 1 ≤ M → M ≤ max_slots → (b : Book) → BookOk W M b → (rs : List Route) → Same (routes_in (book_image W M b)) rs
    → TableOf W rs (addresses (book_image W M b)) (tags (book_image W M b))
image-table W M i j b ok rs same = record {
  sized = no-size-fault (book_image W M b) (rw (image-length W M b ok) i) (rw (image-length W M b ok) j);
  well_formed = rw cells-back (well-formed W M b ok);
  exactly = λ r. rw cells-back (same-members same r);
}

pub sound : {W M : ℕ} → 1 ≤ M → M ≤ max_slots → {t : Table} → Holding W M t → Sound W M t
sound {W} {M} i j {t} h = record {
  is_image = h.is_image;
  sized = rw h.is_image (image-length W M t.book h.ok);
  is_table = rw h.is_image (image-table W M i j t.book h.ok t.routes h.same);
}

abbrev pub table_of : ℕ → ℕ → Book → List Route → Table
table_of W M b rs = record { image = book_image W M b; book = b; routes = rs }

module _ (W M : ℕ) (i : 1 ≤ M) (j : M ≤ max_slots) (b : Book) (ok : BookOk W M b) (rs : List Route) (same : Same (routes_in (book_image W M b)) rs) where
  pub holding : Holding W M (table_of W M b rs)
  holding = record { is_image = refl; ok = ok; same = same }

  module _ (ws : List Write) (next : Book) (next_routes : List Route) (switch : ℕ) (l : Leads W M b rs ws next next_routes switch) (row : List ℕ) where
    abbrev plan : Plan
    plan = record { row = row_after (writes ws) row; writes = length ws; switch = switch }

    abbrev next_table : Table
    next_table = record { image = after W (book_image W M b) plan.row (length ws); book = next; routes = next_routes }

    cs-good : Makeable W (length (book_image W M b)) ws
    cs-good = rw (image-length W M b ok) l.good

    low : 1 ≤ length (book_image W M b)
    low = rw (image-length W M b ok) i

    high : length (book_image W M b) ≤ max_slots
    high = rw (image-length W M b ok) j

    pub holding-next : Holding W M next_table
    holding-next = record {
      is_image = after_is W (book_image W M b) low high ws cs-good row (length ws) (le_refl (length ws)) ∙ rw take-length l.whole;
      ok = l.ok;
      same = l.same;
    }

    -- the table after k writes
    abbrev cut : ℕ → List Cell
    cut k = written (book_image W M b) (take k ws)

    answers : (cs : List Cell) (q : ℕ) (t : Bool) → Half W (cond t rs next_routes) cs
        → first_match W cs q ≡ cond t (answer W rs q) (answer W next_routes q)
    answers cs q true h = half-answers cs h q
    answers cs q false h = half-answers cs h q

    pub accepted_plan : (most : ℕ) → length ws ≤ most → AcceptedPlan W most plan (table_of W M b rs) next_table
    accepted_plan most m = record {
      bounded = m;
      right_before = half-right (half-book W M b ok rs (same-members same));
      right_after = half-right (half-book W M next l.ok next_routes (same-members l.same));
      cuts = λ k n. record {
        answers = answers-k W (book_image W M b) low high ws cs-good row k n;
        looks_up = λ q. ap (λ (cs : List Cell). looked_up W cs q) (after_is W (book_image W M b) low high ws cs-good row k n)
            ∙ looked-up W (cut k) (rw length-written low) (rw length-written high) (half-ordered (l.halves k n)).keeps q
            ∙ ap value (answers (cut k) q (ltb k switch) (l.halves k n));
        mends = subst (Mendable W (cond (ltb k switch) rs next_routes)) (sym (after_is W (book_image W M b) low high ws cs-good row k n))
            (mendable W _ (cut k) (rw length-written low) (rw length-written high) (l.halves k n));
      };
      unfinished = λ k m n.
          rw (after_is W (book_image W M b) low high ws cs-good row k (le_of_lt n)) (l.unfinished k m n);
    }

  module _ (most : ℕ) (row : List ℕ) (switch : ℕ → ℕ) (next_routes : List Route) where
    -- what is shown of such a request, by its plan and the book's answer
    abbrev pub Answered : Planned → BookAnswer → Type 0
    Answered p e = PlanHolds W M (table_of W M b rs) row (record { plan = p; booked = e; routes = next_routes; switch = switch; most = most })

    pub answers-refused : (x y : ℕ) → Answered (refuses x y) (record { answer = refused x y; book = b })
    answers-refused x y = (refl, sound i j holding, holding)

    pub answers-room : (ws : List Write) (next : Book) (w : ℕ) → Leads W M b rs ws next next_routes (switch (length ws)) → length ws ≡ w → w ≤ most
        → Answered (with_room (length row) fine ws) (settled fine (length row) w b next)
    answers-room ws next w l e m = rw (← e) (go (ltb (length row) (3 * length ws)))
      where
        go : (t : Bool) → Answered (cond t (refuses room_refusal 0) (writes ws))
            (cond t (record { answer = refused room_refusal 0; book = b }) (record { answer = value (length ws); book = next }))
        go true = answers-refused room_refusal 0
        go false = (
          refl,
          accepted_plan ws next next_routes (switch (length ws)) l row most (rw e m),
          holding-next ws next next_routes (switch (length ws)) l row,
        )
