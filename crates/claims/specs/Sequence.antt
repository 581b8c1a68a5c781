-- Demand 3: one claim about any sequence of calls on a table that starts empty.
--
-- A sequence is a list of calls: planned sets, planned removals, applies of an accepted plan, and applies that are refused. The claim is
-- a type by recursion over that list. At each set or removal it says that the plan answers as the book does; that a refused one leaves
-- the table sound; and that an accepted one is bounded, is right at every cut and can be mended there, and breaks a rule at each cut
-- between its first write and its last. At each apply of a plan it says that the table is sound again: the image of the book, and a
-- table of its set; at each refused apply, that the table is as it was. The claim goes on after every call.
use Rattle.std.specs.Prelude.{ℕ, ◌≤◌, ◌<◌, ◌≡◌, ◌≢◌, cond, ◌&&◌, List, [], ◌∷◌, ltb, eqb, length, replicate}
use Rattle.route.specs.Rule.{Route, route, answer}
use Rattle.route.specs.Refusals.{fine, value}
use Rattle.route.specs.RightHop.{Right}
use Rattle.route.specs.Lists.{has_prefix}
use Rattle.tcam.specs.Slots.{max_slots, Cell, free, image_fault}
use Rattle.tcam.specs.Tables.{addresses, tags, TableOf}
use Rattle.tcam.specs.Plans.{Write, Planned, refuses, writes, most_to_set, most_to_remove, plan_set, plan_remove, plan_answer, row_after}
use Rattle.tcam.specs.Applies.{apply_fault, apply_answer}
use Rattle.tcam.specs.Book.{Book, BookAnswer, empty_book, book_image, book_set, book_remove}
use Rattle.claims.specs.Mending.{Mendable}
pub use Rattle.claims.specs.Mending.{after, looked_up}

-- the calls of a sequence
pub data Call : Type 0 where
  -- plan a set or a removal, into a lent row that holds anything
  set : (a n h : ℕ) (row : List ℕ) → Call
  remove : (a n : ℕ) (row : List ℕ) → Call
  -- apply the accepted plan that waits, whole, from the row as it was left; where none waits there is nothing to apply
  apply_plan : Call
  -- apply anything that is refused; what is not refused is no call of a sequence, and is not made
  apply_refused : (row : List ℕ) (k : ℕ) → Call

-- a set without a prefix
abbrev pub without : ℕ → ℕ → List Route → List Route
without a n [] = []
without a n (r ∷ rs) = cond (eqb r.address a && eqb r.length n) (without a n rs) (r ∷ without a n rs)

-- the table, its book, and the set that the accepted updates say
pub record Table : Type 0 where
  pub image : List Cell
  pub book : Book
  pub routes : List Route

-- a plan that was accepted: its row, how many writes, and the first write from which lookups answer for the set after
pub record Plan : Type 0 where
  pub row : List ℕ
  pub writes : ℕ
  pub switch : ℕ

-- a table, or an accepted plan that waits for its apply, with the table before and after it
pub data State : Type 0 where
  idle : Table → State
  planned : Plan → (before after : Table) → State

-- the table is the book's image, of M slots, and a table of its set
pub record Sound (W M : ℕ) (t : Table) : Type 0 where
  pub is_image : t.image ≡ book_image W M t.book
  pub sized : length t.image ≡ M
  pub is_table : TableOf W t.routes (addresses t.image) (tags t.image)

-- the first k writes of the plan: the apply answers k, a lookup answers for the set before, from the switch on for the set after, and
-- the half-written image is mended to a table of that set
pub record Cut (W : ℕ) (p : Plan) (before next : Table) (k : ℕ) : Type 0 where
  pub answers : apply_answer W (addresses before.image) (tags before.image) p.row k ≡ value k
  pub looks_up :
      (q : ℕ) →
      looked_up W (after W before.image p.row k) q
      ≡ value (cond (ltb k p.switch) (answer W before.routes q) (answer W next.routes q))
  pub mends : Mendable W (cond (ltb k p.switch) before.routes next.routes) (after W before.image p.row k)

-- an accepted plan: bounded, right answers before and after, every cut, and a broken rule between its first write and its last
pub record AcceptedPlan (W most : ℕ) (p : Plan) (before next : Table) : Type 0 where
  pub bounded : p.writes ≤ most
  pub right_before : (q : ℕ) → Right W before.routes q (answer W before.routes q)
  pub right_after : (q : ℕ) → Right W next.routes q (answer W next.routes q)
  pub cuts : (k : ℕ) → k ≤ p.writes → Cut W p before next k
  -- with some of its writes made, and not all, the table breaks a rule: updates refuse it with 7 until the plan is made to its end
  pub unfinished : (k : ℕ) → 1 ≤ k → k < p.writes → image_fault W 0 [] (after W before.image p.row k) ≢ fine

-- a set or a removal: its plan, the book's answer, the set after it if it is accepted, the first of so many writes from which
-- lookups answer for that set, and the most writes
pub record Request : Type 0 where
  pub plan : Planned
  pub booked : BookAnswer
  pub routes : List Route
  pub switch : ℕ → ℕ
  pub most : ℕ

-- a set of an absent prefix changes the answers at its last write, every other plan at its first
abbrev pub set_request : ℕ → ℕ → Table → ℕ → ℕ → ℕ → ℕ → Request
set_request W M t a n h room = record {
  plan = plan_set W (addresses t.image) (tags t.image) a n h room;
  booked = book_set W M t.book a n h room;
  routes = route a n h ∷ without a n t.routes;
  switch = λ w. cond (has_prefix (route a n h) t.routes) 1 w;
  most = most_to_set W;
}

abbrev pub remove_request : ℕ → ℕ → Table → ℕ → ℕ → ℕ → Request
remove_request W M t a n room = record {
  plan = plan_remove W (addresses t.image) (tags t.image) a n room;
  booked = book_remove W M t.book a n room;
  routes = without a n t.routes;
  switch = λ w. 1;
  most = most_to_remove W;
}

-- the table after a refusal: its book is the one that the book's answer leaves
abbrev pub refused_table : Table → Request → Table
refused_table t r = record { image = t.image; book = r.booked.book; routes = t.routes }

-- an accepted plan in its row, and the table after the whole of it
abbrev pub plan_in : List ℕ → Request → List Write → Plan
plan_in row r ws = record { row = row_after (writes ws) row; writes = length ws; switch = r.switch (length ws) }

abbrev pub planned_table : ℕ → Table → List ℕ → Request → List Write → Table
planned_table W t row r ws = record {
  image = after W t.image (row_after (writes ws) row) (length ws);
  book = r.booked.book;
  routes = r.routes;
}

-- what holds of a plan: refused, the table is sound; accepted, it is an accepted plan
abbrev pub Held : ℕ → ℕ → Table → List ℕ → Request → Planned → Type 0
Held W M t row r (refuses n p) = Sound W M (refused_table t r)
Held W M t row r (writes ws) = AcceptedPlan W r.most (plan_in row r ws) t (planned_table W t row r ws)

-- a set or a removal answers as the book does, and its plan holds
abbrev pub PlanClaim : ℕ → ℕ → Table → List ℕ → Request → Type 0
PlanClaim W M t row r = (plan_answer r.plan ≡ r.booked.answer) × Held W M t row r r.plan

-- an apply that is refused leaves the table as it was
abbrev pub RefusedApply : ℕ → Table → List ℕ → ℕ → Type 0
RefusedApply W t row k = apply_fault W (addresses t.image) (tags t.image) row k ≢ fine → after W t.image row k ≡ t.image

-- the table that a call finds, and the same state with another one
abbrev pub table_in : State → Table
table_in (idle t) = t
table_in (planned p t t') = t

abbrev pub with_table : State → Table → State
with_table (idle t) u = idle u
with_table (planned p t t') u = planned p u t'

-- where a plan leads: refused, the calls go on where they stood; accepted, the plan waits, in place of one that waited before
abbrev pub after_plan : ℕ → State → List ℕ → Request → Planned → State
after_plan W s row r (refuses n p) = with_table s (refused_table (table_in s) r)
after_plan W s row r (writes ws) = planned (plan_in row r ws) (table_in s) (planned_table W (table_in s) row r ws)

-- and an apply of the plan that waits
abbrev pub after_apply : State → State
after_apply (idle t) = idle t
after_apply (planned p t t') = idle t'

-- what is claimed of a call at each state, and the state that it leads to
abbrev pub CallClaim : ℕ → ℕ → State → Call → Type 0
CallClaim W M s (set a n h row) = PlanClaim W M (table_in s) row (set_request W M (table_in s) a n h (length row))
CallClaim W M s (remove a n row) = PlanClaim W M (table_in s) row (remove_request W M (table_in s) a n (length row))
CallClaim W M s apply_plan = Sound W M (table_in (after_apply s))
CallClaim W M s (apply_refused row k) = RefusedApply W (table_in s) row k

abbrev pub state_after : ℕ → ℕ → State → Call → State
state_after W M s (set a n h row) = let r = set_request W M (table_in s) a n h (length row) in after_plan W s row r r.plan
state_after W M s (remove a n row) = let r = remove_request W M (table_in s) a n (length row) in after_plan W s row r r.plan
state_after W M s apply_plan = after_apply s
state_after W M s (apply_refused row k) = s

-- the claim about the calls that are left, and the state that some calls lead to
abbrev pub Claim : ℕ → ℕ → List Call → State → Type 0
Claim W M [] s = Unit {0}
Claim W M (c ∷ cs) s = CallClaim W M s c × Claim W M cs (state_after W M s c)

abbrev pub reached : ℕ → ℕ → State → List Call → State
reached W M s [] = s
reached W M s (c ∷ cs) = reached W M (state_after W M s c) cs

-- M free slots, an empty book, no routes
abbrev pub empty_table : ℕ → Table
empty_table M = record { image = replicate M free; book = empty_book; routes = [] }

abbrev pub Demand3 : ℕ → Type 0
Demand3 W =
    (M : ℕ) → 1 ≤ M → M ≤ max_slots → (cs : List Call) → Claim W M cs (idle (empty_table M))
