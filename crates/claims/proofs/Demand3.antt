-- Demand 3, by induction over the calls.
--
-- What the calls keep is `Holding`: the table is the image of its book, whose rows are in order, and holds its set. Each planned set or
-- removal leads from there to there (SetCall, RemoveCall), since its writes walk the open slot from the one image to the next (Side). A
-- cut inside a walk is the table without its open slot, with one cell in two slots (Doubled): half-written, so that it breaks S5, answers
-- for the set that it holds and can be mended (Half, Mends). A refused call goes back to where it was.
use Prim.Native.Nat.{ℕ, suc, zero, ◌+◌, ◌-◌, ◌/◌, ◌≤◌, zero-le}
use mathlib.Core.Path.{◌≡◌, refl, sym, subst}
use mathlib.Core.List.{List, [], ◌∷◌, append-nil}
use mathlib.Core.Logic.{◌≢◌}
use native.Mathlib.Nat.{sub-zero}
use lib.ListN.{length, take, replicate}
use Rattle.route.specs.Rule.{Route}
use Rattle.route.specs.Refusals.{Verdict, fine, fault}
use Rattle.tcam.specs.Slots.{max_slots, Cell, cells, free}
use Rattle.tcam.specs.Plans.{Write, Planned, refuses, writes, falling}
use Rattle.tcam.specs.Applies.{stored_if, writes_in, apply_fault}
use Rattle.tcam.specs.Tables.{addresses, tags, routes_in}
use Rattle.tcam.specs.Book.{Book, book_image, empty_book, lengths}
use Rattle.claims.specs.Sequence.{after, Call, set, remove, apply_plan, apply_refused, Table, State, idle, planned, Request, set_request, remove_request}
use Rattle.claims.specs.Sequence.{table_in, after_plan, after_apply, state_after, CallClaim, Claim, empty_table, Demand3}
use Rattle.claims.proofs.Apply.{cells-back}
use Rattle.claims.proofs.Members.{Same}
use Rattle.claims.proofs.Rows.{no_rows}
use Rattle.claims.proofs.Image.{BookOk}
use Rattle.claims.proofs.Answer.{Holding, HoldsAfter, PlanHolds, table_of, sound}
use Rattle.claims.proofs.SetCall.{set-call}
use Rattle.claims.proofs.RemoveCall.{remove-call}

-- a table that holds its set is the image of its book
table_is : {W M : ℕ} {t : Table} → Holding W M t → table_of W M t.book t.routes ≡ t
table_is {W} {M} {t} h k = record { image = sym h.is_image k; book = t.book; routes = t.routes }

-- a refused apply leaves the table as it was
kept : (v : Verdict) (cs : List Cell) (ws : List Write) → v ≢ fine
    → cells (stored_if v (λ c. c.address) (addresses cs) ws) (stored_if v (λ c. c.tag) (tags cs) ws) ≡ cs
kept fine cs ws f = absurd (f refl)
kept (fault n p) cs ws f = cells-back cs

untouched : (W : ℕ) (cs : List Cell) (row : List ℕ) (k : ℕ) → apply_fault W (addresses cs) (tags cs) row k ≢ fine → after W cs row k ≡ cs
untouched W cs row k f = kept (apply_fault W (addresses cs) (tags cs) row k) cs (take k (writes_in row)) f

-- what the calls keep, at each state
abbrev HoldingIn : ℕ → ℕ → State → Type 0
HoldingIn W M (idle t) = Holding W M t
HoldingIn W M (planned p t u) = Holding W M t × Holding W M u

module _ (W M : ℕ) where
  table-holding : (s : State) → HoldingIn W M s → Holding W M (table_in s)
  table-holding (idle t) h = h
  table-holding (planned p t u) h = h.0

  apply-holding : (s : State) → HoldingIn W M s → HoldingIn W M (after_apply s)
  apply-holding (idle t) h = h
  apply-holding (planned p t u) h = h.1

  plan-holding : (s : State) (row : List ℕ) (r : Request) (p : Planned) → HoldingIn W M s → HoldsAfter W M (table_in s) row r p
      → HoldingIn W M (after_plan W s row r p)
  plan-holding (idle t) row r (refuses x y) h k = k
  plan-holding (planned p t u) row r (refuses x y) h k = (k, h.1)
  plan-holding s row r (writes ws) h k = (table-holding s h, k)

module _ (W M : ℕ) (i : 1 ≤ M) (j : M ≤ max_slots) where
  -- a set or a removal of a table that holds its set, by that of the book's image
  planning : (row : List ℕ) (request : Table → Request)
      → ((b : Book) → BookOk W M b → (rs : List Route) → Same (routes_in (book_image W M b)) rs → PlanHolds W M (table_of W M b rs) row (request (table_of W M b rs)))
      → (t : Table) → Holding W M t → PlanHolds W M t row (request t)
  planning row request call t h =
      subst (λ t. PlanHolds W M t row (request t)) (table_is h) (call t.book h.ok t.routes h.same)

  -- so it is claimed, and what the calls keep is kept
  set_holds : (a n hop : ℕ) (row : List ℕ) (t : Table) → Holding W M t → PlanHolds W M t row (set_request W M t a n hop (length row))
  set_holds a n hop row = planning row (λ t. set_request W M t a n hop (length row)) (λ b ok rs same. set-call W M i j b ok rs same a n hop row)

  remove-holds : (a n : ℕ) (row : List ℕ) (t : Table) → Holding W M t → PlanHolds W M t row (remove_request W M t a n (length row))
  remove-holds a n row = planning row (λ t. remove_request W M t a n (length row)) (λ b ok rs same. remove-call W M i j b ok rs same a n row)

  call-claim : (c : Call) (s : State) → HoldingIn W M s → CallClaim W M s c × HoldingIn W M (state_after W M s c)
  call-claim (set a n hop row) s h =
      let r = set_request W M (table_in s) a n hop (length row) in
      let k = set_holds a n hop row (table_in s) (table-holding W M s h) in
      ((k.0, k.1), plan-holding W M s row r r.plan h k.2)
  call-claim (remove a n row) s h =
      let r = remove_request W M (table_in s) a n (length row) in
      let k = remove-holds a n row (table_in s) (table-holding W M s h) in
      ((k.0, k.1), plan-holding W M s row r r.plan h k.2)
  call-claim apply_plan s h = let k = apply-holding W M s h in (sound i j (table-holding W M (after_apply s) k), k)
  call-claim (apply_refused row k) s h = (untouched W (table_in s).image row k, h)

  claim : (cs : List Call) (s : State) → HoldingIn W M s → Claim W M cs s
  claim [] s h = tt
  claim (c ∷ cs) s h = let k = call-claim c s h in (k.0, claim cs (state_after W M s c) k.1)

-- the empty table
pub empty-ok : (W M : ℕ) → BookOk W M empty_book
empty-ok W M = record {
  row = λ l. record { entries = tt; once = λ a. zero-le };
  fits = rw (no_rows (lengths W)) zero-le;
}

pub empty-is : (W M : ℕ) → replicate M free ≡ book_image W M empty_book
empty-is W M = rw (no_rows (falling (W - W / 2 + 1) (W / 2)), no_rows (falling (W + 1) 0), no_rows (falling (W / 2) 0), sub-zero, append-nil)

no-routes : (M : ℕ) → routes_in (replicate M free) ≡ []
no-routes zero = refl
no-routes (suc M) = no-routes M

pub empty-same : (W M : ℕ) → Same (routes_in (book_image W M empty_book)) []
empty-same W M = rw (← (empty-is W M), no-routes M) (record { often = λ r. refl })

pub demand3 : (W : ℕ) → Demand3 W
demand3 W M i j cs = claim W M i j cs (idle (empty_table M)) (record { is_image = empty-is W M; ok = empty-ok W M; same = empty-same W M })
