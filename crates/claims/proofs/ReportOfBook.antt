-- The report from the book, by induction over the items: the table's rows are at every time those of the book's image. An update's plan
-- answers as the book does and leads to the next book's image, by the calls of demand 3, since an accepted plan is applied whole; and the
-- image has as many used slots as the book has entries.
use Prim.Native.Nat.{ℕ, zero, suc, ◌+◌, ◌≤◌}
use mathlib.Core.Path.{◌≡◌, refl, sym, ap, ap₂, subst, ◌∙◌}
use mathlib.Core.Bool.{Bool, true, false, cond}
use mathlib.Core.List.{List, [], ◌∷◌, ◌++◌, map}
use native.Mathlib.Omega.{arith}
use lib.Dec.{ltb}
use lib.ListN.{length, replicate, length-replicate}
use Rattle.route.specs.Rule.{Route}
use Rattle.tcam.specs.Slots.{max_slots, Cell, cells, free, is_free, used_in}
use Rattle.tcam.specs.Plans.{Write, Planned, refuses, writes, plan_set, plan_remove, plan_answer}
use Rattle.tcam.specs.Book.{Book, BookAnswer, empty_book, entries, book_image, count_if, book_set, book_remove}
use Rattle.tcam.specs.Tables.{addresses, tags, routes_in}
use Rattle.tcam.proofs.Whole.{AppliesWhole, set-applies, remove-applies}
use Rattle.records.specs.Records.{Update, removal, setting}
use Rattle.lines.specs.Lines.{header_line, refused_line, too_long_line}
use Rattle.history.specs.Reports.{Rows, rows, slots, empty_rows, plan_room, plan_of, after, update_text}
use Rattle.history.specs.Reports.{Item, asks, unreadable, items, history, max_input, report_slots}
use Rattle.claims.specs.Sequence.{Table, Request, set_request, remove_request}
use Rattle.claims.specs.ReportOfBook.{booked, book_text, book_history, ReportOfBook}
use Rattle.claims.proofs.Times.{times}
use Rattle.claims.proofs.Image.{BookOk}
use Rattle.claims.proofs.Prefix.{free-slots}
use Rattle.claims.proofs.Form.{image-length}
use Rattle.claims.proofs.Members.{Same}
use Rattle.claims.proofs.Apply.{cells-back, stored-map, stored-rows}
use Rattle.claims.proofs.Answer.{Holding, table_of, HoldsAfter, PlanHolds}
use Rattle.claims.proofs.SetCall.{set-call}
use Rattle.claims.proofs.RemoveCall.{remove-call}
use Rattle.claims.proofs.Demand3.{empty-ok, empty-is, empty-same}

-- a slot is used or free
used-or-free : (t : Bool) → cond t 0 1 + count_if t ≡ 1
used-or-free true = refl
used-or-free false = refl

used-and-free : (cs : List Cell) → used_in cs + times is_free cs ≡ length cs
used-and-free [] = refl
used-and-free (c ∷ cs) = omega (arith, used-or-free (is_free c), used-and-free cs)

used-slots : (W M : ℕ) (b : Book) → BookOk W M b → used_in (book_image W M b) ≡ length (entries W b)
used-slots W M b ok = omega (arith, used-and-free (book_image W M b), image-length W M b ok, free-slots W M b ok)

-- a table's rows
abbrev rows_of : List Cell → Rows
rows_of cs = rows (addresses cs) (tags cs)

-- a book that keeps its rows, and a set that its image holds
record Kept (W M : ℕ) (b : Book) : Type 0 where
  ok : BookOk W M b
  routes : List Route
  same : Same (routes_in (book_image W M b)) routes

-- a plan on the book's image answers as the book does, and leads to the next book's image
record Agrees (W M : ℕ) (b : Book) (p : Planned) (e : BookAnswer) : Type 0 where
  answers : plan_answer p ≡ e.answer
  table : after (rows_of (book_image W M b)) p ≡ rows_of (book_image W M e.book)
  next : Kept W M e.book

module _ (W M : ℕ) (i : 1 ≤ M) (j : M ≤ max_slots) (b : Book) (k : Kept W M b) where
  abbrev cs : List Cell
  cs = book_image W M b

  abbrev before : Table
  before = table_of W M b k.routes

  kept : {u : Table} → Holding W M u → Kept W M u.book
  kept {u} h = record { ok = h.ok; routes = u.routes; same = h.same }

  -- a request for any room, by its call with a row of that length
  agrees : (request : ℕ → Request) → ((row : List ℕ) → PlanHolds W M before row (request (length row)))
      → ((room : ℕ) (ws : List Write) → (request room).plan ≡ writes ws → (row : List ℕ) → AppliesWhole W (addresses cs) (tags cs) ws row)
      → (room : ℕ) → Agrees W M b (request room).plan (request room).booked
  agrees request call applies room =
      subst (λ m. Agrees W M b (request m).plan (request m).booked) (length-replicate room 0) (go r.plan refl (call row).0 (call row).2)
    where
      row : List ℕ
      row = replicate room 0

      r : Request
      r = request (length row)

      go : (p : Planned) → r.plan ≡ p → plan_answer p ≡ r.booked.answer → HoldsAfter W M before row r p → Agrees W M b p r.booked
      go (refuses n q) e a o = record { answers = a; table = ap rows_of o.is_image; next = kept o }
      go (writes ws) e a o =
          let w = applies (length row) ws e row in
          let made = sym (stored-rows cs ws) ∙ sym (ap₂ cells w.addresses w.tags) ∙ o.is_image in
          record {
            answers = a;
            table = ap₂ rows (stored-map (λ c. c.address) cs ws) (stored-map (λ c. c.tag) cs ws) ∙ ap rows_of made;
            next = kept o;
          }

  set_agrees : (a n h room : ℕ) → Agrees W M b (plan_set W (addresses cs) (tags cs) a n h room) (book_set W M b a n h room)
  set_agrees a n h =
      agrees (set_request W M before a n h)
      (set-call W M i j b k.ok k.routes k.same a n h)
      (λ room ws e. set-applies W (addresses cs) (tags cs) a n h room e)

  remove-agrees : (a n room : ℕ) → Agrees W M b (plan_remove W (addresses cs) (tags cs) a n room) (book_remove W M b a n room)
  remove-agrees a n =
      agrees (remove_request W M before a n)
      (remove-call W M i j b k.ok k.routes k.same a n)
      (λ room ws e. remove-applies W (addresses cs) (tags cs) a n room e)

-- the update's line
line-is : (nth : ℕ) (u : Update) (p : Planned) (t : Rows) → update_text nth u p t ≡ book_text nth u (plan_answer p) (used_in (slots t))
line-is nth u (refuses n q) t = refl
line-is nth u (writes ws) t = refl

line-agrees : {W M : ℕ} {b : Book} {p : Planned} {e : BookAnswer} → Agrees W M b p e → (nth : ℕ) (u : Update)
    → update_text nth u p (after (rows_of (book_image W M b)) p) ≡ book_text nth u e.answer (length (entries W e.book))
line-agrees {W} {M} {b} {p} {e} a nth u = line-is nth u p _ ∙ ap₂ (book_text nth u) a.answers
    (ap (λ t. used_in (slots t)) a.table ∙ ap used_in (cells-back (book_image W M e.book)) ∙ used-slots W M e.book a.next.ok)

module _ (M : ℕ) (i : 1 ≤ M) (j : M ≤ max_slots) where
  update_agrees : (b : Book) → Kept 32 M b → (u : Update) → Agrees 32 M b (plan_of (rows_of (book_image 32 M b)) u plan_room) (booked M b u)
  update_agrees b k (setting r) = set_agrees 32 M i j b k r.address r.length r.hop plan_room
  update_agrees b k (removal a n) = remove-agrees 32 M i j b k a n plan_room

  history-is : (nth : ℕ) (b : Book) → Kept 32 M b → (is : List Item) → history nth (rows_of (book_image 32 M b)) is ≡ book_history M nth b is
  history-is nth b k [] = rw cells-back
  history-is nth b k (asks u ∷ is) =
      let a = update_agrees b k u in
      ap₂ (λ x y. x ++ y) (line-agrees a nth u) (ap (λ t. history (nth + 1) t is) a.table ∙ history-is (nth + 1) (booked M b u).book a.next is)
  history-is nth b k (unreadable n ∷ is) = ap (λ x. refused_line nth n ++ x) (history-is (nth + 1) b k is)

  -- from the empty table, whose rows are zeros
  history-of-empty : (is : List Item) → history 1 (empty_rows M) is ≡ book_history M 1 empty_book is
  history-of-empty is =
      ap (λ t. history 1 t is) (ap₂ rows (zeros (λ c. c.address) M) (zeros (λ c. c.tag) M) ∙ ap rows_of (empty-is 32 M))
      ∙ history-is 1 empty_book (record { ok = empty-ok 32 M; routes = []; same = empty-same 32 M }) is
    where
      zeros : (part : Cell → ℕ) (n : ℕ) → replicate n (part free) ≡ map part (replicate n free)
      zeros part zero = refl
      zeros part (suc n) = ap (λ l. part free ∷ l) (zeros part n)

pub report_of_book : ReportOfBook
report_of_book bs = ap (λ l. cond (ltb max_input (length bs)) too_long_line (header_line report_slots ++ l))
    (history-of-empty report_slots (omega arith) (omega arith) (items (length bs) bs 0))
