-- The report's text can be worked out from the book alone: its counts of writes and of entries make the lines of the records, and its
-- image those of the slots. The book knows of no slot and no plan, so from its first line to its last the report is held to a second
-- account of the table.
use Rattle.std.specs.Prelude.{ℕ, ◌+◌, ◌≡◌, cond, List, [], ◌∷◌, ◌++◌, ltb, length}
use Rattle.route.specs.Refusals.{Answer, value, refused}
use Rattle.tcam.specs.Book.{Book, BookAnswer, empty_book, entries, book_image, book_set, book_remove}
use Rattle.records.specs.Records.{Update, removal, setting}
use Rattle.lines.specs.Lines.{header_line, refused_line, end_line, too_long_line}
use Rattle.history.specs.Reports.{max_input, report_slots, plan_room, accepted_text, slot_texts, Item, asks, unreadable, items, report}

-- what the book of M slots answers to a record, and the book afterwards
abbrev pub booked : ℕ → Book → Update → BookAnswer
booked M b (setting r) = book_set 32 M b r.address r.length r.hop plan_room
booked M b (removal a n) = book_remove 32 M b a n plan_room

-- an update's line, by the book's answer and its entries afterwards
abbrev pub book_text : ℕ → Update → Answer → ℕ → List ℕ
book_text nth u (value w) used = accepted_text nth u w used
book_text nth u (refused n p) used = refused_line nth n

-- the lines of the items, the first of them with this number, then the slots of the book's image and the end
abbrev pub book_history : ℕ → ℕ → Book → List Item → List ℕ
book_history M nth b [] = slot_texts 0 (book_image 32 M b) ++ end_line
book_history M nth b (asks u ∷ is) =
    book_text nth u (booked M b u).answer (length (entries 32 (booked M b u).book))
    ++ book_history M (nth + 1) (booked M b u).book is
book_history M nth b (unreadable n ∷ is) = refused_line nth n ++ book_history M (nth + 1) b is

abbrev pub ReportOfBook : Type 0
ReportOfBook =
    (bs : List ℕ) →
    report bs
    ≡ cond (ltb max_input (length bs)) too_long_line
    (header_line report_slots ++ book_history report_slots 1 empty_book (items (length bs) bs 0))
