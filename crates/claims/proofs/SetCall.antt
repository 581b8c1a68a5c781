-- A planned set answers as the book does, and leads on.
use Prim.Native.Nat.{ℕ, ◌+◌, ◌≤◌, ◌<◌}
use mathlib.Core.Path.{◌≡◌, refl, sym, ap, subst, subst₂, ◌∙◌}
use mathlib.Core.Bool.{Bool, true, false, cond, not}
use mathlib.Core.List.{List, [], ◌∷◌}
use native.Mathlib.Omega.{arith}
use lib.Dec.{eqb, leb}
use lib.ListN.{length}
use borrow.Author.Tests.{eqb-true, leb-false}
use Rattle.route.specs.Rule.{Route}
use Rattle.route.specs.Refusals.{Verdict, fine, fault, fault_if, ◌then◌, prefix_fault, hop_fault, refused, full_refusal}
use Rattle.route.specs.Lists.{has_prefix}
use Rattle.tcam.specs.Slots.{max_slots, Cell, free}
use Rattle.tcam.specs.Plans.{Write, Planned, refuses, with_room, of_prefix, first_slot, most_to_set, set_absent, set_at, if_fine, plan_set, write}
use Rattle.tcam.specs.Book.{Book, BookAnswer, book_image, has_address, has_entry, replaced, after_set, rows_turned, lengths, entries}
use Rattle.tcam.specs.Book.{count_if, settled, book_set}
use Rattle.tcam.specs.Tables.{routes_in, addresses, tags}
use Rattle.tcam.proofs.SlotsAgree.{image_keeps_s1}
use Rattle.tcam.proofs.Whole.{Makeable, none-makeable, write-makeable, set_absent-makeable}
use Rattle.tcam.proofs.Most.{set_absent-most}
use Rattle.claims.specs.Sequence.{without}
use Rattle.claims.proofs.Times.{times}
use Rattle.claims.proofs.Row.{IsEntry, at}
use Rattle.claims.proofs.Found.{Found, found-once, Search, absent, present, searched}
use Rattle.claims.proofs.Image.{BookOk}
use Rattle.claims.proofs.Update.{Update}
use Rattle.claims.proofs.Form.{well-formed, image-length}
use Rattle.claims.proofs.Members.{Same}
use Rattle.claims.proofs.Apply.{cells-back, no-size-fault}
use Rattle.claims.proofs.Cuts.{starts-inside, Leads, leads-set, leads-replaced, leads-unchanged}
use Rattle.claims.proofs.Entry.{cell_of, prefix-length}
use Rattle.claims.proofs.Updates.{update-replace, found_prefix, cleared-present, stands_at, stands-there, stands-nowhere}
use Rattle.claims.proofs.Updates.{full_is}
use Rattle.claims.proofs.HasPrefix.{set-lacks, set-has, has_entry-is}
use Rattle.claims.proofs.NewEntry.{new-entry, same_next, joins, same-joins}
use Rattle.claims.proofs.Answer.{Answered, answers-refused, answers-room}

module _ (W M : ℕ) (i : 1 ≤ M) (j : M ≤ max_slots) (b : Book) (ok : BookOk W M b) (rs : List Route) (same : Same (routes_in (book_image W M b)) rs)
    (a n h : ℕ) (row : List ℕ) where
  abbrev cs : List Cell
  cs = book_image W M b

  abbrev room : ℕ
  room = length row

  abbrev new : Cell
  new = cell_of a n h

  abbrev r : Route
  r = record { address = a; length = n; hop = h }

  abbrev next_set : List Route
  next_set = r ∷ without a n rs

  -- the book after, where the prefix is absent and where it is present, and the writes that the book counts
  abbrev book_after_set : Book
  book_after_set = after_set W b n new

  abbrev replaced_book : Book
  replaced_book l = cond (eqb l n) (replaced a new (b l)) (b l)

  abbrev writes_to_join : ℕ
  writes_to_join = 1 + rows_turned W b n (lengths W)

  abbrev replaces : ℕ
  replaces = count_if (not (has_entry new (b n)))

  abbrev full : Bool
  full = leb M (length (entries W b))

  -- the plan of a prefix and a hop that are not refused
  abbrev plan : Planned
  plan = set_at W cs n new room (first_slot (of_prefix a n) 0 cs)

  abbrev switch : ℕ → ℕ
  switch w = cond (has_prefix r rs) 1 w

  abbrev Answers : Planned → BookAnswer → Type 0
  Answers = Answered W M i j b ok rs same (most_to_set W) row switch next_set

  refuse : (x y : ℕ) → Answers (refuses x y) (record { answer = refused x y; book = b })
  refuse = answers-refused W M i j b ok rs same (most_to_set W) row switch next_set

  settle : (ws : List Write) (next : Book) (w : ℕ) → Leads W M b rs ws next next_set (switch (length ws)) → length ws ≡ w → w ≤ most_to_set W
      → Answers (with_room room fine ws) (settled fine room w b next)
  settle = answers-room W M i j b ok rs same (most_to_set W) row switch next_set

  module _ (f : prefix_fault W 0 a n ≡ fine) (g : hop_fault 0 h ≡ fine) where
    bits : n ≤ W
    bits = prefix-length W a n f

    entry_new : IsEntry W n new
    entry_new = new-entry W M b ok rs same a n h f g

    -- absent, and a slot is free
    set-absent : times (at a) (b n) ≡ 0 → length (entries W b) < M → Answers (with_room room fine (set_absent W cs n new)) (settled fine room writes_to_join b book_after_set)
    set-absent z space =
        settle (set_absent W cs n new) book_after_set writes_to_join
        (rw (set-lacks W M b ok rs same a n h bits z)
        (leads-set W M b ok rs same free new (λ s. set_absent W cs n new) book_after_set writes_to_join u next_set
        (same-joins W M b ok rs same a n h f g z space) makeable refl (omega arith)))
        u.walks.many (omega (arith, u.walks.many, set_absent-most W cs n bits new))
      where
        u : Update W M b free new (λ s. set_absent W cs n new) book_after_set writes_to_join
        u = joins W M b ok rs same a n h f g z space

        makeable : Makeable W M (set_absent W cs n new)
        makeable =
            let e = image-length W M b ok in
            rw e at (set_absent-makeable W cs (image_keeps_s1 W 0 0 [] cs (well-formed W M b ok)) n new (rw e i) entry_new.keeps)

    -- present: one write where the hop differs, none where it is the same
    set-present : Found a (b n) → Answers plan (settled fine room replaces b replaced_book)
    set-present q =
        subst₂ (λ p w. Answers p (settled fine room w b replaced_book)) (sym plan-is) (sym (ap (λ (t : Bool). count_if (not t)) has_entry-so))
        (go (eqb q.entry.tag new.tag) refl)
      where
        u : Update W M b q.entry new (λ s. write s new ∷ []) replaced_book 1
        u = update-replace W M b ok n bits a q new entry_new refl

        slot : ℕ
        slot = length u.front

        prefix : of_prefix a n q.entry ≡ true
        prefix = found_prefix W M b ok n bits a q

        plan-is : plan ≡ with_room room fine (cond (eqb q.entry.tag new.tag) [] (write slot new ∷ []))
        plan-is = rw (
          stands_at W M b ok n bits a u.front q.entry u.back u.before prefix,
          stands-there W M b ok n bits a u.front
              q.entry u.back u.before,
        )

        has_entry-so : has_entry new (b n) ≡ eqb q.entry.tag new.tag
        has_entry-so =
            let once = found-once q true (ok.row n) in
            ap (has_entry new) q.is ∙ has_entry-is new q.front q.entry q.back q.has once.0 once.1

        next : Same (routes_in (book_image W M replaced_book)) next_set
        next = same_next W M b ok rs same a n h f g q.entry (λ s. write s new ∷ []) replaced_book 1 u
            (cleared-present W M b ok n bits a u.front q.entry u.back u.before prefix)

        there : has_prefix r rs ≡ true
        there = set-has W M b ok rs same a n h bits u.front q.entry u.back u.before prefix

        entry-is : eqb q.entry.tag new.tag ≡ true → q.entry ≡ new
        entry-is e k = record { address = q.has k; tag = eqb-true q.entry.tag new.tag e k }

        go : (t : Bool) → eqb q.entry.tag new.tag ≡ t → Answers (with_room room fine (cond t [] (write slot new ∷ [])))
            (settled fine room (count_if (not t)) b replaced_book)
        go true e = settle [] replaced_book 0
            (rw there (leads-unchanged W M b ok rs same q.entry new (λ s. write s new ∷ []) replaced_book 1 u next_set next (entry-is e) refl))
            refl (omega arith)
        go false e = settle (write slot new ∷ []) replaced_book 1
            (rw there (leads-replaced W M b ok rs same q.entry new (λ s. write s new ∷ []) replaced_book 1 u next_set next
            (write-makeable (starts-inside ok u) entry_new.keeps none-makeable) refl))
            refl (omega arith)

    by-search : {t : Bool} → Search a (b n) t → Answers plan
        (cond t (settled fine room replaces b replaced_book) (settled (fault_if full full_refusal 0) room writes_to_join b book_after_set))
    by-search (present q) = set-present q
    by-search (absent z) = subst (λ p. Answers p (settled (fault_if full full_refusal 0) room writes_to_join b book_after_set)) (sym plan-is) (go full refl)
      where
        plan-is : plan ≡ with_room room (fault_if (not (not full)) full_refusal 0) (set_absent W cs n new)
        plan-is = rw (stands-nowhere W M b ok n bits a z, full_is W M b ok)

        go : (t : Bool) → full ≡ t → Answers (with_room room (fault_if (not (not t)) full_refusal 0) (set_absent W cs n new)) (settled (fault_if t full_refusal 0) room writes_to_join b book_after_set)
        go true e = refuse full_refusal 0
        go false e = set-absent z (leb-false M (length (entries W b)) e)

  pub set-call : Answers (plan_set W (addresses cs) (tags cs) a n h room) (book_set W M b a n h room)
  set-call = subst (λ p. Answers p (book_set W M b a n h room)) (sym plan-is) (go (prefix_fault W 0 a n) (hop_fault 0 h) refl refl)
    where
      plan-is : plan_set W (addresses cs) (tags cs) a n h room ≡ if_fine (prefix_fault W 0 a n then hop_fault 0 h) plan
      plan-is = rw (no-size-fault cs (rw (image-length W M b ok) i) (rw (image-length W M b ok) j), cells-back, well-formed W M b ok)

      either_way : (t : Bool) (x y : ℕ) → Answers (refuses x y) (cond t (record { answer = refused x y; book = b }) (record { answer = refused x y; book = b }))
      either_way true x y = refuse x y
      either_way false x y = refuse x y

      go : (v w : Verdict) → prefix_fault W 0 a n ≡ v → hop_fault 0 h ≡ w
          → Answers (if_fine (v then w) plan)
          (cond (has_address a (b n)) (settled (v then w) room replaces b replaced_book) (settled (v then w then fault_if full full_refusal 0) room writes_to_join b book_after_set))
      go (fault x y) w e f = either_way (has_address a (b n)) x y
      go fine (fault x y) e f = either_way (has_address a (b n)) x y
      go fine fine e f = by-search e f (searched a (b n))
