-- A planned removal answers as the book does, and leads on.
use Prim.Native.Nat.{ℕ, ◌+◌, ◌≤◌}
use mathlib.Core.Path.{◌≡◌, refl, sym, subst}
use mathlib.Core.Bool.{Bool, true, not}
use mathlib.Core.List.{List, []}
use native.Mathlib.Omega.{arith}
use lib.ListN.{length}
use Rattle.route.specs.Rule.{Route}
use Rattle.route.specs.Refusals.{Verdict, fine, fault, fault_if, ◌then◌, prefix_fault, refused, absent_refusal}
use Rattle.tcam.specs.Slots.{max_slots, Cell, free}
use Rattle.tcam.specs.Plans.{Planned, refuses, of_prefix, first_slot, most_to_remove, remove_present, remove_at, if_fine, plan_remove}
use Rattle.tcam.specs.Book.{Book, BookAnswer, book_image, has_address, is_upper_length, at_edge, after_remove, rows_turned, lengths, count_if}
use Rattle.tcam.specs.Book.{settled, book_remove}
use Rattle.tcam.specs.Tables.{routes_in, addresses, tags}
use Rattle.tcam.proofs.SlotsAgree.{image_keeps_s1}
use Rattle.tcam.proofs.Whole.{Makeable, remove_present-makeable}
use Rattle.tcam.proofs.Most.{remove_present-most}
use Rattle.claims.specs.Sequence.{without}
use Rattle.claims.proofs.Found.{Found, Search, absent, present, searched}
use Rattle.claims.proofs.Walk.{walk-times}
use Rattle.claims.proofs.Image.{BookOk}
use Rattle.claims.proofs.Update.{Update}
use Rattle.claims.proofs.Form.{well-formed, image-length}
use Rattle.claims.proofs.Members.{Same}
use Rattle.claims.proofs.Next.{same-removed}
use Rattle.claims.proofs.Apply.{cells-back, no-size-fault}
use Rattle.claims.proofs.Cuts.{starts-inside, leads-removed}
use Rattle.claims.proofs.Entry.{prefix-length}
use Rattle.claims.proofs.Updates.{update-remove, found_prefix, cleared-present, stands_at, stands-nowhere}
use Rattle.claims.proofs.Answer.{Answered, answers-refused, answers-room}

module _ (W M : ℕ) (i : 1 ≤ M) (j : M ≤ max_slots) (b : Book) (ok : BookOk W M b) (rs : List Route) (same : Same (routes_in (book_image W M b)) rs)
    (a n : ℕ) (row : List ℕ) where
  abbrev cs : List Cell
  cs = book_image W M b

  abbrev room : ℕ
  room = length row

  -- the plan of a prefix that is not refused
  abbrev plan : Planned
  plan = remove_at W cs n room (first_slot (of_prefix a n) 0 cs)

  abbrev Answers : Planned → BookAnswer → Type 0
  Answers = Answered W M i j b ok rs same (most_to_remove W) row (λ w. 1) (without a n rs)

  -- how many writes the book counts
  abbrev many : ℕ
  many = 1 + rows_turned W b n (lengths W) + count_if (not (at_edge (is_upper_length W n) a (b n)))

  refuse : (x y : ℕ) → Answers (refuses x y) (record { answer = refused x y; book = b })
  refuse x y = answers-refused W M i j b ok rs same (most_to_remove W) row (λ w. 1) (without a n rs) x y

  remove-present : n ≤ W → (q : Found a (b n)) → Answers plan (settled fine room many b (after_remove W b n a))
  remove-present bits q =
      subst (λ o. Answers (remove_at W cs n room o) (settled fine room many b (after_remove W b n a)))
      (sym (stands_at W M b ok n bits a u.front q.entry u.back u.before prefix))
      (answers-room W M i j b ok rs same (most_to_remove W) row (λ w. 1) (without a n rs) (remove_present W cs n (length u.front))
      (after_remove W b n a) many
      (leads-removed W M b ok rs same q.entry free (λ s. remove_present W cs n s) (after_remove W b n a) many u (without a n rs) next
      makeable refl (omega arith))
      u.walks.many (omega (arith, u.walks.many, remove_present-most W cs n bits (length u.front))))
    where
      u : Update W M b q.entry free (λ s. remove_present W cs n s) (after_remove W b n a) many
      u = update-remove W M b ok n bits a q

      makeable : Makeable W M (remove_present W cs n (length u.front))
      makeable =
          let e = image-length W M b ok in
          rw e at (remove_present-makeable W cs (image_keeps_s1 W 0 0 [] cs (well-formed W M b ok)) n (length u.front) (rw e (starts-inside ok u)))

      prefix : of_prefix a n q.entry ≡ true
      prefix = found_prefix W M b ok n bits a q

      next : Same (routes_in (book_image W M (after_remove W b n a))) (without a n rs)
      next = same-removed a n (cleared-present W M b ok n bits a u.front q.entry u.back u.before prefix) rs (rw u.before at same)
          (book_image W M (after_remove W b n a)) (λ t. walk-times W free t u.walks.walk)

  by-search : n ≤ W → {t : Bool} → Search a (b n) t → Answers plan
      (settled (fault_if (not t) absent_refusal 0) room many b (after_remove W b n a))
  by-search bits (present q) = remove-present bits q
  by-search bits (absent z) = subst (λ o. Answers (remove_at W cs n room o) (record { answer = refused absent_refusal 0; book = b }))
      (sym (stands-nowhere W M b ok n bits a z)) (refuse absent_refusal 0)

  pub remove-call : Answers (plan_remove W (addresses cs) (tags cs) a n room) (book_remove W M b a n room)
  remove-call = subst (λ p. Answers p (book_remove W M b a n room)) (sym plan-is) (go (prefix_fault W 0 a n) refl)
    where
      plan-is : plan_remove W (addresses cs) (tags cs) a n room ≡ if_fine (prefix_fault W 0 a n) plan
      plan-is = rw (no-size-fault cs (rw (image-length W M b ok) i) (rw (image-length W M b ok) j), cells-back, well-formed W M b ok)

      go : (v : Verdict) → prefix_fault W 0 a n ≡ v → Answers (if_fine v plan)
          (settled (v then fault_if (not (has_address a (b n))) absent_refusal 0) room many b (after_remove W b n a))
      go (fault x y) e = refuse x y
      go fine e = by-search (prefix-length W a n e) (searched a (b n))
