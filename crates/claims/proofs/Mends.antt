-- A half-written image is mended: its mend goes over half-written images of the same set to a well-formed one.
use Prim.Native.Nat.{ℕ, suc, zero, ◌+◌, ◌≤◌}
use mathlib.Core.Path.{◌≡◌, sym, ap, subst, ◌∙◌}
use mathlib.Core.Logic.Iff
use mathlib.Core.Bool.{false}
use mathlib.Core.List.{List, [], ◌∷◌, ◌++◌}
use mathlib.Core.Option.{some}
use native.Mathlib.Nat.{le_refl, zero-add}
use native.Mathlib.Omega.{arith}
use lib.Dec.{ltb}
use lib.ListN.{length, length-append, take}
use lib.Seq.{take_all, take-length, get_or-append_seam}
use borrow.Author.Tests.{ltb-true, ltb-false}
use Rattle.route.specs.Rule.{Route}
use Rattle.route.specs.Refusals.{fine, value}
use Rattle.tcam.specs.Slots.{max_slots, Cell, free, is_free, length_in, image_fault}
use Rattle.tcam.specs.Plans.{Write, most_to_remove, remove_present}
use Rattle.tcam.specs.Applies.{written}
use Rattle.tcam.specs.Book.{book_image}
use Rattle.tcam.specs.Mend.{order_fault, repeat_fault, removal_at, mend_writes}
use Rattle.tcam.specs.Tables.{addresses, tags, TableOf}
use Rattle.tcam.proofs.Most.{remove_present-most}
use Rattle.tcam.proofs.Whole.{Makeable, none-makeable, remove_present-makeable, faultless-first}
use Rattle.route.proofs.Tests.{by_test}
use Rattle.claims.specs.Mending.{after, looked_up, mend_row, Mendable}
use Rattle.claims.proofs.Times.{times, times-append}
use Rattle.claims.proofs.Next.{slot_has}
use Rattle.claims.proofs.Pairs.{pairs-less}
use Rattle.claims.proofs.Walk.{walk-whole, walk-times}
use Rattle.claims.proofs.Form.{well-formed}
use Rattle.claims.proofs.Apply.{cells-back, no-slot-fault, no-size-fault, answers-k, after_is, looked-up, length-written, keeps-written}
use Rattle.claims.proofs.Set.{Once, Holds}
use Rattle.claims.proofs.Rank.{Falls, Ordered, no-order-fault}
use Rattle.claims.proofs.Repeats.{twin, no-repeat, fresh-image, once-fresh, one-repeat}
use Rattle.claims.proofs.MendWalk.{Mended, mended}
use Rattle.claims.proofs.Doubled.{walk-doubles}
use Rattle.claims.proofs.Half.{Half, whole, twice, members-by, half-ordered, half-holds, half-answers, half-book, half-cut}

-- a plan over half-written images of the set rs to a well-formed one
record Ends (W : ℕ) (rs : List Route) (cs : List Cell) (ws : List Write) : Type 0 where
  good : Makeable W (length cs) ws
  few : length ws ≤ most_to_remove W
  cuts : (k : ℕ) → k ≤ length ws → Half W rs (written cs (take k ws))
  sound : image_fault W 0 [] (written cs ws) ≡ fine

-- each prefix once: no writes
ends-whole : (W : ℕ) (rs : List Route) (cs : List Cell) → Ordered W [] cs → Once cs → Holds cs rs → Ends W rs cs []
ends-whole W rs cs o once holds = record {
  good = none-makeable;
  few = omega arith;
  cuts = cuts;
  sound = fresh-image W 0 [] cs (no-order-fault W 0 [] cs o) (once-fresh cs once);
}
  where
    cuts : (k : ℕ) → k ≤ 0 → Half W rs (written cs (take k []))
    cuts zero l = whole o once holds
    cuts (suc k) l = absurd (omega arith)

-- one cell in two slots: the later one is walked to the pool
module _ (W : ℕ) (rs : List Route) (front : List Cell) (x : Cell) (back : List Cell) (o : Ordered W [] (front ++ (x ∷ back)))
    (used : is_free x ≡ false) (copy : 1 ≤ times (twin x) front) (once : Once (front ++ back)) (holds : Holds (front ++ back) rs) where
  abbrev cs : List Cell
  cs = front ++ (x ∷ back)

  abbrev ws : List Write
  ws = remove_present W cs (length_in x) (length front)

  m : Mended W front x back
  m = mended W front x back o.keeps o.falls used once

  good : Makeable W (length cs) ws
  good = remove_present-makeable W cs (no-slot-fault W 0 cs o.keeps) (length_in x) (length front) (omega (arith, length-append front (x ∷ back)))

  left : (r : Route) → times (slot_has r) (book_image W (length cs) m.next) ≡ times (slot_has r) (front ++ back)
  left r = walk-times W free (slot_has r) m.walk ∙ omega (arith, times-append (slot_has r) front back)

  ended : Half W rs (book_image W (length cs) m.next)
  ended = half-book W (length cs) m.next m.ok rs (λ r. Iff.trans (
    members-by (book_image W (length cs) m.next) (front ++ back) (λ s l. rw (left s) at l) r,
    members-by (front ++ back) (book_image W (length cs) m.next) (λ s l. rw (left s) l) r,
  ) (holds r))

  ends-twice : Ends W rs cs ws
  ends-twice = record {
    good = good;
    few = remove_present-most W cs (length_in x) m.short (length front);
    cuts = cuts;
    sound = rw (walk-whole W free m.walk) (well-formed W (length cs) m.next m.ok);
  }
    where
      cuts : (k : ℕ) → k ≤ length ws → Half W rs (written cs (take k ws))
      cuts zero l = twice front x back o used copy once holds
      cuts (suc k) l = by_test (ltb (suc k) (length ws))
          (λ t. half-cut W rs (front ++ back) (written cs (take (suc k) ws))
          (walk-doubles W free m.walk (pairs-less (Falls W) front x back o.falls) k (ltb-true (suc k) (length ws) t))
          (keeps-written W (length cs) 0 cs (take (suc k) ws) o.keeps (faultless-first W (length cs) 0 (suc k) ws (good.faultless 0))) once holds)
          (λ t. rw (take_all (suc k) ws (ltb-false (suc k) (length ws) t), walk-whole W free m.walk) ended)

-- what a mend finds in a half-written image
record Found (W : ℕ) (rs : List Route) (cs : List Cell) : Type 0 where
  order : order_fault W 0 [] cs ≡ fine
  repeats : repeat_fault 0 false [] cs ≡ fine
  ends : Ends W rs cs (mend_writes W cs)

found : {W : ℕ} {rs : List Route} (cs : List Cell) → Half W rs cs → Found W rs cs
found {W} {rs} cs (whole o once holds) =
    let r = no-repeat 0 false [] cs (once-fresh cs once) in
    record {
      order = no-order-fault W 0 [] cs o;
      repeats = r.0;
      ends = subst (Ends W rs cs) (sym (ap (removal_at W cs) r.1)) (ends-whole W rs cs o once holds);
    }
found {W} {rs} cs (twice front x back o used copy once holds) =
    let r = one-repeat 0 [] front x back used (omega arith) (omega arith) (once-fresh (front ++ back) once) in
    let e : removal_at W cs (some (0 + length front)) ≡ remove_present W cs (length_in x) (length front) =
    rw (zero-add, get_or-append_seam front x back free) in
    record {
      order = no-order-fault W 0 [] cs o;
      repeats = r.0;
      ends = subst (Ends W rs cs) (sym (ap (removal_at W cs) r.1 ∙ e)) (ends-twice W rs front x back o used copy once holds);
    }

module _ (W : ℕ) (rs : List Route) (cs : List Cell) (i : 1 ≤ length cs) (j : length cs ≤ max_slots) (h : Half W rs cs) where
  abbrev plan : List Write
  plan = mend_writes W cs

  f : Found W rs cs
  f = found cs h

  -- the image after k writes
  cut-is : (row : List ℕ) (k : ℕ) → k ≤ length plan → after W cs (mend_row W cs row) k ≡ written cs (take k plan)
  cut-is row k n = after_is W cs i j plan f.ends.good row k n

  pub mendable : Mendable W rs cs
  mendable = record {
    accepted = λ room. rw (no-size-fault cs i j, cells-back, f.order, f.repeats);
    bounded = f.ends.few;
    cuts = λ row k n. record {
      answers = answers-k W cs i j plan f.ends.good row k n;
      looks_up = λ q. ap (λ (c : List Cell). looked_up W c q) (cut-is row k n)
          ∙ looked-up W (written cs (take k plan)) (rw length-written i) (rw length-written j) (half-ordered (f.ends.cuts k n)).keeps q
          ∙ ap value (half-answers (written cs (take k plan)) (f.ends.cuts k n) q ∙ sym (half-answers cs h q))
          ∙ sym (looked-up W cs i j (half-ordered h).keeps q);
    };
    ends = λ row. subst (λ t. TableOf W rs (addresses t) (tags t))
        (sym (cut-is row (length plan) (le_refl (length plan)) ∙ ap (written cs) (take-length plan))) table;
  }
    where
      table : TableOf W rs (addresses (written cs plan)) (tags (written cs plan))
      table = record {
        sized = no-size-fault (written cs plan) (rw length-written i) (rw length-written j);
        well_formed = rw cells-back f.ends.sound;
        exactly = λ r. rw cells-back (half-holds (rw take-length at (f.ends.cuts (length plan) (le_refl (length plan)))) r);
      }

-- and so is each cut of its mend
pub mendable-again : (W : ℕ) (rs : List Route) (cs : List Cell) → 1 ≤ length cs → length cs ≤ max_slots → Half W rs cs → (row : List ℕ) (k : ℕ)
    → k ≤ length (mend_writes W cs) → Mendable W rs (after W cs (mend_row W cs row) k)
mendable-again W rs cs i j h row k n =
    subst (Mendable W rs) (sym (cut-is W rs cs i j h row k n))
    (mendable W rs (written cs (take k (mend_writes W cs))) (rw length-written i) (rw length-written j) ((found cs h).ends.cuts k n))
