-- A call's answer is right of its image: the next entry is the least that is still to come, with its first slot's tag, or there is none.
-- What is given stands in the image, so it is a valid prefix where the image keeps S1.
use Prim.Native.Nat.{ℕ, ◌+◌}
use mathlib.Core.Path.{◌≡◌, refl, sym}
use mathlib.Core.Bool.{Bool, true, false, cond, not}
use mathlib.Core.List.Memᴰ
use mathlib.Core.List.{[], ◌∷◌}
use mathlib.Core.Option.{Option, none, some}
use lib.Dec.{eqb}
use lib.ListN.{length, length-map}
use borrow.Author.Tests.{eqb-true, eq-eqb, not-true, not-false}
use Rattle.route.specs.PrefixOrder.{comes_before}
use Rattle.route.specs.Refusals.{Verdict, fine, fault, fault_if, ◌then◌, value, prefix_fault, image_refusal}
use Rattle.route.specs.RightHop.{◌∈◌}
use Rattle.tcam.specs.Slots.{Cell, cells, is_free, length_in, keeps_s1, size_fault, slot_fault}
use Rattle.tcam.specs.Plans.{of_prefix}
use Rattle.tcam.specs.Tables.{addresses, tags}
use Rattle.route.proofs.Tests.{by_test, clash, is_false, and_parts, all_three, in_turn, passed, answered}
use Rattle.route.proofs.PrefixOrder.{before-trans, not_itself, before-from}
use Rattle.tcam.proofs.Sizes.{sized}
use Rattle.claims.specs.Sequence.{looked_up}
use Rattle.claims.proofs.Times.{All}
use Rattle.claims.proofs.Members.{member}
use Rattle.claims.proofs.Apply.{Keeps, cells-back}
use Rattle.tcam.specs.Download.{From, is_to_come, is_ahead, sooner, next_in, entry_or_end, next_unless, from_fault}
use Rattle.claims.specs.Download.{Image, asked, is_present, first_tag, IsNext, Says, KeepsS1}
use Rattle.tcam.proofs.Cells.{used-prefix}

-- the slot of a prefix
pub prefix-is : (a n : ℕ) (c : Cell) → of_prefix a n c ≡ true → (is_free c ≡ false) × (length_in c ≡ n) × (c.address ≡ a)
prefix-is a n c e =
    let p = all_three (not (is_free c)) (eqb (length_in c) n) (eqb c.address a) e in
    (not-true _ p.0, eqb-true _ _ p.1, eqb-true _ _ p.2)

own-prefix : (c : Cell) → is_free c ≡ false → of_prefix c.address (length_in c) c ≡ true
own-prefix c u = rw (u, eq-eqb (length_in c) (length_in c) refl) (eq-eqb c.address c.address refl)

module _ (from : From) where
  -- a slot that is not ahead holds no prefix that is to come
  not-ahead : (c : Cell) → is_ahead from c ≡ false → (a n : ℕ) → of_prefix a n c ≡ true → is_to_come from a n ≡ false
  not-ahead c e a n p =
      let h = prefix-is a n c p in
      rw (← h.1, ← h.2) (rw h.0 at e)

  -- slot by slot from the last: what is next among the slots behind c, and c
  next-says : (cs : Image) → Says cs from (entry_or_end (next_in from cs))
  next-says [] = λ a n e. clash e refl
  next-says (c ∷ cs) = go (is_ahead from c) refl (next_in from cs) (next-says cs)
    where
      elsewhere : (a n : ℕ) → of_prefix a n c ≡ false → is_present a n (c ∷ cs) ≡ true → is_present a n cs ≡ true
      elsewhere a n q p = rw q at p

      tagged : {t : ℕ} (a n : ℕ) → of_prefix a n c ≡ false → first_tag a n cs ≡ some t → first_tag a n (c ∷ cs) ≡ some t
      tagged a n q h = rw q h

      itself : (a n : ℕ) → of_prefix a n c ≡ true → comes_before a n c.address (length_in c) ≡ false
      itself a n q = let h = prefix-is a n c q in not_itself a n c.address (length_in c) (sym h.2) (sym h.1)

      is-next : is_ahead from c ≡ true
          → ((a n : ℕ) → is_present a n cs ≡ true → is_to_come from a n ≡ true → comes_before a n c.address (length_in c) ≡ false)
          → IsNext (c ∷ cs) from c.address (length_in c) c.tag
      is-next e h =
          let p = and_parts (not (is_free c)) _ e in
          record {
            ahead = p.1;
            tagged = rw (own-prefix c (not-true _ p.0));
            least = λ a n q f. by_test (of_prefix a n c) (itself a n) (λ r. h a n (elsewhere a n r q) f);
          }

      either-next : (d : Cell) → is_ahead from c ≡ true → IsNext cs from d.address (length_in d) d.tag
          → (t : Bool) → comes_before d.address (length_in d) c.address (length_in c) ≡ t → Says (c ∷ cs) from (entry_or_end (cond t (some d) (some c)))
      either-next d e h true f = record {
        ahead = h.ahead;
        tagged = tagged d.address (length_in d) (is_false _ (λ q. clash f (itself d.address (length_in d) q))) h.tagged;
        least = λ a n q g. by_test (of_prefix a n c)
            (λ r. is_false _ (λ s. clash (before-trans a n d.address (length_in d) c.address (length_in c) s f) (itself a n r)))
            (λ r. h.least a n (elsewhere a n r q) g);
      }
      either-next d e h false f = is-next e (λ a n q g. is_false _ (λ s.
          clash (before-from a n d.address (length_in d) c.address (length_in c) (h.least a n q g) s) f))

      go : (t : Bool) → is_ahead from c ≡ t → (o : Option Cell) → Says cs from (entry_or_end o)
          → Says (c ∷ cs) from (entry_or_end (sooner (cond t (some c) none) o))
      go false e none h = λ a n q. by_test (of_prefix a n c) (not-ahead c e a n) (λ r. h a n (elsewhere a n r q))
      go false e (some d) h = record {
        ahead = h.ahead;
        tagged = tagged d.address (length_in d) (is_false _ (λ q. clash h.ahead (not-ahead c e _ _ q))) h.tagged;
        least = λ a n q f. by_test (of_prefix a n c) (λ r. clash f (not-ahead c e a n r)) (λ r. h.least a n (elsewhere a n r q) f);
      }
      go true e none h = is-next e (λ a n q f. clash f (h a n q))
      go true e (some d) h = either-next d e h (comes_before d.address (length_in d) c.address (length_in c)) refl

pub asked-says : (W : ℕ) (cs : Image) (from : From) → Says cs from (asked W cs from)
asked-says W cs from = rw cells-back (go (size_fault (addresses cs) (tags cs) then slot_fault W 0 cs then from_fault W from))
  where
    go : (v : Verdict) → Says cs from (next_unless v (entry_or_end (next_in from cs)))
    go fine = next-says from cs
    go (fault n p) = tt

-- what is given is present
pub tag-present : (a n : ℕ) {t : ℕ} (cs : Image) → first_tag a n cs ≡ some t → is_present a n cs ≡ true
tag-present a n [] e = cc
tag-present a n (c ∷ cs) e = by_test (of_prefix a n c) (λ q. rw q) (λ q. rw q (tag-present a n cs (rw q at e)))

pub present-address : (a n : ℕ) (cs : Image) → is_present a n cs ≡ true → a ∈ addresses cs
present-address a n [] p = clash p refl
present-address a n (c ∷ cs) p = by_test (of_prefix a n c)
    (λ q. Memᴰ.head (sym (prefix-is a n c q).2))
    (λ q. Memᴰ.tail (present-address a n cs (rw q at p)))

module _ (W : ℕ) where
  pub present-valid : (a n : ℕ) (cs : Image) → All (Keeps W) cs → is_present a n cs ≡ true → prefix_fault W 0 a n ≡ fine
  present-valid a n [] k p = clash p refl
  present-valid a n (c ∷ cs) k p = by_test (of_prefix a n c)
      (λ q. let h = prefix-is a n c q in rw (← h.1, ← h.2) (used-prefix W c k.0 h.0))
      (λ q. present-valid a n cs k.1 (rw q at p))

  -- each slot of an image without a fault keeps S1
  fine-keeps : (i : ℕ) (cs : Image) → slot_fault W i cs ≡ fine → All (Keeps W) cs
  fine-keeps i [] f = tt
  fine-keeps i (c ∷ cs) f =
      let t = in_turn (fault_if (not (keeps_s1 W c)) image_refusal i) _ f in
      (not-false _ (passed _ _ _ t.0), fine-keeps (i + 1) cs t.1)

  -- a table that lookups accept
  pub looked-up-keeps : (cs : Image) (q : ℕ) {v : ℕ} → looked_up W cs q ≡ value v → KeepsS1 W cs
  looked-up-keeps cs q e =
      let f = answered (size_fault (addresses cs) (tags cs) then slot_fault W 0 (cells (addresses cs) (tags cs))) _ (sym e) in
      let t = in_turn (size_fault (addresses cs) (tags cs)) _ f in
      let s = sized (length (addresses cs)) (length (tags cs)) (sym t.0) in
      let k = fine-keeps 0 cs (rw cells-back at t.1) in
      record { some = rw length-map at s.some; few = rw length-map at s.few; keeps = λ c m. member (Keeps W) k m }
