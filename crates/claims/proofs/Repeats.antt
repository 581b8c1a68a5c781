-- Prefixes that stand twice, by counting: an image that a mend accepts has each prefix once, or one prefix twice, in equal cells.
use Prim.Native.Nat.{ℕ, suc, ◌+◌, ◌≤◌}
use mathlib.Core.Path.{◌≡◌, refl, ap, ◌∙◌}
use mathlib.Core.Bool.{Bool, true, false, not, ◌&&◌, ◌||◌}
use mathlib.Core.List.{List, [], ◌∷◌, ◌++◌, Memᴰ}
use mathlib.Core.Option.{none, some}
use native.Mathlib.Nat.{add-zero}
use native.Mathlib.Omega.{arith}
use lib.Dec.{eqb, ltb}
use lib.ListN.{length}
use borrow.Author.Tests.{eqb-true, eq-eqb, ltb-true, ltb-false, not-true, not-false}
use Rattle.route.specs.Refusals.{fine, fault_if, image_refusal}
use Rattle.route.specs.Lists.{any}
use Rattle.tcam.specs.Slots.{Cell, is_free, length_in, same_prefix_in, misplaced, repeats, breaks, image_fault}
use Rattle.tcam.specs.Plans.{of_prefix}
use Rattle.tcam.specs.Mend.{order_fault, other_tag_in, contradicts, repeat_fault, repeat_slot}
use Rattle.route.proofs.Tests.{by_test, both, all_three, and_parts, or_parts, is_false, clash, in_turn, passed}
use Rattle.tcam.proofs.Repeats.{contradicts-not}
use Rattle.route.proofs.Members.{any-so}
use Rattle.claims.proofs.Times.{times}
use Rattle.claims.proofs.Members.{member-times, once-same}
use Rattle.claims.proofs.Set.{Once}

-- a member that passes a test which some passes
pub record Sought (p : Cell → Bool) (xs : List Cell) : Type 0 where
  pub cell : Cell
  pub stands : Memᴰ cell xs
  pub passes : p cell ≡ true

sought : (p : Cell → Bool) (xs : List Cell) → any p xs ≡ true → Sought p xs
sought p [] e = clash e refl
sought p (x ∷ xs) e = by_test (p x)
    (λ t. record { cell = x; stands = Memᴰ.head refl; passes = t })
    (λ t. let s = sought p xs (rw t at e) in record { cell = s.cell; stands = Memᴰ.tail s.stands; passes = s.passes })

-- how often the prefix of c stands
abbrev copies : Cell → List Cell → ℕ
copies c xs = times (of_prefix c.address (length_in c)) xs

module _ (c : Cell) where
  -- the test of S5 is that of a prefix
  same-prefix : (x : Cell) → same_prefix_in c x ≡ true → of_prefix c.address (length_in c) x ≡ true
  same-prefix x e =
      let t = all_three (not (is_free x)) (eqb x.address c.address) (eqb (length_in x) (length_in c)) e in
      both _ _ (both _ _ t.0 t.2) t.1

  prefix_same : (x : Cell) → of_prefix c.address (length_in c) x ≡ true → same_prefix_in c x ≡ true
  prefix_same x e =
      let t = all_three (not (is_free x)) (eqb (length_in x) (length_in c)) (eqb x.address c.address) e in
      both _ _ (both _ _ t.0 t.2) t.1

  pub own-prefix : is_free c ≡ false → of_prefix c.address (length_in c) c ≡ true
  own-prefix u = both _ _ (both _ _ (ap not u) (eq-eqb (length_in c) _ refl)) (eq-eqb c.address _ refl)

  -- a slot repeats a prefix where it is used and its prefix stands before
  repeats-so : (before : List Cell) → repeats c before ≡ true → (is_free c ≡ false) × (1 ≤ copies c before)
  repeats-so before e =
      let t = and_parts (not (is_free c)) (any (same_prefix_in c) before) e in
      let s = sought (same_prefix_in c) before t.1 in
      (not-true (is_free c) t.0, member-times (of_prefix c.address (length_in c)) (same-prefix s.cell s.passes) s.stands)

  repeats-not : (before : List Cell) → is_free c ≡ false → repeats c before ≡ false → copies c before ≡ 0
  repeats-not before u e = none-there before (rw u at e)
    where
      none-there : (xs : List Cell) → any (same_prefix_in c) xs ≡ false → copies c xs ≡ 0
      none-there [] e = refl
      none-there (x ∷ xs) e =
          let t = or_parts (same_prefix_in c x) _ e in
          rw (is_false (of_prefix c.address (length_in c) x) (λ y. clash (prefix_same x y) t.0)) (omega (arith, none-there xs t.1))

  repeats-none : (before : List Cell) → (is_free c ≡ false → copies c before ≡ 0) → repeats c before ≡ false
  repeats-none before h = is_false (repeats c before) (λ e. let t = repeats-so before e in omega (arith, h t.0, t.1))

  -- the cell of a prefix test
  prefix-is : (a m : ℕ) → of_prefix a m c ≡ true → (is_free c ≡ false) × (c.address ≡ a) × (length_in c ≡ m)
  prefix-is a m e =
      let t = all_three (not (is_free c)) (eqb (length_in c) m) (eqb c.address a) e in
      (not-true (is_free c) t.0, eqb-true _ _ t.2, eqb-true _ _ t.1)

-- no prefix of cs stands before it, and none stands twice in it
abbrev pub Fresh : List Cell → List Cell → Type 0
Fresh before cs = (a m : ℕ) → (times (of_prefix a m) cs ≤ 1) × (1 ≤ times (of_prefix a m) before → times (of_prefix a m) cs ≡ 0)

-- a slot that repeats nothing, and the fresh ones behind it
fresh-more : (c : Cell) (before cs : List Cell) → repeats c before ≡ false → Fresh (c ∷ before) cs → Fresh before (c ∷ cs)
fresh-more c before cs e f a m = by_test (of_prefix a m c)
    (λ t. let k = prefix-is c a m t in
    let z : times (of_prefix a m) before ≡ 0 = rw (← k.1, ← k.2) (repeats-not c before k.0 e) in
    let g = rw t at (f a m) in
    let n = g.1 (omega arith) in
    rw t (omega arith, λ i. absurd (omega arith)))
    (λ t. let g = rw t at (f a m) in rw t (omega (arith, g.0), λ i. omega (arith, g.1 (omega arith))))

-- after a repeat there is none
fresh-later : (i : ℕ) (before cs : List Cell) → repeat_fault i true before cs ≡ fine → Fresh before cs
fresh-later i before [] e = λ a m. (omega arith, λ j. refl)
fresh-later i before (c ∷ cs) e =
    let t = in_turn (fault_if (contradicts c before || repeats c before) image_refusal i) _ e in
    let r = (or_parts (contradicts c before) (repeats c before) (passed _ image_refusal i t.0)).1 in
    fresh-more c before cs r (fresh-later (i + 1) (c ∷ before) cs t.1)

-- a slot with the numbers of x
abbrev pub twin : Cell → Cell → Bool
twin x y = eqb y.address x.address && eqb y.tag x.tag

pub twin-is : (x y : Cell) → twin x y ≡ true → y ≡ x
twin-is x y e =
    let t = and_parts (eqb y.address x.address) (eqb y.tag x.tag) e in
    λ k. record { address = eqb-true y.address x.address t.0 k; tag = eqb-true y.tag x.tag t.1 k }

pub often-sought : (p : Cell → Bool) (xs : List Cell) → 1 ≤ times p xs → Sought p xs
often-sought p [] e = absurd (omega arith)
often-sought p (x ∷ xs) e = by_test (p x)
    (λ t. record { cell = x; stands = Memᴰ.head refl; passes = t })
    (λ t. let e' = rw t at e in
    let s = often-sought p xs (omega arith) in record { cell = s.cell; stands = Memᴰ.tail s.stands; passes = s.passes })

-- what a mend finds behind the slots `before`: no repeat; or one, the cell x, in its second slot
pub data Repeated (before : List Cell) : List Cell → Type 0 where
  never : (cs : List Cell) → Fresh before cs → Repeated before cs
  second : (front : List Cell) (x : Cell) (back : List Cell) → is_free x ≡ false → 1 ≤ times (twin x) front + times (twin x) before
      → Fresh before (front ++ back) → Repeated before (front ++ (x ∷ back))

repeated-more : (before : List Cell) (c : Cell) {cs : List Cell} → repeats c before ≡ false → Repeated (c ∷ before) cs → Repeated before (c ∷ cs)
repeated-more before c e (never cs f) = never (c ∷ cs) (fresh-more c before cs e f)
repeated-more before c e (second front x back u t f) =
    second (c ∷ front) x back u (omega arith) (fresh-more c before (front ++ back) e f)

pub repeated : (i : ℕ) (before cs : List Cell) → repeat_fault i false before cs ≡ fine → Repeated before cs
repeated i before [] e = never [] (λ a m. (omega arith, λ j. refl))
repeated i before (c ∷ cs) e =
    let t = in_turn (fault_if (contradicts c before || false) image_refusal i) _ e in
    let n = (or_parts (contradicts c before) false (passed _ image_refusal i t.0)).0 in
    by_test (repeats c before)
    (λ r. let f = fresh-later (i + 1) (c ∷ before) cs (rw r at t.1) in
    let h = and_parts (not (is_free c)) (any (same_prefix_in c) before) r in
    let s = sought (same_prefix_in c) before h.1 in
    second [] c cs (not-true (is_free c) h.0) (omega (arith, member-times (twin c) (same s n (not-true _ h.0)) s.stands))
    (λ a m. ((f a m).0, λ j. (f a m).1 (omega arith))))
    (λ r. repeated-more before c r (repeated (i + 1) (c ∷ before) cs (rw r at t.1)))
  where
    -- the slot before with the prefix has the tag too
    same : (s : Sought (same_prefix_in c) before) → contradicts c before ≡ false → is_free c ≡ false → twin c s.cell ≡ true
    same s n u =
        let y = s.cell in
        let p = all_three (not (is_free y)) (eqb y.address c.address) (eqb (length_in y) (length_in c)) s.passes in
        both _ _ p.1 (not-false (eqb y.tag c.tag) (is_false (not (eqb y.tag c.tag))
        (λ k. clash (both (not (is_free c)) (any (other_tag_in c) before) (ap not u) (any-so (other_tag_in c) s.stands (both _ _ s.passes k))) n)))

-- and the other way round
fresh-head : (c : Cell) (before cs : List Cell) → Fresh before (c ∷ cs) → repeats c before ≡ false
fresh-head c before cs f = repeats-none c before (λ u. go (rw (own-prefix c u) at (f c.address (length_in c))))
  where
    go : (1 + copies c cs ≤ 1) × (1 ≤ copies c before → 1 + copies c cs ≡ 0) → copies c before ≡ 0
    go g = by_test (ltb 0 (copies c before))
        (λ t. let l = ltb-true 0 (copies c before) t in absurd (omega (arith, g.1 l)))
        (λ t. let l = ltb-false 0 (copies c before) t in omega arith)

fresh-rest : (c : Cell) (before cs : List Cell) → Fresh before (c ∷ cs) → Fresh (c ∷ before) cs
fresh-rest c before cs f a m = by_test (of_prefix a m c)
    (λ t. let g = rw t at (f a m) in rw t (omega (arith, g.0), λ i. omega (arith, g.0)))
    (λ t. let g = rw t at (f a m) in rw t (omega (arith, g.0), λ i. omega (arith, g.1 (omega arith))))

no-fault : (one t u : Bool) → t ≡ false → u ≡ false → (t || (one && u)) ≡ false
no-fault true t u e f = rw (e, f)
no-fault false t u e f = rw e

pub no-repeat : (i : ℕ) (one : Bool) (before cs : List Cell) → Fresh before cs → (repeat_fault i one before cs ≡ fine) × (repeat_slot i before cs ≡ none)
no-repeat i one before [] f = (refl, refl)
no-repeat i one before (c ∷ cs) f =
    let r = fresh-head c before cs f in
    let k = no-repeat (i + 1) (one || repeats c before) (c ∷ before) cs (fresh-rest c before cs f) in
    (rw (no-fault one (contradicts c before) (repeats c before) (contradicts-not c before r) r) k.0, rw r k.1)

-- a well-formed image keeps S1 to S4 and repeats no prefix
module _ (W : ℕ) where
  pub image-fresh : (i : ℕ) (before cs : List Cell) → image_fault W i before cs ≡ fine → (order_fault W i before cs ≡ fine) × Fresh before cs
  image-fresh i before [] e = (refl, λ a m. (omega arith, λ j. refl))
  image-fresh i before (c ∷ cs) e =
      let t = in_turn (fault_if (breaks W c before) image_refusal i) _ e in
      let p = or_parts (misplaced W c before) (repeats c before) (passed (breaks W c before) image_refusal i t.0) in
      let r = image-fresh (i + 1) (c ∷ before) cs t.1 in
      (rw p.0 r.0, fresh-more c before cs p.1 r.1)

  pub fresh-image : (i : ℕ) (before cs : List Cell) → order_fault W i before cs ≡ fine → Fresh before cs → image_fault W i before cs ≡ fine
  fresh-image i before [] e f = refl
  fresh-image i before (c ∷ cs) e f =
      let t = in_turn (fault_if (misplaced W c before) image_refusal i) _ e in
      rw (passed (misplaced W c before) image_refusal i t.0, fresh-head c before cs f)
      (fresh-image (i + 1) (c ∷ before) cs t.1 (fresh-rest c before cs f))

pub once-fresh : (cs : List Cell) → Once cs → Fresh [] cs
once-fresh cs o a m = (o a m, λ i. absurd (omega arith))

-- behind a first copy of x, the second one
fresh-second : (x : Cell) (before cs : List Cell) → 1 ≤ copies x before → Fresh before cs → Fresh (x ∷ before) cs
fresh-second x before cs l f a m = by_test (of_prefix a m x)
    (λ t. let k = prefix-is x a m t in
    let l' : 1 ≤ times (of_prefix a m) before = rw (← k.1, ← k.2) l in
    rw t ((f a m).0, λ i. (f a m).1 l'))
    (λ t. rw t ((f a m).0, λ i. (f a m).1 (omega arith)))

pub one-repeat : (i : ℕ) (before front : List Cell) (x : Cell) (back : List Cell) → is_free x ≡ false → 1 ≤ times (twin x) front + times (twin x) before
    → copies x before ≤ 1 → Fresh before (front ++ back)
    → (repeat_fault i false before (front ++ (x ∷ back)) ≡ fine) × (repeat_slot i before (front ++ (x ∷ back)) ≡ some (i + length front))
one-repeat i before [] x back u l o f =
    let s = often-sought (twin x) before (omega arith) in
    let is = twin-is x s.cell s.passes in
    let own : of_prefix x.address (length_in x) s.cell ≡ true = rw is (own-prefix x u) in
    let r : repeats x before ≡ true = both _ _ (ap not u) (any-so (same_prefix_in x) s.stands (prefix_same x s.cell own)) in
    let n : contradicts x before ≡ false = is_false (contradicts x before) (λ t.
    let y = sought (other_tag_in x) before (and_parts (not (is_free x)) (any (other_tag_in x) before) t).1 in
    let h = and_parts (same_prefix_in x y.cell) (not (eqb y.cell.tag x.tag)) y.passes in
    let e = once-same (of_prefix x.address (length_in x)) o (same-prefix x y.cell h.0) own y.stands s.stands ∙ is in
    clash (eq-eqb y.cell.tag x.tag (ap (λ c. c.tag) e)) (not-true _ h.1)) in
    let k = no-repeat (i + 1) true (x ∷ before) back
    (fresh-second x before back (member-times (of_prefix x.address (length_in x)) own s.stands) f) in
    (rw (n, r) k.0, rw (r, add-zero))
one-repeat i before (c ∷ front) x back u l o f =
    let r = fresh-head c before (front ++ back) f in
    let n = contradicts-not c before r in
    let k = one-repeat (i + 1) (c ∷ before) front x back u (omega arith) few (fresh-rest c before (front ++ back) f) in
    let e : i + 1 + length front ≡ i + suc (length front) = omega arith in
    (rw (n, r) k.0, rw r (k.1 ∙ ap some e))
  where
    few : copies x (c ∷ before) ≤ 1
    few = by_test (of_prefix x.address (length_in x) c)
        (λ t. let g = rw t at (f x.address (length_in x)) in
        rw t (by_test (ltb 0 (copies x before))
        (λ y. let z = ltb-true 0 (copies x before) y in absurd (omega (arith, g.1 z)))
        (λ y. let z = ltb-false 0 (copies x before) y in omega arith)))
        (λ t. rw t (omega arith))
