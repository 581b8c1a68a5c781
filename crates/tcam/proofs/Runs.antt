-- A slot that repeats an earlier prefix repeats one in the run of its own length, where no slot up to it breaks S1 to S4. So the image
-- test by runs finds the same first broken slot. In a run a prefix stands exactly where its address does.
use Rattle.std.proofs.Common.{◌≡◌, ℕ, ◌+◌, ◌/◌, Bool, true, false, not, ◌&&◌, ◌||◌, eqb, ltb, List, [], ◌∷◌, refl, ap, arith, ltb-false, ltb-true, lt-ltb, eq-eqb, eqb-true, leb-false}
use mathlib.Core.Bool.{and-true, or-true}
use borrow.Author.Tests.{eqb-false, not-true}
use Rattle.route.specs.Refusals.{Verdict, fault_if, ◌then◌, image_refusal}
use Rattle.route.specs.Lists.{any}
use Rattle.tcam.specs.Slots.{Cell, is_free, is_upper, is_lower, length_in, longer_than_nearest, same_prefix_in, misplaced, repeats, breaks, image_fault}
use Rattle.tcam.specs.Plans.{of_length}
use Rattle.tcam.specs.Runs.{run_of, repeats_in_run, fault_by_runs, InOrder}
use Rattle.route.proofs.Members.{none-stronger}
use Rattle.route.proofs.Tests.{by_test, both, neither, all_three, and_parts, or_parts, not-both, is_false, clash}
use Rattle.tcam.proofs.Cells.{placed}

-- an entry shorter than n
abbrev pub shorter : ℕ → Cell → Bool
shorter n x = not (is_free x) && ltb (length_in x) n

module _ (W : ℕ) where
  -- S2 holds up to a slot: no entry before it is shorter
  pub none-shorter : (c : Cell) (before : List Cell) → InOrder W before → longer_than_nearest c before ≡ false → any (shorter (length_in c)) before ≡ false
  none-shorter c [] o e = refl
  none-shorter c (b ∷ bs) o e = by_test (is_free b)
      (λ t. rw t (none-shorter c bs o.1 (rw t at e)))
      (λ t. let h = rw t at e in
      let le = ltb-false (length_in b) (length_in c) h in
      rw (t, h)
      (none-stronger (shorter (length_in c)) (shorter (length_in b))
      (λ x y.
      let k = and_parts (not (is_free x)) _ y in
      both _ _ k.0 (lt-ltb (length_in x) (length_in b) (omega (arith, ltb-true (length_in x) (length_in c) k.1))))
      bs (none-shorter b bs o.1 ((placed W b bs o.0).falls t))))

  -- a test that only entries with the prefix of c pass, as the test of S5 is
  module _ (c : Cell) (p : Cell → Bool) (only : (x : Cell) → p x ≡ true → same_prefix_in c x ≡ true) where
    has-prefix : (x : Cell) → p x ≡ true → (is_free x ≡ false) × (length_in x ≡ length_in c)
    has-prefix x e =
        let t = all_three (not (is_free x)) (eqb x.address c.address) (eqb (length_in x) (length_in c)) (only x e) in
        (not-true (is_free x) t.0, eqb-true _ _ t.2)

    -- the slot b ends the run, free or of another length: it does not pass, and none before it does
    outside : (b : Cell) (bs : List Cell) → InOrder W (b ∷ bs) → is_free c ≡ false → (is_upper W c && any is_free (b ∷ bs)) ≡ false
        → any (shorter (length_in c)) (b ∷ bs) ≡ false → of_length (length_in c) b ≡ false → any p (b ∷ bs) ≡ false
    outside b bs o u packed least other = neither (p b) (any p bs)
        (is_false (p b) (λ y. let k = has-prefix b y in clash (rw k.0 (eq-eqb (length_in b) (length_in c) k.1)) other))
        (by_test (is_free b)
        (λ t. let low = leb-false (W / 2) (length_in c) (is_false _ (λ i. clash (both (is_upper W c) (any is_free (b ∷ bs)) (rw u i) (rw t)) packed)) in
        none-stronger p (is_lower W) (λ x y. let k = has-prefix x y in rw k.0 (lt-ltb (length_in x) (W / 2) (omega (arith, k.1))))
        bs ((placed W b bs o.0).sunk t))
        (λ t. let ne = eqb-false (length_in b) (length_in c) (rw t at other) in
        let le = ltb-false (length_in b) (length_in c) (rw t at (or_parts (shorter (length_in c) b) _ least).0) in
        none-stronger p (shorter (length_in b)) (λ x y. let k = has-prefix x y in rw k.0 (lt-ltb (length_in x) (length_in b) (omega (arith, k.1))))
        bs (none-shorter b bs o.1 ((placed W b bs o.0).falls t))))

    in-run : (before : List Cell) → InOrder W before → is_free c ≡ false → (is_upper W c && any is_free before) ≡ false
        → any (shorter (length_in c)) before ≡ false → any p before ≡ any p (run_of (length_in c) before)
    in-run [] o u packed least = refl
    in-run (b ∷ bs) o u packed least = by_test (of_length (length_in c) b)
        (λ t. rw t (ap (λ (r : Bool). p b || r)
        (in-run bs o.1 u (not-both _ _ (λ i j. clash (both (is_upper W c) (any is_free (b ∷ bs)) i (rw j (or-true (is_free b)))) packed))
        (or_parts (shorter (length_in c) b) _ least).1)))
        (λ t. rw t (outside b bs o u packed least t))

    -- so where S1 to S4 hold up to c, it is passed before c exactly where it is passed in the run
    pub run_holds_lem : (before : List Cell) → InOrder W (c ∷ before) → is_free c ≡ false → any p before ≡ any p (run_of (length_in c) before)
    run_holds_lem before o u =
        let q = placed W c before o.0 in
        in-run before o.1 u q.packed (none-shorter c before o.1 (q.falls u))

  pub repeats-in-run : (c : Cell) (before : List Cell) → InOrder W (c ∷ before) → repeats c before ≡ repeats_in_run c before
  repeats-in-run c before o = by_test (is_free c) (λ t. rw t) (λ t. rw t (run_holds_lem c (same_prefix_in c) (λ x e. e) before o t))

  -- the slots before are in order: the first fault is the same
  fault-by-runs-from : (i : ℕ) (before cs : List Cell) → InOrder W before → fault_by_runs W i before cs ≡ image_fault W i before cs
  fault-by-runs-from i before [] o = refl
  fault-by-runs-from i before (c ∷ cs) o = by_test (misplaced W c before)
      (λ t. rw t)
      (λ t. rw (← (repeats-in-run c before (t, o)))
      (ap (λ (v : Verdict). fault_if (breaks W c before) image_refusal i then v) (fault-by-runs-from (i + 1) (c ∷ before) cs (t, o))))

  pub fault-by-runs : (cs : List Cell) → fault_by_runs W 0 [] cs ≡ image_fault W 0 [] cs
  fault-by-runs cs = fault-by-runs-from 0 [] cs tt

-- in the run of its length a prefix stands exactly where its address does
pub run-addresses : (c : Cell) (before : List Cell) →
    any (same_prefix_in c) (run_of (length_in c) before) ≡ any (λ b. eqb b.address c.address) (run_of (length_in c) before)
run-addresses c [] = refl
run-addresses c (b ∷ bs) = by_test (of_length (length_in c) b)
    (λ t.
    let k = and_parts (not (is_free b)) (eqb (length_in b) (length_in c)) t in
    rw (t, k.0, k.1, and-true (eqb b.address c.address), run-addresses c bs))
    (λ t. rw t)
