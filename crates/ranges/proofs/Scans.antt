-- The lookup's passes: one over all ranges that tests and counts, and one that stops at the first range that breaks a rule.
use Rattle.std.proofs.Common.{◌≡◌, ℕ, suc, ◌+◌, ◌<◌, ◌≤◌, Bool, false, ◌||◌, List, [], ◌∷◌, length, get_or, sym, refl, ap, ◌∙◌, arith, drop_of_length-le, leb-false}
use mathlib.Core.Bool.{or-false}
use Rattle.route.specs.Refusals.{fine, fault_if, value, image_refusal}
use Rattle.route.proofs.Tests.{or_parts, neither, in_turn, passed}
use Rattle.ranges.specs.Ranges.{Range, hops_of, breaks, ranges_fault}
use Rattle.ranges.specs.Loops.{range_at, behind, any_breaks, behind_broken, behind_fault, behind_answer, below}
use Rattle.ranges.proofs.Rows.{ranges-at, hops_say}
use Rattle.ranges.proofs.Counting.{StartsRise, hop_at-below}

-- ranges of which none breaks a rule: there is no fault, and starts rise
unbroken-fine : (i : ℕ) (p : Range) (rs : List Range) → any_breaks p rs ≡ false → ranges_fault i p rs ≡ fine
unbroken-fine i p [] e = refl
unbroken-fine i p (r ∷ rs) e =
    let b = or_parts (breaks p r) (any_breaks r rs) e in
    rw b.0 (unbroken-fine (i + 1) r rs b.1)

-- and ranges without a fault are such
fine-unbroken : (i : ℕ) (p : Range) (rs : List Range) → ranges_fault i p rs ≡ fine → any_breaks p rs ≡ false
fine-unbroken i p [] e = refl
fine-unbroken i p (r ∷ rs) e =
    let t = in_turn (fault_if (breaks p r) image_refusal i) _ e in
    neither (breaks p r) _ (passed _ _ _ t.0) (fine-unbroken (i + 1) r rs t.1)

pub behind-unbroken : (ss hs : List ℕ) → fine ≡ behind_fault ss hs 0 → behind_broken ss hs 0 ≡ false
behind-unbroken ss hs e = fine-unbroken 1 (range_at ss hs 0) (behind ss hs 0) (sym e)

unbroken-rise : (p : Range) (rs : List Range) → any_breaks p rs ≡ false → StartsRise (suc p.start) rs
unbroken-rise p [] e = tt
unbroken-rise p (r ∷ rs) e =
    let b = or_parts (breaks p r) (any_breaks r rs) e in
    let up = leb-false r.start p.start (or_parts _ _ (or_parts _ _ b.0).0).0 in
    (omega arith, unbroken-rise r rs b.1)

-- behind the last range there is none
behind-none : (ss hs : List ℕ) (i : ℕ) → length ss ≤ i + 1 → behind ss hs i ≡ []
behind-none ss hs i l = rw (drop_of_length-le ss l)

-- none of the ranges up to range i breaks a rule
pub record Seeking (ss hs : List ℕ) (i : ℕ) : Type 0 where
  pub equal : length ss ≡ length hs
  pub left : behind_fault ss hs i ≡ behind_fault ss hs 0

-- of the ranges behind the first, up to range i: whether one breaks a rule, and how many start at or below q
pub record Tested (ss hs : List ℕ) (q : ℕ) (bad : Bool) (n i : ℕ) : Type 0 where
  pub equal : length ss ≡ length hs
  pub within : i < length ss
  pub few : n ≤ i
  pub broken : (bad || behind_broken ss hs i) ≡ behind_broken ss hs 0
  pub counted : n + below (behind ss hs i) q ≡ below (behind ss hs 0) q

module _ {ss hs : List ℕ} {q : ℕ} {bad : Bool} {n i : ℕ} (t : Tested ss hs q bad n i) (l : length ss ≤ i + 1) where
  pub tested-none : bad ≡ false → behind_broken ss hs 0 ≡ false
  tested-none e = sym (sym (or-false bad) ∙ (rw (behind-none ss hs i l) at t.broken)) ∙ e

  pub tested-good : behind_broken ss hs 0 ≡ false → value (get_or hs n 0) ≡ behind_answer ss hs 0 q
  tested-good none =
      let p = range_at ss hs 0 in
      let rs = behind ss hs 0 in
      let n-is : n ≡ below rs q = omega (arith, rw (behind-none ss hs i l) at t.counted) in
      let zero_in : 0 < length ss = omega (arith, t.within) in
      let row : p.hop ∷ hops_of rs ≡ hs = ap hops_of (sym (ranges-at ss hs 0 t.equal zero_in)) ∙ hops_say ss hs t.equal in
      rw (unbroken-fine 1 p rs none, hop_at-below p.hop (suc p.start) rs q (unbroken-rise p rs none), row, ← n-is)
