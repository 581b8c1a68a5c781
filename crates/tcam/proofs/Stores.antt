-- Writes made in a row: it keeps its length, and a place holds what the last write to it says. So writes that are made once more, with others
-- behind them, leave what they leave the first time.
use Rattle.std.proofs.Common.{◌≡◌, ℕ, zero, suc, ◌<◌, ◌≤◌, Bool, false, eqb, List, [], ◌∷◌, length, get_or, take, set, sym, refl, ◌∙◌, arith, length-set, get_or-set_other, get_or-set_same, ext_get_or, eqb-true}
use borrow.Author.Tests.{eqb-false}
use Rattle.route.specs.Refusals.{Verdict, fine, fault}
use Rattle.route.specs.Lists.{any}
use Rattle.route.proofs.Tests.{by_test, or_parts, neither}
use Rattle.tcam.specs.Slots.{Cell}
use Rattle.tcam.specs.Plans.{Write}
use Rattle.tcam.specs.Applies.{stored, stored_if}

-- whether a write is to slot i
abbrev is_to : ℕ → Write → Bool
is_to i w = eqb i w.slot

-- what none of the first k writes is, none of fewer is
none-of-fewer : {A : Type 0} (p : A → Bool) (j k : ℕ) (xs : List A) → j ≤ k → any p (take k xs) ≡ false → any p (take j xs) ≡ false
none-of-fewer p zero k xs l e = refl
none-of-fewer p (suc j) zero xs l e = absurd (omega arith)
none-of-fewer p (suc j) (suc k) [] l e = refl
none-of-fewer p (suc j) (suc k) (x ∷ xs) l e =
    let parts = or_parts (p x) (any p (take k xs)) e in
    neither (p x) (any p (take j xs)) parts.0 (none-of-fewer p j k xs (omega arith) parts.1)

module _ (part : Cell → ℕ) where
  pub length-stored : (row : List ℕ) (ws : List Write) → length (stored part row ws) ≡ length row
  length-stored row [] = refl
  length-stored row (w ∷ ws) = length-stored (set row w.slot (part w.cell)) ws ∙ length-set row w.slot (part w.cell)

  pub length-stored_if : (v : Verdict) (row : List ℕ) (ws : List Write) → length (stored_if v part row ws) ≡ length row
  length-stored_if fine row ws = length-stored row ws
  length-stored_if (fault n p) row ws = refl

  -- a place to which nothing is written
  left_alone : (i : ℕ) (row : List ℕ) (ws : List Write) → any (is_to i) ws ≡ false → get_or (stored part row ws) i 0 ≡ get_or row i 0
  left_alone i row [] e = refl
  left_alone i row (w ∷ ws) e =
      let parts = or_parts (is_to i w) (any (is_to i) ws) e in
      left_alone i (set row w.slot (part w.cell)) ws parts.1
      ∙ get_or-set_other row w.slot i (part w.cell) 0 (eqb-false i w.slot parts.0)

  -- two rows that agree where nothing is written have the same numbers afterwards
  same_at : (i : ℕ) (xs ys : List ℕ) (ws : List Write) → i < length xs → length xs ≡ length ys →
      (any (is_to i) ws ≡ false → get_or xs i 0 ≡ get_or ys i 0) → get_or (stored part xs ws) i 0 ≡ get_or (stored part ys ws) i 0
  same_at i xs ys [] l e h = h refl
  same_at i xs ys (w ∷ ws) l e h =
      let x = part w.cell in
      same_at i (set xs w.slot x) (set ys w.slot x) ws (rw (length-set xs w.slot x) l)
      (length-set xs w.slot x ∙ e ∙ sym (length-set ys w.slot x))
      (λ none. by_test (is_to i w)
      (λ here. rw (← (eqb-true i w.slot here)) (get_or-set_same xs i x 0 l ∙ sym (get_or-set_same ys i x 0 (rw e at l))))
      (λ off.
      let other = eqb-false i w.slot off in
      get_or-set_other xs w.slot i x 0 other
      ∙ h (neither (is_to i w) (any (is_to i) ws) off none)
      ∙ sym (get_or-set_other ys w.slot i x 0 other)))

  -- the first j writes, made or refused, and then the first k from the start
  module _ (j k : ℕ) (l : j ≤ k) (row : List ℕ) (ws : List Write) where
    pub stored-again : stored part (stored part row (take j ws)) (take k ws) ≡ stored part row (take k ws)
    stored-again =
        let x = stored part row (take j ws) in
        ext_get_or 0 (stored part x (take k ws)) (stored part row (take k ws))
        (length-stored x (take k ws) ∙ length-stored row (take j ws) ∙ sym (length-stored row (take k ws)))
        (λ i within. same_at i x row (take k ws) (rw (length-stored x (take k ws)) at within) (length-stored row (take j ws))
        (λ none. left_alone i row (take j ws) (none-of-fewer (is_to i) j k ws l none)))

    pub stored_if-again : (v : Verdict) → stored part (stored_if v part row (take j ws)) (take k ws) ≡ stored part row (take k ws)
    stored_if-again fine = stored-again
    stored_if-again (fault n p) = refl
