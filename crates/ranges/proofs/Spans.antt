-- Where a prefix ends; one that neither starts nor ends between two addresses matches both or neither.
use Rattle.std.proofs.Common.{◌≡◌, ℕ, ◌+◌, ◌-◌, ◌%◌, ◌^◌, ◌<◌, ◌≤◌, Bool, true, false, ltb, leb, sym, refl, ap, ◌∙◌, mod-eq_of_lt, arith}
use native.Mathlib.Nat.{mod_self, mod-add-mod}
use Rattle.route.specs.Rule.{Route, span, matches}
use Rattle.route.specs.RowsOfSet.{Valid}
use Rattle.route.proofs.Tests.{orders, by_test, is_false, clash}
use Rattle.route.proofs.Spans.{matches-span, end-within}
use Rattle.ranges.specs.Ranges.{past_end}

-- one past the last of s addresses from a on, by two sums that wrap
pub past-last : (W a n s : ℕ) → s ≡ span W n → 0 < s → ((a + (s - 1)) % 2 ^ W + 1) % 2 ^ W ≡ (a + span W n) % 2 ^ W
past-last W a n s e pos =
    let whole : a + (s - 1) + 1 ≡ a + span W n = omega arith in
    mod-add-mod (a + (s - 1)) (2 ^ W) 1 ∙ ap (λ x. x % 2 ^ W) whole

-- an end that is not 0 is one past the last address
pub end_past : (W : ℕ) (r : Route) → Valid W r → r.address < 2 ^ W → 0 < past_end W r → past_end W r ≡ r.address + span W r.length
end_past W r v below pos =
    let end = r.address + span W r.length in
    by_test (ltb end (2 ^ W))
    (λ t. mod-eq_of_lt (omega orders))
    (λ t. let e : end ≡ 2 ^ W = omega (orders, end-within W r.address r.length v.short v.aligned below) in
    let z : past_end W r ≡ 0 = rw e (mod_self (2 ^ W)) in absurd (omega arith))

-- x does not separate p from a later q
abbrev pub OneSide : ℕ → ℕ → ℕ → Type 0
OneSide p q x = p < x → q < x

-- two tests that come out true together are one
same_test : (s t : Bool) → (s ≡ true → t ≡ true) → (t ≡ true → s ≡ true) → s ≡ t
same_test true t f g = sym (f refl)
same_test false t f g = sym (is_false t (λ e. clash (g e) refl))

module _ (W : ℕ) (r : Route) (p q : ℕ) (v : Valid W r) (le : p ≤ q) (top : q < 2 ^ W) where
  -- a start that does not separate them
  start_both : OneSide p q r.address → r.address ≤ q → r.address ≤ p
  start_both side h = by_test (leb r.address p) (λ t. omega orders) (λ t. absurd (omega (orders, side (omega orders))))

  -- nor an end, which may be past the last address of all
  end_both : OneSide p q (past_end W r) → p < r.address + span W r.length → q < r.address + span W r.length
  end_both side h = by_test (ltb (r.address + span W r.length) (2 ^ W))
      (λ t. let e : past_end W r ≡ r.address + span W r.length = mod-eq_of_lt (omega orders) in omega (arith, side (omega arith)))
      (λ t. omega orders)

  pub matches_both : OneSide p q r.address → OneSide p q (past_end W r) →
      matches W r.address r.length p ≡ matches W r.address r.length q
  matches_both start end =
      let at_p = matches-span W r.address r.length p v.aligned in
      let at_q = matches-span W r.address r.length q v.aligned in
      same_test _ _
      (λ c. let h = at_p.0 c in at_q.1 (omega arith, end_both end h.1))
      (λ c. let h = at_q.0 c in at_p.1 (start_both start h.0, omega arith))
