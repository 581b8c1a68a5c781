-- What tests say: a joint test taken apart and put together, cases on a test, a verdict taken apart.
use Prim.Native.Nat.{ℕ}
use mathlib.Core.Path.{◌≡◌, refl, sym, ◌∙◌}
use mathlib.Core.Bool.{Bool, true, false, cond, ◌&&◌, ◌||◌, true≢false}
use native.Mathlib.Omega.{arith}
use borrow.Author.Tests.{ltb-true, ltb-false, leb-true, leb-false, eqb-true, eqb-false, lt-ltb, le-ltb, le-leb, lt-leb, eq-eqb, ne_eqb}
use Rattle.route.specs.Refusals.{Verdict, fine, fault, fault_if, ◌then◌, Answer, value, refused, unless_fault}

-- from tests to facts: linear arithmetic that also reads the tests that came out one way
pub ruleset orders = (arith, ltb-true, ltb-false, leb-true, leb-false, eqb-true, eqb-false)

-- from facts to tests: what the branches of a function leave, for the tests that a definition makes
pub ruleset tests = (lt-ltb, le-ltb, le-leb, lt-leb, eq-eqb, ne_eqb)

-- cases on a test, with what it says
pub by_test {ℓ} : {C : Type ℓ} (b : Bool) → (b ≡ true → C) → (b ≡ false → C) → C
by_test true f g = f refl
by_test false f g = g refl

-- what holds of both arms holds of the choice
pub either : {A : Type 0} (P : A → Type 0) (t : Bool) {x y : A} → (t ≡ true → P x) → (t ≡ false → P y) → P (cond t x y)
either P true f g = f refl
either P false f g = g refl

pub clash : {A : Type 0} {t : Bool} → t ≡ true → t ≡ false → A
clash e f = absurd (true≢false (sym e ∙ f))

pub is_false : (t : Bool) → (t ≡ true → ⊥) → t ≡ false
is_false true h = absurd (h refl)
is_false false h = refl

-- a joint test taken apart
pub and_parts : (s t : Bool) → (s && t) ≡ true → (s ≡ true) × (t ≡ true)
and_parts true t e = (refl, e)
and_parts false t e = (e, cc)

pub all_three : (s t u : Bool) → (s && t && u) ≡ true → (s ≡ true) × (t ≡ true) × (u ≡ true)
all_three s t u e =
    let h = and_parts (s && t) u e in
    let k = and_parts s t h.0 in
    (k.0, k.1, h.1)

pub or_parts : (s t : Bool) → (s || t) ≡ false → (s ≡ false) × (t ≡ false)
or_parts true t e = (e, cc)
or_parts false t e = (refl, e)

pub or_right : (s t : Bool) → (s || t) ≡ true → s ≡ false → t ≡ true
or_right true t e h = cc
or_right false t e h = e

-- and put together
pub both : (s t : Bool) → s ≡ true → t ≡ true → (s && t) ≡ true
both s t a b = rw (a, b)

pub neither : (s t : Bool) → s ≡ false → t ≡ false → (s || t) ≡ false
neither s t a b = rw (a, b)

pub not-both : (s t : Bool) → (s ≡ true → t ≡ true → ⊥) → (s && t) ≡ false
not-both true t h = is_false t (h refl)
not-both false t h = refl

-- two tests in turn that found nothing
pub in_turn : (u v : Verdict) → (u then v) ≡ fine → (u ≡ fine) × (v ≡ fine)
in_turn fine v e = (refl, e)
in_turn (fault n p) v e = (e, cc)

pub passed : (b : Bool) (number place : ℕ) → fault_if b number place ≡ fine → b ≡ false
passed true n p e = cc
passed false n p e = refl

-- a call that answered a value found no fault, and one that refused found the fault
pub answered : (u : Verdict) (a : Answer) {v : ℕ} → value v ≡ unless_fault u a → u ≡ fine
answered fine a e = refl
answered (fault n p) a e = cc

pub refuses : (u : Verdict) (v : ℕ) {n p : ℕ} → refused n p ≡ unless_fault u (value v) → fault n p ≡ u
refuses fine v e = cc
refuses (fault n p) v e = cc
