-- A filter's word with some bits more.
use Prim.Native.Nat.{ℕ, zero, suc, ◌+◌, ◌/◌, ◌%◌, ◌<◌, max}
use mathlib.Core.Path.{◌≡◌, refl, sym, ap, ◌∙◌}
use mathlib.Core.Bool.{Bool, true, false}
use mathlib.Core.List.{List}
use native.Mathlib.Omega.{arith}
use native.Mathlib.Numerals.{add-one}
use borrow.Author.Tests.{eqb-true, eqb-false, eq-eqb}
use lib.Arith.{bin_ind, digits_div, digits_mod}
use lib.Bits.{bit_or, or_step, or_comm, or_self}
use lib.Dec.{eqb}
use lib.ListN.{length, get_or, set, length-set}
use lib.Seq.{get_or-set_same, get_or-set_other}
use Rattle.route.specs.Lists.{any}
use Rattle.route.specs.Loops.{before, places_from}
use Rattle.route.specs.Filter.{hash_of, word_in, bits_of, has_bits, is_noted, Noting}
use Rattle.route.proofs.Tests.{by_test, is_false, clash, or_parts, or_right}

or-half : (a b : ℕ) → bit_or a b / 2 ≡ bit_or (a / 2) (b / 2)
or-half a b = ap (λ (n : ℕ). n / 2) (or_step a b) ∙ digits_div (bit_or (a / 2) (b / 2)) {m = 2} (omega arith)

or-last : (a b : ℕ) → bit_or a b % 2 ≡ max (a % 2) (b % 2)
or-last a b = ap (λ (n : ℕ). n % 2) (or_step a b) ∙ digits_mod (bit_or (a / 2) (b / 2)) {m = 2} (omega arith)

or_assoc : (a b c : ℕ) → bit_or (bit_or a b) c ≡ bit_or a (bit_or b c)
or_assoc a =
    bin_ind (λ (n : ℕ). (b c : ℕ) → bit_or (bit_or n b) c ≡ bit_or n (bit_or b c)) (λ b c. refl)
    (λ n ih b c.
    let high : bit_or (bit_or n b / 2) (c / 2) ≡ bit_or (n / 2) (bit_or b c / 2) = rw (or-half n b, or-half b c) (ih (b / 2) (c / 2)) in
    let low : max (bit_or n b % 2) (c % 2) ≡ max (n % 2) (bit_or b c % 2) = rw (or-last n b, or-last b c) (omega arith) in
    or_step (bit_or n b) c ∙ (rw (high, low)) ∙ sym (or_step n (bit_or b c))) a

-- some bits of word w are set: they are there then, and what was there still is. Which word and which bits stands open.
module _ (row : List ℕ) (w bits : ℕ) (l : w < length row) where
  pub set-bits : has_bits (set row w (bit_or (get_or row w 0) bits)) w bits ≡ true
  set-bits =
      let x = get_or row w 0 in
      rw (get_or-set_same row w (bit_or x bits) 0 l) (eq-eqb _ _ (or_assoc x bits bits ∙ ap (bit_or x) (or_self bits)))

  pub kept-bits : (v more : ℕ) → has_bits row v more ≡ true → has_bits (set row w (bit_or (get_or row w 0) bits)) v more ≡ true
  kept-bits v more h =
      let x = get_or row w 0 in
      by_test (eqb v w)
      (λ e.
      let there : bit_or x more ≡ x = eqb-true (bit_or x more) x (rw (eqb-true v w e) at h) in
      rw (eqb-true v w e, get_or-set_same row w (bit_or x bits) 0 l)
      (eq-eqb _ _ (or_assoc x bits more ∙ ap (bit_or x) (or_comm bits more) ∙ sym (or_assoc x more bits) ∙ ap (λ (y : ℕ). bit_or y bits) there)))
      (λ e. rw (get_or-set_other row w v (bit_or x bits) 0 (eqb-false v w e)) h)

-- a prefix is noted by its word and its bits
module _ {row : List ℕ} {a n h w bits : ℕ} (is : h ≡ hash_of a n) (at : w ≡ word_in (length row) h) (l : w < length row) (are : bits ≡ bits_of h) where
  pub noting : Noting row a n (has_bits row w bits) (set row w (bit_or (get_or row w 0) bits))
  unfolding is_noted
  noting = record {
    asked = rw (at, are, is);
    noted = rw (length-set row w (bit_or (get_or row w 0) bits), ← is, ← at, ← are) (set-bits row w bits l);
    kept = λ b m k. rw (length-set row w (bit_or (get_or row w 0) bits)) (kept-bits row w bits l (word_in (length row) (hash_of b m)) (bits_of (hash_of b m)) k);
  }

-- before a search among what stands before place i: each prefix that stands there was noted
pub record NotedBefore {A : Type 0} (same : A → A → Bool) (address len : A → ℕ) (at : ℕ → A) (row : List ℕ) (i : ℕ) : Type 0 where
  pub words : 0 < length row
  pub each : (x : A) → any (same x) (before at i) ≡ true → is_noted row (address x) (len x) ≡ true

module _ {A : Type 0} {same : A → A → Bool} {address len : A → ℕ} {at : ℕ → A} {row : List ℕ} {i : ℕ} (h : NotedBefore same address len at row i) where
  pub noted-none : (x : A) → is_noted row (address x) (len x) ≡ false → any (same x) (before at i) ≡ false
  noted-none x e = is_false (any (same x) (before at i)) (λ k. clash (h.each x k) e)

  -- y is what stands at place i
  pub noted-turn : ((x y : A) → same x y ≡ true → (address x ≡ address y) × (len x ≡ len y)) → {y : A} → y ≡ at i →
      {was : Bool} {row' : List ℕ} → Noting row (address y) (len y) was row' → length row' ≡ length row → NotedBefore same address len at row' (i + 1)
  noted-turn one {y} is t l = record {
    words = rw l h.words;
    each = λ x k. by_test (same x y)
        (λ e. let o = one x y e in rw (o.0, o.1) t.noted)
        (λ e. t.kept (address x) (len x) (h.each x (or_right (same x y) (any (same x) (before at i)) (rw (add-one i, ← is) at k) e)));
  }

  -- what stands at the next k places has no prefix
  pub noted-pass : {has : A → Bool} → ((x y : A) → has y ≡ false → same x y ≡ false) → (k : ℕ) → any has (places_from at i k) ≡ false →
      NotedBefore same address len at row (i + k)
  noted-pass w zero e = let z : i + 0 ≡ i = omega arith in rw z h
  noted-pass {has} w (suc k) e =
      let z : i + suc k ≡ suc (i + k) = omega arith in
      let parts = or_parts (has (at (i + k))) _ e in
      let b = noted-pass w k parts.1 in
      record { words = h.words; each = λ x j. b.each x (or_right (same x (at (i + k))) _ (rw z at j) (w x (at (i + k)) parts.0)) }
