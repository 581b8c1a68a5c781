-- The digits of a number are what std prints of it, and at most 20.
use Prim.Native.Nat.{ℕ, suc, zero, ◌/◌, ◌%◌, ◌^◌, ◌≤◌, ◌<◌}
use mathlib.Core.Path.{◌≡◌, refl, sym}
use mathlib.Core.List.{◌++◌}
use mathlib.Core.Bool.{Bool, true, false, cond}
use native.Mathlib.Nat.{div-lt_iff_lt-mul, pow-suc}
use native.Mathlib.Omega.{arith}
use lib.Dec.{ltb}
use borrow.Author.Tests.{lt-ltb, ltb-true, ltb-false}
use lib.ListN.{length, length-append}
use Rattle.std.specs.Fmt.{decimal as printed}
use Rattle.std.proofs.lemmas.Fmt.{decimal_digit, decimal_step}
use Rattle.lines.specs.Texts.{digit, digits, decimal}

tenth : {n : ℕ} (k : ℕ) → n < 10 ^ suc k → n / 10 < 10 ^ k
tenth k h = (div-lt_iff_lt-mul {k = 10} (omega arith)).1 (rw pow-suc at h)

digits-printed : (k n : ℕ) → n < 10 ^ suc k → n < 2 ^ 64 → digits (suc k) n ≡ printed n
digits-printed zero n few fits = let l : n < 10 = omega arith in rw (lt-ltb n 10 l) (sym (decimal_digit n l))
digits-printed (suc k) n few fits = go (ltb n 10) refl (digits-printed k (n / 10) (tenth (suc k) few) (omega arith))
  where
    go : (b : Bool) → ltb n 10 ≡ b → digits (suc k) (n / 10) ≡ printed (n / 10) → cond b (digit n) (digits (suc k) (n / 10) ++ digit (n % 10)) ≡ printed n
    go true e t = sym (decimal_digit n (ltb-true n 10 e))
    go false e t = rw t (sym (decimal_step n (ltb-false n 10 e) fits))

pub decimal-printed : (n : ℕ) → n < 2 ^ 64 → decimal n ≡ printed n
unfolding decimal
decimal-printed n fits = digits-printed 19 n (omega arith) fits

digits-size : (k n : ℕ) → length (digits k n) ≤ k
digits-size zero n = omega arith
digits-size (suc k) n = go (ltb n 10) (digits-size k (n / 10))
  where
    go : (b : Bool) → length (digits k (n / 10)) ≤ k → length (cond b (digit n) (digits k (n / 10) ++ digit (n % 10))) ≤ suc k
    go true h = omega arith
    go false h = omega (arith, length-append (digits k (n / 10)) (digit (n % 10)))

pub decimal-size : (n : ℕ) → length (decimal n) ≤ 20
unfolding decimal
decimal-size n = digits-size 20 n
