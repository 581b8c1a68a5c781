-- Which routes start or end inside a chunk, behind its first address: only those longer than S bits, and only in the chunk of their own
-- address. A shorter one covers whole chunks.
use Prim.Native.Nat.{ℕ, ◌+◌, ◌-◌, ◌*◌, ◌/◌, ◌%◌, ◌^◌, ◌≤◌, ◌<◌}
use mathlib.Core.Path.{◌≡◌, sym, ◌∙◌}
use lib.Dec.{ltb}
use lib.Pow.{pow_pos, shr-shr, mod-mod-pow}
use native.Mathlib.Nat.{div-add-mod', add-mod_right, div-eq_of_lt-le, add-sub_of_le}
use native.Mathlib.Omega.{arith}
use Rattle.route.specs.Rule.{Route, span}
use Rattle.route.specs.RowsOfSet.{Valid}
use Rattle.route.proofs.Tests.{orders, by_test}
use Rattle.route.proofs.Spans.{span_pos, aligned-longer}
use Rattle.ranges.specs.Ranges.{past_end}
use Rattle.ranges.proofs.Spans.{end_past}
use Rattle.dxr.specs.Dxr.{chunk_size}

-- x lies in chunk c and is not its first address
abbrev pub Inside : ℕ → ℕ → ℕ → ℕ → Type 0
Inside W S c x = (c * chunk_size W S < x) × (x < (c + 1) * chunk_size W S)

-- a route longer than S bits with its address in chunk c
abbrev pub LongIn : ℕ → ℕ → ℕ → Route → Type 0
LongIn W S c r = (S < r.length) × (r.address / chunk_size W S ≡ c)

chunk_of : (W S c x : ℕ) → Inside W S c x → x / chunk_size W S ≡ c
chunk_of W S c x h = div-eq_of_lt-le (chunk_size W S) (omega arith) h.1

-- a multiple of a chunk's size lies inside none
not_inside : (W S c x : ℕ) → x % chunk_size W S ≡ 0 → Inside W S c x → ⊥
not_inside W S c x e h = let whole = rw (chunk_of W S c x h, e) at (div-add-mod' x (chunk_size W S)) in omega arith

-- the first and the last number of a block of 2^k lie in one block of 2^(k + j)
last_too : (a j k : ℕ) → a % 2 ^ k ≡ 0 → (a + (2 ^ k - 1)) / 2 ^ (k + j) ≡ a / 2 ^ (k + j)
last_too a j k e = rw (← (shr-shr (a + (2 ^ k - 1)) k j), ← (shr-shr a k j), same)
  where
    same : (a + (2 ^ k - 1)) / 2 ^ k ≡ a / 2 ^ k
    same = div-eq_of_lt-le (2 ^ k) (omega (arith, div-add-mod' a (2 ^ k))) (omega (arith, div-add-mod' a (2 ^ k), pow_pos k))

module _ (W S : ℕ) (narrow : S ≤ W) (r : Route) (v : Valid W r) where
  abbrev end : ℕ
  end = r.address + span W r.length

  whole_chunks_end : r.length ≤ S → past_end W r % chunk_size W S ≡ 0
  whole_chunks_end le =
      rw (add-sub_of_le narrow) at (mod-mod-pow end S (W - S))
      ∙ aligned-longer W end r.length S le narrow (add-mod_right r.address (span W r.length) ∙ v.aligned)

  -- the last address of a prefix of more than S bits is in the chunk of the first
  one_chunk : S < r.length → (r.address + (span W r.length - 1)) / chunk_size W S ≡ r.address / chunk_size W S
  one_chunk long = rw parts at (last_too r.address (r.length - S) (W - r.length) v.aligned)
    where
      parts : W - r.length + (r.length - S) ≡ W - S
      parts = omega (arith, v.short)

  pub start_inside : (c : ℕ) → Inside W S c r.address → LongIn W S c r
  start_inside c h = by_test (ltb S r.length)
      (λ t. (omega orders, chunk_of W S c r.address h))
      (λ t. absurd (not_inside W S c r.address (aligned-longer W r.address r.length S (omega orders) narrow v.aligned) h))

  pub end_inside : (c : ℕ) → r.address < 2 ^ W → Inside W S c (past_end W r) → LongIn W S c r
  end_inside c below h = by_test (ltb S r.length)
      (λ t. (omega orders, sym (one_chunk (omega orders)) ∙ last_in (end_past W r v below (omega arith))))
      (λ t. absurd (not_inside W S c (past_end W r) (whole_chunks_end (omega orders)) h))
    where
      last_in : past_end W r ≡ end → (r.address + (span W r.length - 1)) / chunk_size W S ≡ c
      last_in e = div-eq_of_lt-le (chunk_size W S) (omega (arith, span_pos W r.length)) (omega (arith, span_pos W r.length))
