-- Numbers as they are written and read: the reader accepts the bytes of each number below 2^32, and no other bytes.
--
-- Each way is an induction on the groups that are left. The laws on the bytes that stand at a place serve numbers and updates alike.
use Prim.Native.Nat.{ℕ, zero, suc, ◌+◌, ◌-◌, ◌*◌, ◌/◌, ◌%◌, ◌^◌, ◌≤◌, ◌<◌}
use mathlib.Core.Path.{◌≡◌, refl, ◌∙◌, ap, ap₂}
use mathlib.Core.Bool.{false}
use mathlib.Core.List.{List, [], ◌∷◌, ◌++◌, append_assoc}
use lib.Dec.{ltb, eqb}
use lib.ListN.{length, take, drop, get_or, length-append}
use lib.Seq.{take_at, drop-append_seam, drop-drop, get_or-drop}
use native.Mathlib.Nat.{div-add-mod', pow-suc, mul-le-mul_right}
use native.Mathlib.Numerals.{add-one}
use native.Mathlib.Omega.{arith}
use borrow.Author.Tests.{eqb-true, ne_eqb, ltb-true, le-ltb}
use Rattle.route.proofs.Tests.{orders, by_test, neither, not-both}
use Rattle.records.proofs.Bytes.{no_number_lem, fifth, not-zero, more-bad, group-most}
use Rattle.records.specs.Records.{number, bad_byte, number_in, number_at}
use Rattle.records.specs.Written.{groups, number_bytes}

-- a byte of four bits where it is the fifth, and not 0 where it is behind the first, is not bad
good-byte : (k b : ℕ) → (k ≡ 4 → b ≤ 15) → (1 ≤ k → 1 ≤ b) → bad_byte k b ≡ false
good-byte k b top some =
    neither _ _ (not-both (eqb k 4) (ltb 15 b) (λ s t. omega (orders, top (eqb-true k 4 s))))
    (not-both (ltb 0 k) (eqb b 0) (λ s t. omega (orders, some (ltb-true 0 k s))))

-- two groups of adjacent weights in one
regroup : (k g w : ℕ) → g * 128 ^ k + w * 128 ^ (k + 1) ≡ (w * 128 + g) * 128 ^ k
regroup k g w = rw (add-one k, pow-suc 128 k) (omega arith)

-- the groups of w, at most f, behind k groups of the value v are read as the number of all of them
groups-read : (f first k v w : ℕ) (ys : List ℕ) → f + k ≡ 5 → (1 ≤ k → 1 ≤ w) → w * 128 ^ k < 2 ^ 32
    → number_in first k v (groups f w ++ ys) ≡ number (v + w * 128 ^ k) (first + k + length (groups f w))
groups-read zero first k v w ys five some fits =
    let all : k ≡ 5 = omega arith in absurd (omega (arith, rw all at fits, some (omega arith)))
groups-read (suc f) first k v w ys five some fits =
    let top : k ≡ 4 → w ≤ 15 = λ e. omega (arith, rw e at fits) in
    by_test (ltb w 128)
    (λ last. let good = good-byte k w top some in rw (last, good, last))
    (λ more.
    let b = 128 + w % 128 in
    let good : bad_byte k b ≡ false = more-bad k b (omega arith) ∙ ne_eqb k 4 (λ e. omega (orders, top e)) in
    let group : b - 128 ≡ w % 128 = omega arith in
    let whole : w % 128 * 128 ^ k + w / 128 * 128 ^ (k + 1) ≡ w * 128 ^ k = rw div-add-mod' at (regroup k (w % 128) (w / 128)) in
    rw (more, good, le-ltb b 128 (omega arith), group)
    (groups-read f first (k + 1) (v + w % 128 * 128 ^ k) (w / 128) ys (omega arith) (λ h. omega orders) (omega arith)
    ∙ ap₂ number (omega arith) (omega arith)))

-- a number that was read behind k groups of the value v: its groups w, and the bytes behind them
record Groups (f first k v : ℕ) (bs : List ℕ) (x next : ℕ) : Type 0 where
  w : ℕ
  rest : List ℕ
  bytes : bs ≡ groups f w ++ rest
  value : x ≡ v + w * 128 ^ k
  place : next ≡ first + k + length (groups f w)
  some : 1 ≤ k → 1 ≤ w
  fits : w * 128 ^ k + 128 ^ k ≤ 2 ^ 32

-- one byte more in front of the groups
more-form : {f first k v b : ℕ} {bs : List ℕ} {x next : ℕ} → 128 ≤ b → b < 256 → Groups f first (k + 1) (v + (b - 128) * 128 ^ k) bs x next
    → Groups (suc f) first k v (b ∷ bs) x next
more-form {f} {first} {k} {v} {b} {bs} l byte g =
    let w = g.w * 128 + (b - 128) in
    let some : 1 ≤ g.w = g.some (omega arith) in
    let low : 128 + w % 128 ≡ b = omega arith in
    let high : w / 128 ≡ g.w = omega arith in
    let all : groups (suc f) w ≡ b ∷ groups f g.w = rw (le-ltb w 128 (omega arith), low, high) in
    let whole = regroup k (b - 128) g.w in
    let least : b - 128 ≤ 127 = omega arith in
    record {
      w = w;
      rest = g.rest;
      bytes = rw (all, ← g.bytes);
      value = omega (arith, g.value);
      place = rw all (omega (arith, g.place));
      some = λ _. omega arith;
      fits = omega (arith, g.fits, mul-le-mul_right (128 ^ k) least, regroup k 0 1);
    }

-- what is read behind k groups are groups in the form in which they are written
groups-form : (f first k v : ℕ) (bs : List ℕ) {x next : ℕ} → f + k ≡ 5 → k ≤ 4 → ((i : ℕ) → get_or bs i 0 < 256)
    → number_in first k v bs ≡ number x next
    → Groups f first k v bs x next
groups-form zero first k v bs five few byte e = absurd (omega arith)
groups-form (suc f) first k v [] five few byte e = no_number_lem e
groups-form (suc f) first k v (b ∷ bs) {x} {next} five few byte e =
    by_test (bad_byte k b) (λ bad. no_number_lem (rw bad at e))
    (λ good.
    by_test (ltb b 128)
    (λ last.
    let value : x ≡ v + b * 128 ^ k = cc (rw (good, last) at e) in
    let place : next ≡ first + k + 1 = cc (rw (good, last) at e) in
    record {
      w = b;
      rest = bs;
      bytes = rw last;
      value = value;
      place = rw last place;
      some = not-zero k b good;
      fits = group-most k (128 ^ k) b few refl (omega orders) (fifth k b good);
    })
    (λ more.
    let early : k ≡ 4 → ⊥ = λ top. omega (orders, fifth k b good top) in
    more-form (omega orders) (byte 0)
    (groups-form f first (k + 1) (v + (b - 128) * 128 ^ k) bs (omega arith) (omega arith) (λ i. byte (suc i)) (rw (good, more) at e))))

-- bytes that stand at a place, with the place behind them
pub record Stands (bs ws : List ℕ) (at next : ℕ) : Type 0 where
  pub bytes : drop at bs ≡ ws ++ drop next bs
  pub place : next ≡ at + length ws

-- what follows bytes at a place stands at the place behind them
behind : (bs : List ℕ) (at : ℕ) (ws ys : List ℕ) → drop at bs ≡ ws ++ ys → drop (at + length ws) bs ≡ ys
behind bs at ws ys e = rw (← drop-drop (length ws) at bs, e) (drop-append_seam ws ys)

-- bytes in front of others at a place stand there
stands_at : {bs ws : List ℕ} {at next : ℕ} (ys : List ℕ) → drop at bs ≡ ws ++ ys → next ≡ at + length ws → Stands bs ws at next
stands_at {bs} {ws} {at} {next} ys e n = record { bytes = rw (n, behind bs at ws ys e) e; place = n }

-- bytes between others stand behind the first
pub stands-between : (xs ws ys : List ℕ) → Stands (xs ++ (ws ++ ys)) ws (length xs) (length xs + length ws)
stands-between xs ws ys = stands_at ys (drop-append_seam xs (ws ++ ys)) refl

-- bytes that stand at a place are those up to the place behind them
pub stands-taken : {bs ws : List ℕ} {at next : ℕ} → Stands bs ws at next → take (next - at) (drop at bs) ≡ ws
stands-taken {bs} {ws} {at} {next} s = rw s.bytes (take_at ws (drop next bs) (next - at) (omega (arith, s.place)))

-- bytes and the bytes behind them stand there together
pub stands-joined : {bs ws vs : List ℕ} {at m next : ℕ} → Stands bs ws at m → Stands bs vs m next → Stands bs (ws ++ vs) at next
stands-joined {bs} {ws} {vs} {at} {m} {next} s t =
    record { bytes = s.bytes ∙ rw (t.bytes, append_assoc ws vs (drop next bs)); place = rw length-append (omega (arith, s.place, t.place)) }

-- and apart
pub stands_parts : {bs : List ℕ} (ws vs : List ℕ) {at next : ℕ} → Stands bs (ws ++ vs) at next
    → Stands bs ws at (at + length ws) × Stands bs vs (at + length ws) next
stands_parts {bs} ws vs {at} {next} s =
    let e : drop at bs ≡ ws ++ (vs ++ drop next bs) = s.bytes ∙ append_assoc ws vs (drop next bs) in (
      stands_at _ e refl,
      record { bytes = behind bs at ws _ e; place = omega (arith, s.place, length-append ws vs) },
    )

-- the bytes of a number below 2^32 are read as the number
pub stands-number : {bs : List ℕ} {at next : ℕ} (v : ℕ) → v < 2 ^ 32 → Stands bs (number_bytes v) at next → number_at bs at ≡ number v next
unfolding number_bytes
stands-number {bs} {at} {next} v l s =
    ap (number_in at 0 0) s.bytes
    ∙ groups-read 5 at 0 0 v (drop next bs) (omega arith) (λ h. omega arith) (omega arith)
    ∙ ap₂ number (omega arith) (omega (arith, s.place))

-- a number that is read is below 2^32, and its bytes stand there
pub number-stands : (bs : List ℕ) (at : ℕ) {v next : ℕ} → ((i : ℕ) → get_or bs i 0 < 256) → number_at bs at ≡ number v next
    → (v < 2 ^ 32) × Stands bs (number_bytes v) at next
unfolding number_bytes
number-stands bs at {v} {next} byte e =
    let g = groups-form 5 at 0 0 (drop at bs) (omega arith) (omega arith) (λ i. rw get_or-drop (byte (at + i))) e in
    let value : g.w ≡ v = omega (arith, g.value) in
    let written : Stands bs (number_bytes g.w) at next = stands_at g.rest g.bytes (omega (arith, g.place)) in
    (omega (arith, g.fits), rw value at written)

-- numbers, written then read
pub written-number : (xs ys : List ℕ) (v : ℕ) → v < 2 ^ 32
    → number_at (xs ++ (number_bytes v ++ ys)) (length xs) ≡ number v (length xs + length (number_bytes v))
written-number xs ys v l = stands-number v l (stands-between xs (number_bytes v) ys)

-- numbers, one form
pub number-form : (bs : List ℕ) (at : ℕ) {v next : ℕ} → ((i : ℕ) → get_or bs i 0 < 256) → number_at bs at ≡ number v next
    → (v < 2 ^ 32) × (take (next - at) (drop at bs) ≡ number_bytes v)
number-form bs at byte e = let s = number-stands bs at byte e in (s.0, stands-taken s.1)
