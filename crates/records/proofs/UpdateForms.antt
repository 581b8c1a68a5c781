-- Updates as they are written and read: the reader accepts the bytes of each valid update, and no other bytes.
use Prim.Native.Nat.{ℕ, ◌+◌, ◌-◌, ◌*◌, ◌/◌, ◌%◌, ◌^◌, ◌≤◌, ◌<◌}
use mathlib.Core.Path.{◌≡◌, refl, ◌∙◌}
use mathlib.Core.Bool.{cond}
use mathlib.Core.List.{List, ◌++◌}
use lib.Dec.{ltb, eqb}
use lib.ListN.{length, take, drop, get_or}
use lib.Pow.{pow_mono, shl-shr, shr_lt}
use native.Mathlib.Nat.{div-add-mod', mul-mod_left}
use native.Mathlib.Omega.{arith}
use borrow.Author.Tests.{eqb-true, ne_eqb, ltb-false, le-ltb, leb-false, lt-leb}
use Rattle.route.specs.Rule.{span}
use Rattle.route.specs.Refusals.{Verdict, fine, fault}
use Rattle.route.proofs.Spans.{span-times}
use Rattle.route.proofs.Tests.{orders, by_test, passed}
use Rattle.route.proofs.Accepted.{hop-good, hop_fine}
use Rattle.records.proofs.Bytes.{no_number_lem, no_byte}
use Rattle.records.proofs.NumberForms.{Stands, stands-between, stands-taken, stands-joined, stands_parts, stands-number, number-stands}
use Rattle.records.specs.Records.{Reading, number, no_number, number_at, unless, judged, checked_at}
use Rattle.records.specs.Records.{Update, removal, setting, Reply, update, refused_at, go_on, hop_from, length_from, kind_from, record_at}
use Rattle.records.specs.Written.{number_bytes, prefix_bytes, update_bytes, ValidUpdate}

-- a refusal is no update
no-update : {A : Type 0} {n p next : ℕ} {u : Update} → refused_at n p ≡ update u next → A
no-update e = absurd (let z : ◌≡◌ {A = ℕ} 0 1 = cc in omega arith)

-- what holds of an update with its next place holds of an equal one
carried : {u v : Update} {m next : ℕ} (P : Update → ℕ → Type 0) → update v m ≡ update u next → P v m → P u next
carried {u} {v} {m} {next} P e p =
    let same : v ≡ u = cc in
    let n : m ≡ next = cc in
    rw (same, n) at p

-- where a number that was read and checked led to an update, it is there, it passed, and the update came of what follows it
number-there : {P : Type 0} (bs : List ℕ) (at : ℕ) (test : ℕ → Verdict) (go : ℕ → ℕ → Reply) {u : Update} {next : ℕ}
    → go_on (checked_at bs at test) go ≡ update u next
    → ((v m : ℕ) → number_at bs at ≡ number v m → test v ≡ fine → go v m ≡ update u next → P)
    → P
number-there {P} bs at test go {u} {next} e f = there (number_at bs at) refl e
  where
    good : (w : Verdict) (v m : ℕ) → number_at bs at ≡ number v m → test v ≡ w → go_on (unless w (number v m)) go ≡ update u next → P
    good fine v m h t e = f v m h t e
    good (fault n p) v m h t e = no-update e

    there : (n : Reading) → number_at bs at ≡ n → go_on (judged test n) go ≡ update u next → P
    there (number v m) h e = good (test v) v m h refl e
    there (no_number n p) h e = no-update e

-- an update is read from its kind on
kind-there : (W : ℕ) (bs : List ℕ) (at : ℕ) {u : Update} {next : ℕ} → record_at W bs at ≡ update u next → kind_from W bs at ≡ update u next
kind-there W bs at e =
    by_test (ltb (length bs) at) (λ past. no-update (rw past at e))
    (λ inside.
    by_test (eqb at (length bs)) (λ end. absurd (let z : ◌≡◌ {A = ℕ} 0 1 = cc (rw (inside, end) at e) in omega arith))
    (λ more. rw (inside, more) at e))

module _ {bs : List ℕ} where
  -- behind the bytes of a number that passes its test the reader goes on
  read-on : {at m : ℕ} (v : ℕ) (test : ℕ → Verdict) (go : ℕ → ℕ → Reply) → v < 2 ^ 32 → test v ≡ fine → Stands bs (number_bytes v) at m
      → go_on (checked_at bs at test) go ≡ go v m
  read-on v test go l t s = rw (stands-number v l s, t)

  -- behind the bytes of a kind it reads a length
  kind-read : (W : ℕ) {at m : ℕ} (kind : ℕ) → kind ≤ 1 → Stands bs (number_bytes kind) at m → record_at W bs at ≡ length_from W bs m kind
  kind-read W {at} {m} kind l s =
      let inside : at < length bs =
      by_test (ltb at (length bs)) (λ t. omega orders) (λ t. no_number_lem (no_byte bs at (omega orders) ∙ stands-number kind (omega arith) s)) in
      rw (le-ltb (length bs) at (omega arith), ne_eqb at (length bs) (λ e. omega arith))
      (read-on kind _ _ (omega arith) (rw (le-ltb 1 kind l)) s)

  -- behind the bytes of a prefix it is done, or reads a hop
  prefix-read : (W : ℕ) {at m : ℕ} (kind a n : ℕ) → W ≤ 32 → n ≤ W → a % span W n ≡ 0 → a < 2 ^ W → Stands bs (prefix_bytes W a n) at m
      → length_from W bs at kind ≡ cond (eqb kind 0) (update (removal a n) m) (hop_from bs m a n)
  prefix-read W {at} {m} kind a n small short aligned within s =
      let p = stands_parts (number_bytes n) _ s in
      let parts : n + (W - n) ≡ W = omega arith in
      let quotient : a / span W n < 2 ^ n = shr_lt n (W - n) (rw parts within) in
      let whole : a / span W n * span W n ≡ a = omega (arith, div-add-mod' a (span W n)) in
      read-on n _ _ (omega arith) (rw (le-ltb W n short)) p.0
      ∙ read-on (a / span W n) _ _ (omega (arith, pow_mono {i = n} {j = 32} (omega arith))) (rw (lt-leb _ _ quotient)) p.1
      ∙ rw whole

-- the bytes of a valid update are read as the update
stands-update : {bs : List ℕ} {at next : ℕ} (W : ℕ) (u : Update) → W ≤ 32 → ValidUpdate W u → Stands bs (update_bytes W u) at next
    → record_at W bs at ≡ update u next
stands-update W (removal a n) small valid s =
    let p = stands_parts (number_bytes 0) _ s in
    kind-read W 0 (omega arith) p.0 ∙ prefix-read W 0 a n small valid.0 valid.1 valid.2 p.1
stands-update W (setting r) small valid s =
    let v = valid.0 in
    let p = stands_parts (number_bytes 1 ++ prefix_bytes W r.address r.length) _ s in
    let q = stands_parts (number_bytes 1) _ p.0 in
    kind-read W 1 (omega arith) q.0
    ∙ prefix-read W 1 r.address r.length small v.short v.aligned valid.1 q.1
    ∙ read-on r.hop _ _ (omega (arith, v.small)) (hop_fine W _ r v) p.1

-- updates, written then read
pub written-update : (xs ys : List ℕ) (W : ℕ) (u : Update) → W ≤ 32 → ValidUpdate W u
    → record_at W (xs ++ (update_bytes W u ++ ys)) (length xs) ≡ update u (length xs + length (update_bytes W u))
written-update xs ys W u small valid = stands-update W u small valid (stands-between xs (update_bytes W u) ys)

-- a length of at most W and a quotient below 2^n are those of a prefix
prefix-form : {bs : List ℕ} {at m next : ℕ} (W n x : ℕ) → n ≤ W → x < 2 ^ n → Stands bs (number_bytes n) at m → Stands bs (number_bytes x) m next
    → (n ≤ W) × (x * span W n % span W n ≡ 0) × (x * span W n < 2 ^ W) × Stands bs (prefix_bytes W (x * span W n) n) at next
prefix-form W n x short below s t =
    (short, mul-mod_left x (span W n), span-times W n x short below, rw (shl-shr x (W - n)) (stands-joined s t))

-- an update that is read is valid, and its bytes stand there
update-stands : (W : ℕ) (bs : List ℕ) (at : ℕ) {u : Update} {next : ℕ} → ((i : ℕ) → get_or bs i 0 < 256) → record_at W bs at ≡ update u next
    → ValidUpdate W u × Stands bs (update_bytes W u) at next
update-stands W bs at {u} {next} byte e =
    number-there bs at _ _ (kind-there W bs at e) λ kind m₁ read₁ fine₁ e₁.
    number-there bs m₁ _ _ e₁ λ n m₂ read₂ fine₂ e₂.
    number-there bs m₂ _ _ e₂ λ x m₃ read₃ fine₃ e₃.
    let p = prefix-form W n x (ltb-false W n (passed _ _ _ fine₂)) (leb-false (2 ^ n) x (passed _ _ _ fine₃)) (there m₁ read₂) (there m₂ read₃) in
    by_test (eqb kind 0)
    (λ t.
    let first : Stands bs (number_bytes 0) at m₁ = rw (eqb-true kind 0 t) at (there at read₁) in
    carried Form (rw t at e₃) ((p.0, p.1, p.2), stands-joined first p.3))
    (λ t. number-there bs m₃ _ _ (rw t at e₃) λ h m₄ read₄ fine₄ e₄.
    let one : kind ≡ 1 = omega (orders, ltb-false 1 kind (passed _ _ _ fine₁)) in
    let first : Stands bs (number_bytes 1) at m₁ = rw one at (there at read₁) in
    let hop = hop-good m₃ h fine₄ in
    carried Form e₄
    ((record { short = p.0; aligned = p.1; hopped = hop.0; small = hop.1 }, p.2), stands-joined (stands-joined first p.3) (there m₃ read₄)))
  where
    Form : Update → ℕ → Type 0
    Form u next = ValidUpdate W u × Stands bs (update_bytes W u) at next

    there : (at : ℕ) {v next : ℕ} → number_at bs at ≡ number v next → Stands bs (number_bytes v) at next
    there at e = (number-stands bs at byte e).1

-- updates, one form
pub update-form : (W : ℕ) (bs : List ℕ) (at : ℕ) {u : Update} {next : ℕ} → ((i : ℕ) → get_or bs i 0 < 256) → record_at W bs at ≡ update u next
    → ValidUpdate W u × (take (next - at) (drop at bs) ≡ update_bytes W u)
update-form W bs at byte e = let s = update-stands W bs at byte e in (s.0, stands-taken s.1)
