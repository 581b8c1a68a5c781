-- The download's claim. Where images keep S1 no call is refused, for what was given stood in such an image and is a valid prefix to ask
-- from. Each prefix given leaves less to come: fewer slots of a table that stays as it is, and fewer prefixes whatever is written; so a walk
-- comes to its end.
use Prim.Native.Nat.{ℕ, ◌+◌, ◌-◌, ◌*◌, ◌^◌, ◌≤◌, ◌<◌, zero-le}
use mathlib.Core.Path.{◌≡◌, refl, sym, ap, subst}
use mathlib.Core.Logic.{◌⊎◌, inl, inr}
use mathlib.Core.Bool.{true, false, not}
use mathlib.Core.List.Memᴰ
use mathlib.Core.List.{List, [], ◌∷◌}
use mathlib.Core.Option.{Option, none, some}
use native.Mathlib.Nat.{mul-le-mul_right, suc-mul}
use native.Mathlib.Omega.{arith}
use lib.ListN.{length, length-replicate, replicate}
use Rattle.route.specs.RightHop.{◌∈◌}
use Rattle.route.specs.Refusals.{fine}
use Rattle.tcam.specs.Slots.{Cell, is_free, length_in}
use Rattle.tcam.specs.Tables.{addresses}
use Rattle.tcam.specs.Plans.{of_prefix}
use Rattle.tcam.specs.Download.{From, start, past, is_to_come, is_ahead, next_in, end, refusal, entry_or_end, from_fault}
use Rattle.route.proofs.Tests.{by_test, clash, and_parts, both}
use Rattle.route.proofs.Accepted.{prefix-good}
use Rattle.route.proofs.PrefixOrder.{by_order, before-trans, not_itself}
use Rattle.claims.specs.Agreement.{Addresses}
use Rattle.claims.specs.Download.{Image, asked, onward, walk_from, walk, Each, is_present, Says, Unrefused, KeepsS1, at_first, DownloadClaim}
use Rattle.claims.proofs.Times.{All, all-copies, times, times-mono, times-most}
use Rattle.claims.proofs.Members.{all_of, member}
use Rattle.claims.proofs.Apply.{Keeps, cells-back, no-size-fault, no-slot-fault}
use Rattle.claims.proofs.NextEntry.{prefix-is, asked-says, tag-present, present-address, present-valid, looked-up-keeps}
use Rattle.claims.proofs.DownloadWalk.{later, walked}
use Rattle.claims.proofs.Meanwhile.{stands_read, stands-empty}

-- each prefix given leaves fewer slots ahead
module _ (from : From) (a n : ℕ) (t : is_to_come from a n ≡ true) where
  still-ahead : (c : Cell) → is_ahead (past a n) c ≡ true → is_ahead from c ≡ true
  still-ahead c e =
      let p = and_parts (not (is_free c)) _ e in
      both _ _ p.0 (go from t p.1)
    where
      go : (f : From) → is_to_come f a n ≡ true → is_to_come (past a n) c.address (length_in c) ≡ true → is_to_come f c.address (length_in c) ≡ true
      go start s q = refl
      go (past x y) s q = before-trans x y a n c.address (length_in c) s q

  fewer-ahead : (cs : Image) → is_present a n cs ≡ true → times (is_ahead (past a n)) cs < times (is_ahead from) cs
  fewer-ahead [] p = clash p refl
  fewer-ahead (c ∷ cs) p = by_test (of_prefix a n c)
      (λ q. let h = prefix-is a n c q in
      let i : is_ahead from c ≡ true = rw (h.0, h.1, h.2) t in
      let j : is_ahead (past a n) c ≡ false = rw (h.0, h.1, h.2) (not_itself a n a n refl refl) in
      rw (i, j) (omega (arith, times-mono (is_ahead (past a n)) (is_ahead from) still-ahead cs)))
      (λ q. omega (arith, times-mono (is_ahead (past a n)) (is_ahead from) still-ahead (c ∷ []), fewer-ahead cs (rw q at p)))

module _ (W : ℕ) where
  -- an image that keeps S1, slot by slot
  all_keep : (cs : Image) → KeepsS1 W cs → All (Keeps W) cs
  all_keep cs h = all_of (Keeps W) cs h.keeps

  -- what it answers
  module _ (cs : Image) (h : KeepsS1 W cs) (from : From) (f : from_fault W from ≡ fine) where
    answers : asked W cs from ≡ entry_or_end (next_in from cs)
    answers = rw (no-size-fault cs h.some h.few, cells-back, no-slot-fault W 0 cs (all_keep cs h), f)

    -- what it gives can be asked from
    goes_on : (c : Cell) → asked W cs from ≡ entry_or_end (some c) → is_present c.address (length_in c) cs ≡ true
    goes_on c e = let s = subst (Says cs from) e (asked-says W cs from) in tag-present c.address (length_in c) cs s.tagged

    valid : (c : Cell) → asked W cs from ≡ entry_or_end (some c) → from_fault W (past c.address (length_in c)) ≡ fine
    valid c e = present-valid W c.address (length_in c) cs (all_keep cs h) (goes_on c e)

  unrefused : (images : List Image) (from : From) → from_fault W from ≡ fine → Each (KeepsS1 W) images → Unrefused (walk_from W from images)
  unrefused [] from f k x y m = Memᴰ.not-nil m
  unrefused (cs ∷ images) from f k x y m =
      go (next_in from cs) (answers cs here from f) (Memᴰ.cases_cons m) (λ g h i. unrefused images g h (later k) x y i)
    where
      here : KeepsS1 W cs
      here = k cs (Memᴰ.head refl)

      go : (o : Option Cell) → asked W cs from ≡ entry_or_end o
          → (refusal x y ≡ asked W cs from) ⊎ (refusal x y ∈ walk_from W (onward from (asked W cs from)) images)
          → ((g : From) → from_fault W g ≡ fine → refusal x y ∈ walk_from W g images → ⊥) → ⊥
      go none e (inl i) ih = let z : ◌≡◌ {A = ℕ} 0 1 = cc in omega arith
      go (some c) e (inl i) ih = let z : ◌≡◌ {A = ℕ} 0 1 = cc in omega arith
      go none e (inr i) ih = ih from f (rw e at i)
      go (some c) e (inr i) ih = ih (past c.address (length_in c)) (valid cs here from f c e) (rw e at i)

  -- each prefix of an image that is given leaves less to come, by some measure
  abbrev Falls : (From → ℕ) → Image → Type 0
  Falls μ cs = (from : From) → from_fault W from ≡ fine → (a n : ℕ) → is_to_come from a n ≡ true → is_present a n cs ≡ true → μ (past a n) < μ from

  -- so a walk of more calls than that comes to its end
  comes-to-end : (μ : From → ℕ) (images : List Image) (from : From) → from_fault W from ≡ fine → Each (KeepsS1 W) images → Each (Falls μ) images
      → μ from < length images → end ∈ walk_from W from images
  comes-to-end μ [] from f k d l = absurd (omega arith)
  comes-to-end μ (cs ∷ images) from f k d l = go (next_in from cs) (answers cs here from f) (λ g h. comes-to-end μ images g h (later k) (later d))
    where
      here : KeepsS1 W cs
      here = k cs (Memᴰ.head refl)

      go : (o : Option Cell) → asked W cs from ≡ entry_or_end o
          → ((g : From) → from_fault W g ≡ fine → μ g < length images → end ∈ walk_from W g images)
          → end ∈ asked W cs from ∷ walk_from W (onward from (asked W cs from)) images
      go none e ih = Memᴰ.head (sym e)
      go (some c) e ih =
          let s = subst (Says cs from) e (asked-says W cs from) in
          let less = d cs (Memᴰ.head refl) from f c.address (length_in c) s.ahead (goes_on cs here from f c e) in
          let m : end ∈ walk_from W (onward from (asked W cs from)) images =
          rw e (ih (past c.address (length_in c)) (valid cs here from f c e) (omega arith)) in
          Memᴰ.tail m

  -- a table that stays as it is: the slots ahead
  still : (cs : Image) → KeepsS1 W cs → end ∈ walk W (replicate (length cs + 1) cs)
  still cs h = comes-to-end (λ g. times (is_ahead g) cs) (replicate (length cs + 1) cs) start refl
      (copies (KeepsS1 W) h) (copies (Falls (λ g. times (is_ahead g) cs)) (λ from f a n t p. fewer-ahead from a n t cs p))
      (omega (arith, times-most (is_ahead start) cs, length-replicate (length cs + 1) cs))
    where
      copies : (P : Image → Type 0) → P cs → Each P (replicate (length cs + 1) cs)
      copies P p x m = member P (all-copies P (length cs + 1) cs p) m

  -- whatever is written: the prefixes of at most W bits, numbered as they come
  abbrev number : ℕ → ℕ → ℕ
  number a n = a * (W + 1) + n

  number-below : (a n b : ℕ) → n ≤ W → a < b → number a n < b * (W + 1)
  number-below a n b i l = omega (arith, mul-le-mul_right (W + 1) l, suc-mul a (W + 1))

  -- how many are past
  abbrev behind : From → ℕ
  behind start = 0
  behind (past a n) = number a n + 1

  moves-on : (from : From) (a n : ℕ) → from_fault W from ≡ fine → is_to_come from a n ≡ true → behind from ≤ number a n
  moves-on start a n f t = zero-le
  moves-on (past b m) a n f t = by_order b m a n t
      (λ l. omega (arith, number-below b m a (prefix-good W 0 b m f).0 l))
      (λ e l. omega (arith, ap (λ (x : ℕ). x * (W + 1)) e))

  ends : (images : List Image) → Each (KeepsS1 W) images → Each (λ cs. Addresses W (addresses cs)) images → 2 ^ W * (W + 1) < length images
      → end ∈ walk W images
  ends images k p l = comes-to-end (λ g. 2 ^ W * (W + 1) - behind g) images start refl k
      (λ cs m from f a n t here. let v = present-valid W a n cs (all_keep cs (k cs m)) here in
      let j = number-below a n (2 ^ W) (prefix-good W 0 a n v).0 (p cs m a (present-address a n cs here)) in
      omega (arith, moves-on from a n f t))
      (omega arith)

pub download_claim : (W : ℕ) → DownloadClaim W
download_claim W = record {
  right = asked-says W;
  walks = walked W;
  unread = λ images all s. record {
    once = λ f a n p. (walked W images).once f a n (λ cs m. p cs (s cs m));
    never = λ a n p. (walked W images).never a n (λ cs m. p cs (s cs m));
  };
  keeping = λ images k. unrefused W images start refl k;
  cuts = λ p before next k c. looked-up-keeps W _ 0 (c.looks_up 0);
  still = still W;
  ends = ends W;
  meanwhile = λ M i j es.
      let s = stands_read W M i j es (at_first M) (stands-empty W M i j) in
      let k : Each (KeepsS1 W) _ = λ cs m. (s cs m).1 in
      record { in_sequence = λ cs m. (s cs m).0; keep = k; answered = unrefused W _ start refl k; walked = walked W _ };
}
