-- What is still to come, and the download's pass: the slots before slot i keep S1, and the entry kept of them gives the whole answer with
-- the slots that are left. It may be kept, since the first of some entries is found in any grouping (`sooner-assoc`).
use Rattle.std.proofs.Common.{◌≡◌, ℕ, ◌+◌, ◌<◌, ◌≤◌, Bool, true, false, cond, ◌&&◌, List, length, drop, sym, refl, ap, ◌∙◌, arith, drop_of_length-le}
use mathlib.Core.Option.{Option, none, some}
use Rattle.route.specs.Refusals.{image_refusal}
use Rattle.route.specs.PrefixOrder.{comes_before}
use Rattle.tcam.specs.Slots.{Cell, cells, length_in, keeps_s1, slot_fault}
use Rattle.tcam.specs.Download.{From, start, past, is_to_come, is_ahead, sooner, next_in, Next, refusal, entry_or_end, next_unless}
use Rattle.tcam.specs.Shown.{cell_at}
use Rattle.route.proofs.Tests.{by_test, clash, is_false}
use Rattle.route.proofs.PrefixOrder.{before-trans, before-from}
use Rattle.tcam.proofs.Rows.{cells_at}

-- what is not to come is not to come past a later prefix
pub stays-behind : (from : From) (a n b m : ℕ) → is_to_come from a n ≡ false → is_to_come from b m ≡ true → is_to_come (past b m) a n ≡ false
stays-behind start a n b m s t = clash refl s
stays-behind (past x y) a n b m s t = is_false (comes_before b m a n) (λ e. clash (before-trans x y b m a n t e) s)

-- where nothing is left, the entry kept is the answer
sooner-none : (o : Option Cell) → sooner o none ≡ o
sooner-none none = refl
sooner-none (some c) = refl

abbrev comes : Cell → Cell → Bool
comes c d = comes_before c.address (length_in c) d.address (length_in d)

sooner-assoc : (x y z : Option Cell) → sooner (sooner x y) z ≡ sooner x (sooner y z)
sooner-assoc none y z = refl
sooner-assoc (some c) none z = refl
sooner-assoc (some c) (some d) none = sooner-none (cond (comes d c) (some d) (some c))
sooner-assoc (some c) (some d) (some e) = by_test (comes d c)
    (λ p. by_test (comes e d)
    (λ q. rw (p, q, before-trans e.address (length_in e) d.address (length_in d) c.address (length_in c) q p))
    (λ q. rw (p, q, p)))
    (λ p. by_test (comes e d)
    (λ q. rw (p, q))
    (λ q. rw (p, q, p, is_false (comes e c) (λ r. clash (before-from e.address (length_in e) d.address (length_in d) c.address (length_in c) q r) p))))

-- whether the entry of c comes before the one that was kept, if one was
abbrev pub yields : Option Cell → Cell → Bool
yields none c = true
yields (some d) c = comes c d

kept-with : (o : Option Cell) (c : Cell) (b : Bool) → sooner o (cond b (some c) none) ≡ cond (b && yields o c) (some c) o
kept-with o c false = sooner-none o
kept-with none c true = refl
kept-with (some d) c true = refl

-- refusal 7, or else the next entry, where the entry o was kept of the slots before slot i
abbrev pub next_from : ℕ → List ℕ → List ℕ → From → Option Cell → ℕ → Next
next_from W ad ts from o i =
    next_unless (slot_fault W i (cells (drop i ad) (drop i ts))) (entry_or_end (sooner o (next_in from (cells (drop i ad) (drop i ts)))))

pub record NextBefore (W : ℕ) (ad ts : List ℕ) (from : From) (o : Option Cell) (i : ℕ) : Type 0 where
  pub within : i ≤ length ad
  pub equal : length ad ≡ length ts
  pub left : next_from W ad ts from o i ≡ next_from W ad ts from none 0

module _ {W : ℕ} {ad ts : List ℕ} {from : From} {o : Option Cell} {i : ℕ} (h : NextBefore W ad ts from o i) where
  module _ (l : i < length ad) {c : Cell} (is : c ≡ cell_at ad ts i) where
    pub next-stop : keeps_s1 W c ≡ false → refusal image_refusal i ≡ next_from W ad ts from none 0
    next-stop k = let k' = rw is at k in rw (cells_at ad ts i h.equal l, k') at h.left

    -- slot i is kept, or what was
    module _ (k : keeps_s1 W c ≡ true) {b : Bool} (e : b ≡ (is_ahead from c && yields o c)) where
      next-with : NextBefore W ad ts from (cond b (some c) o) (i + 1)
      next-with =
          let k' = rw is at k in
          record {
            within = omega arith;
            equal = h.equal;
            left = rw (e, ← kept-with o c (is_ahead from c), is, sooner-assoc) (rw (cells_at ad ts i h.equal l, k') at h.left);
          }

      pub next-kept : b ≡ true → NextBefore W ad ts from (some c) (i + 1)
      next-kept t = rw t at next-with

      pub next-turn : b ≡ false → NextBefore W ad ts from o (i + 1)
      next-turn t = rw t at next-with

  pub next-end : length ad ≤ i → entry_or_end o ≡ next_from W ad ts from none 0
  next-end l = sym (ap entry_or_end (sooner-none o)) ∙ (rw (drop_of_length-le ad l) at h.left)
