-- What any walk gives, by induction over the images that its calls read.
--
-- Each answer is right of its own image, and from where it asks only moves on. So a prefix that is no longer to come is never given; one
-- that is present is not passed over; and where the end is answered nothing that is present was left.
use Prim.Native.Nat.{ℕ, ◌+◌}
use mathlib.Core.Path.{◌≡◌, refl}
use mathlib.Core.Logic.{◌⊎◌, inl, inr}
use mathlib.Core.Bool.{true, false}
use mathlib.Core.List.Memᴰ
use mathlib.Core.List.{List, [], ◌∷◌}
use native.Mathlib.Omega.{arith}
use lib.Dec.{eqb}
use borrow.Author.Tests.{eqb-true, eq-eqb}
use Rattle.route.specs.PrefixOrder.{comes_before}
use Rattle.route.specs.RightHop.{◌∈◌}
use Rattle.tcam.specs.Book.{count_if}
use Rattle.route.proofs.Tests.{by_test, clash, both, not-both}
use Rattle.tcam.specs.Download.{From, start, past, is_to_come, Next, entry, end, refusal}
use Rattle.claims.specs.Download.{Image, asked, onward, walk_from, Each, is_present, Says, Rises, is_given, times_given, Walked}
use Rattle.route.proofs.PrefixOrder.{not_itself, neither-before}
use Rattle.tcam.proofs.Downloads.{stays-behind}
use Rattle.claims.proofs.NextEntry.{asked-says, tag-present}

-- the images of the later calls
pub later : {P : Image → Type 0} {cs : Image} {images : List Image} → Each P (cs ∷ images) → Each P images
later p x m = p x (Memᴰ.tail m)

module _ (W : ℕ) where
  rises : (images : List Image) (from : From) → Rises from (walk_from W from images)
  rises [] from = tt
  rises (cs ∷ images) from = go (asked W cs from) (asked-says W cs from) (rises images)
    where
      go : (r : Next) → Says cs from r → ((f : From) → Rises f (walk_from W f images)) → Rises from (r ∷ walk_from W (onward from r) images)
      go (entry a n t) s ih = (s.ahead, ih (past a n))
      go end s ih = ih from
      go (refusal x y) s ih = ih from

  module _ (a n : ℕ) where
    other : (b m t : ℕ) → (b ≡ a → m ≡ n → ⊥) → is_given a n (entry b m t) ≡ false
    other b m t h = not-both (eqb b a) (eqb m n) (λ d e. h (eqb-true b a d) (eqb-true m n e))

    -- a prefix that is no longer to come
    gone : (images : List Image) (from : From) → is_to_come from a n ≡ false → times_given a n (walk_from W from images) ≡ 0
    gone [] from e = refl
    gone (cs ∷ images) from e = go (asked W cs from) (asked-says W cs from) (gone images)
      where
        go : (r : Next) → Says cs from r → ((f : From) → is_to_come f a n ≡ false → times_given a n (walk_from W f images) ≡ 0)
            → count_if (is_given a n r) + times_given a n (walk_from W (onward from r) images) ≡ 0
        go (entry b m t) s ih =
            rw (other b m t (λ d f. clash s.ahead (rw (d, f) e)))
            (omega (arith, ih (past b m) (stays-behind from a n b m e s.ahead)))
        go end s ih = omega (arith, ih from e)
        go (refusal x y) s ih = omega (arith, ih from e)

    once : (images : List Image) (from : From) → end ∈ walk_from W from images → Each (λ cs. is_present a n cs ≡ true) images
        → is_to_come from a n ≡ true → times_given a n (walk_from W from images) ≡ 1
    once [] from f p e = absurd (Memᴰ.not-nil f)
    once (cs ∷ images) from f p e =
        go (asked W cs from) (asked-says W cs from) (Memᴰ.cases_cons f) (λ g i k. once images g i (later p) k)
      where
        go : (r : Next) → Says cs from r → (end ≡ r) ⊎ (end ∈ walk_from W (onward from r) images)
            → ((g : From) → end ∈ walk_from W g images → is_to_come g a n ≡ true → times_given a n (walk_from W g images) ≡ 1)
            → count_if (is_given a n r) + times_given a n (walk_from W (onward from r) images) ≡ 1
        go end s i ih = clash e (s a n (p cs (Memᴰ.head refl)))
        go (refusal x y) s (inl i) ih = cc
        go (refusal x y) s (inr i) ih = omega (arith, ih from i e)
        go (entry b m t) s (inl i) ih = cc
        go (entry b m t) s (inr i) ih = by_test (comes_before b m a n)
            (λ q. rw (other b m t (λ d f. clash q (not_itself b m a n d f))) (omega (arith, ih (past b m) i q)))
            (λ q. let same = neither-before b m a n q (s.least a n (p cs (Memᴰ.head refl)) e) in
            rw (both _ _ (eq-eqb b a same.0) (eq-eqb m n same.1)) (omega (arith, gone images (past b m) q)))

    never : (images : List Image) (from : From) → Each (λ cs. is_present a n cs ≡ false) images → times_given a n (walk_from W from images) ≡ 0
    never [] from p = refl
    never (cs ∷ images) from p = go (asked W cs from) (asked-says W cs from) (λ f. never images f (later p))
      where
        go : (r : Next) → Says cs from r → ((f : From) → times_given a n (walk_from W f images) ≡ 0)
            → count_if (is_given a n r) + times_given a n (walk_from W (onward from r) images) ≡ 0
        go (entry b m t) s ih =
            rw (other b m t (λ d f. clash (tag-present b m cs s.tagged) (rw (d, f) (p cs (Memᴰ.head refl)))))
            (omega (arith, ih (past b m)))
        go end s ih = omega (arith, ih from)
        go (refusal x y) s ih = omega (arith, ih from)

  pub walked : (images : List Image) → Walked W images
  walked images = record {
    rises = rises images start;
    once = λ f a n p. once a n images start f p refl;
    never = λ a n p. never a n images start p;
  }
