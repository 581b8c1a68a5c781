-- What every plan comes to: its writes can be made, the whole of them leads to the next book's image, every cut is half-written, and between
-- the first write and the last a rule is broken.
use Prim.Native.Nat.{ℕ, suc, zero, ◌≤◌, ◌<◌}
use mathlib.Core.Path.{◌≡◌, sym, ap, ◌∙◌}
use mathlib.Core.Logic.{◌≢◌}
use mathlib.Core.Bool.{true, cond}
use mathlib.Core.List.{List, [], ◌∷◌, ◌++◌}
use native.Mathlib.Nat.{le_refl}
use native.Mathlib.Omega.{arith}
use lib.Dec.{ltb}
use lib.ListN.{length, length-append, take}
use lib.Seq.{take_all, set-append_seam}
use borrow.Author.Tests.{lt-ltb, le-ltb, ltb-true, ltb-false}
use Rattle.route.specs.Rule.{Route}
use Rattle.route.specs.Refusals.{fine}
use Rattle.tcam.specs.Slots.{Cell, is_free, image_fault}
use Rattle.tcam.specs.Plans.{Write, write, of_prefix}
use Rattle.tcam.specs.Applies.{written}
use Rattle.tcam.specs.Book.{Book, book_image}
use Rattle.tcam.specs.Tables.{routes_in}
use Rattle.tcam.proofs.Whole.{Makeable, none-makeable, faultless-first}
use Rattle.route.proofs.Tests.{by_test}
use Rattle.claims.proofs.Times.{times, times-append}
use Rattle.claims.proofs.Members.{Same, same-members}
use Rattle.claims.proofs.Next.{slot_has, routes_in-times}
use Rattle.claims.proofs.Walk.{walk-whole, walk-times}
use Rattle.claims.proofs.Image.{BookOk}
use Rattle.claims.proofs.Update.{Update}
use Rattle.claims.proofs.Pairs.{Pairs, pairs-less}
use Rattle.claims.proofs.Form.{image-length, image-keeps, image-falls, image-once}
use Rattle.claims.proofs.Apply.{keeps-written}
use Rattle.claims.proofs.Set.{Once}
use Rattle.claims.proofs.Rank.{Falls}
use Rattle.claims.proofs.Doubled.{Doubled, walk-doubles}
use Rattle.claims.proofs.Half.{Half, half-book, half-cut, doubled-breaks}

-- the plan ws leads from the book b and the set rs to the next ones; its cuts hold the next set from the write `switch` on
pub record Leads (W M : ℕ) (b : Book) (rs : List Route) (ws : List Write) (next : Book) (after : List Route) (switch : ℕ) : Type 0 where
  pub good : Makeable W M ws
  pub ok : BookOk W M next
  pub same : Same (routes_in (book_image W M next)) after
  pub whole : written (book_image W M b) ws ≡ book_image W M next
  pub halves : (k : ℕ) → k ≤ length ws → Half W (cond (ltb k switch) rs after) (written (book_image W M b) (take k ws))
  pub unfinished : (k : ℕ) → 1 ≤ k → k < length ws → image_fault W 0 [] (written (book_image W M b) (take k ws)) ≢ fine

-- the walk starts in the table
pub starts-inside : {W M : ℕ} {b : Book} {gap last : Cell} {plan : ℕ → List Write} {next : Book} {w : ℕ} → BookOk W M b
    → (u : Update W M b gap last plan next w) → length u.front < M
starts-inside {W} {M} {b} {gap} ok u = omega (arith, image-length W M b ok, ap length u.before, length-append u.front (gap ∷ u.back))

module _ (W M : ℕ) (b : Book) (ok : BookOk W M b) (rs : List Route) (same : Same (routes_in (book_image W M b)) rs)
    (gap last : Cell) (plan : ℕ → List Write) (next : Book) (w : ℕ) (u : Update W M b gap last plan next w) where
  abbrev ws : List Write
  ws = plan (length u.front)

  update-whole : written (book_image W M b) ws ≡ book_image W M next
  update-whole = rw u.before (walk-whole W last u.walks.walk)

  half-none : Half W rs (book_image W M b)
  half-none = half-book W M b ok rs (same-members same)

  -- the table without the open slot
  rest-falls : Pairs (Falls W) (u.front ++ u.back)
  rest-falls = pairs-less (Falls W) u.front gap u.back (rw u.before at (image-falls W M b ok))

  rest-once : Once (u.front ++ u.back)
  rest-once a n = omega (
    arith,
    image-once W M b ok a n,
    ap (times (of_prefix a n)) u.before,
    times-append (of_prefix a n) u.front (gap ∷ u.back),
    times-append (of_prefix a n) u.front u.back,
  )

  -- between the first write and the last one of its cells stands twice
  doubled : (k : ℕ) → suc k < length ws → Doubled W (u.front ++ u.back) (written (book_image W M b) (take (suc k) ws))
  doubled k i = rw u.before (walk-doubles W last u.walks.walk rest-falls k i)

  broken : (k : ℕ) → 1 ≤ k → k < length ws → image_fault W 0 [] (written (book_image W M b) (take k ws)) ≢ fine
  broken zero i j = absurd (omega arith)
  broken (suc k) i j = doubled-breaks W (doubled k j)

  half-some : Makeable W M ws → (k : ℕ) → suc k < length ws → (R : List Route) → Same (routes_in (u.front ++ u.back)) R
      → Half W R (written (book_image W M b) (take (suc k) ws))
  half-some h k i R held =
      half-cut W R (u.front ++ u.back) _ (doubled k i)
      (keeps-written W M 0 (book_image W M b) (take (suc k) ws) (image-keeps W M b ok) (faultless-first W M 0 (suc k) ws (h.faultless 0)))
      rest-once (same-members held)

  -- which holds the set before where the slot was free, and the set after where it is in the end
  held-before : is_free gap ≡ true → Same (routes_in (u.front ++ u.back)) rs
  held-before f = record {
    often = λ r. routes_in-times r (u.front ++ u.back)
        ∙ omega (
          arith,
          same.often r,
          routes_in-times r (book_image W M b),
          ap (times (slot_has r)) u.before,
          rw f at (times-append (slot_has r) u.front (gap ∷ u.back)),
          times-append (slot_has r) u.front u.back,
        );
  }

  held_after : is_free last ≡ true → (after : List Route) → Same (routes_in (book_image W M next)) after → Same (routes_in (u.front ++ u.back)) after
  held_after f after next-same = record {
    often = λ r. routes_in-times r (u.front ++ u.back)
        ∙ omega (
          arith,
          next-same.often r,
          routes_in-times r (book_image W M next),
          rw f at (walk-times W last (slot_has r) u.walks.walk),
          times-append (slot_has r) u.front u.back,
        );
  }

  module _ (after : List Route) (next-same : Same (routes_in (book_image W M next)) after) where
    half-all : (k : ℕ) → length ws ≤ k → Half W after (written (book_image W M b) (take k ws))
    half-all k i = rw (take_all k ws, update-whole) (half-book W M next u.ok after (same-members next-same))

    leads : Makeable W M ws → (switch : ℕ) → 1 ≤ switch → switch ≤ length ws
        → ((k : ℕ) → suc k < length ws → Same (routes_in (u.front ++ u.back)) (cond (ltb (suc k) switch) rs after))
        → Leads W M b rs ws next after switch
    leads h switch i j held = record { good = h; ok = u.ok; same = next-same; whole = update-whole; halves = halves; unfinished = broken }
      where
        halves : (k : ℕ) → k ≤ length ws → Half W (cond (ltb k switch) rs after) (written (book_image W M b) (take k ws))
        halves zero l = rw (lt-ltb 0 switch i) half-none
        halves (suc k) l = by_test (ltb (suc k) (length ws))
            (λ e. let n = ltb-true (suc k) (length ws) e in half-some h k n _ (held k n))
            (λ e. let n = ltb-false (suc k) (length ws) e in rw (le-ltb (suc k) switch (omega arith)) (half-all (suc k) n))

    -- an absent prefix is set: the last write changes the set
    pub leads-set : Makeable W M ws → is_free gap ≡ true → 1 ≤ w → Leads W M b rs ws next after (length ws)
    leads-set h f i = leads h (length ws) (omega (arith, u.walks.many)) (le_refl (length ws))
        (λ k j. rw (lt-ltb (suc k) (length ws) j) (held-before f))

    -- a prefix is removed: the first write does
    pub leads-removed : Makeable W M ws → is_free last ≡ true → 1 ≤ w → Leads W M b rs ws next after 1
    leads-removed h f i = leads h 1 (le_refl 1) (omega (arith, u.walks.many))
        (λ k j. rw (le-ltb (suc k) 1 (omega arith)) (held_after f after next-same))

    -- one write: it does
    pub leads-replaced : Makeable W M ws → w ≡ 1 → Leads W M b rs ws next after 1
    leads-replaced h e = leads h 1 (le_refl 1) (omega (arith, u.walks.many)) (λ k j. absurd (omega (arith, u.walks.many)))

    -- no write at all, where the entry is already there
    pub leads-unchanged : gap ≡ last → ws ≡ write (length u.front) last ∷ [] → Leads W M b rs [] next after 1
    leads-unchanged e p = record {
      good = none-makeable;
      ok = u.ok;
      same = next-same;
      whole = whole;
      halves = halves;
      unfinished = λ k i j. absurd (omega arith);
    }
      where
        halves : (k : ℕ) → k ≤ 0 → Half W (cond (ltb k 1) rs after) (written (book_image W M b) (take k []))
        halves zero l = half-none
        halves (suc k) l = absurd (omega arith)

        whole : book_image W M b ≡ book_image W M next
        whole = u.before ∙ ap (λ (c : Cell). u.front ++ (c ∷ u.back)) e ∙ sym (set-append_seam u.front gap u.back last)
            ∙ ap (λ (x : List Write). written (u.front ++ (gap ∷ u.back)) x) (sym p) ∙ walk-whole W last u.walks.walk
