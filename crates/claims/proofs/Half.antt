-- Half-written images: in order, with each prefix once or one cell in two slots. They answer for the set that they hold, since they keep S2.
use Prim.Native.Nat.{ℕ, ◌≤◌}
use mathlib.Core.Path.{◌≡◌, sym, ap, subst}
use mathlib.Core.Logic.Iff
use mathlib.Core.Logic.{◌≢◌}
use mathlib.Core.Bool.{Bool, false}
use mathlib.Core.List.{List, [], ◌∷◌, ◌++◌, Memᴰ}
use native.Mathlib.Omega.{arith}
use Rattle.route.specs.Rule.{Route, answer}
use Rattle.route.specs.Refusals.{fine}
use Rattle.route.specs.RightHop.{Right}
use Rattle.tcam.specs.Slots.{Cell, is_free, length_in, image_fault, first_match}
use Rattle.tcam.specs.Plans.{of_prefix}
use Rattle.tcam.specs.Mend.{order_fault, repeat_fault}
use Rattle.tcam.specs.Book.{Book, book_image}
use Rattle.tcam.specs.Tables.{routes_in}
use Rattle.route.proofs.Tests.{by_test}
use Rattle.route.proofs.RouteSet.{RouteSet}
use Rattle.route.proofs.LongestMatch.{right}
use Rattle.tcam.proofs.SlotsAgree.{ordered_answer}
use Rattle.tcam.proofs.SlotsAgree
use Rattle.claims.proofs.Times.{All, times, times-append, times-mono}
use Rattle.claims.proofs.Members.{times-has, has-times}
use Rattle.claims.proofs.Next.{slot_has, routes_in-times}
use Rattle.claims.proofs.Image.{BookOk}
use Rattle.claims.proofs.Form.{image-keeps, image-falls, image-once}
use Rattle.claims.proofs.Apply.{Keeps}
use Rattle.claims.proofs.Set.{Once, Holds, set-of}
use Rattle.claims.proofs.Rank.{Ordered, in_order_lem, ordered-less, ordered-rest, ordered, no_longer}
use Rattle.claims.proofs.Repeats.{own-prefix, image-fresh, twin, twin-is, Repeated, never, second, repeated}
use Rattle.claims.proofs.Doubled.{Doubled}

pub data Half (W : ℕ) (rs : List Route) : List Cell → Type 0 where
  whole : {cs : List Cell} → Ordered W [] cs → Once cs → Holds cs rs → Half W rs cs
  twice : (front : List Cell) (x : Cell) (back : List Cell) → Ordered W [] (front ++ (x ∷ back)) → is_free x ≡ false → 1 ≤ times (twin x) front
      → Once (front ++ back) → Holds (front ++ back) rs → Half W rs (front ++ (x ∷ back))

-- the routes that a table holds, by how often its slots have them
pub members-by : (xs ys : List Cell) → ((r : Route) → 1 ≤ times (slot_has r) xs → 1 ≤ times (slot_has r) ys) → (r : Route)
    → Memᴰ r (routes_in xs) → Memᴰ r (routes_in ys)
members-by xs ys h r m = times-has r (routes_in ys) (rw (routes_in-times r ys) (h r (rw (routes_in-times r xs) at (has-times m))))

-- a cell that stands before: how often a test is passed without its copy
copy-counts : (t : Cell → Bool) (front : List Cell) (x : Cell) (back : List Cell) → 1 ≤ times (twin x) front
    → 1 ≤ times t (front ++ (x ∷ back)) → 1 ≤ times t (front ++ back)
copy-counts t front x back l i = by_test (t x)
    (λ e. omega (arith, times-append t front back, times-mono (twin x) t (λ y j. rw (twin-is x y j) e) front))
    (λ e. omega (arith, times-append t front back, rw e at (times-append t front (x ∷ back))))

-- so a copy holds nothing more
copy_holds : (front : List Cell) (x : Cell) (back : List Cell) → 1 ≤ times (twin x) front → Holds (front ++ (x ∷ back)) (routes_in (front ++ back))
copy_holds front x back l r = (
  members-by (front ++ (x ∷ back)) (front ++ back) (λ s i. copy-counts (slot_has s) front x back l i) r,
  members-by (front ++ back) (front ++ (x ∷ back))
      (λ s i. omega (arith, times-append (slot_has s) front back, times-append (slot_has s) front (x ∷ back))) r,
)

module _ {W : ℕ} {rs : List Route} where
  pub half-ordered : {cs : List Cell} → Half W rs cs → Ordered W [] cs
  half-ordered (whole o n h) = o
  half-ordered (twice front x back o u l n h) = o

  pub half-holds : {cs : List Cell} → Half W rs cs → Holds cs rs
  half-holds (whole o n h) = h
  half-holds (twice front x back o u l n h) = λ r. Iff.trans (copy_holds front x back l r) (h r)

  half-set : {cs : List Cell} → Half W rs cs → RouteSet W rs
  half-set (whole {cs = cs} o n h) = set-of W rs cs o.keeps n h
  half-set (twice front x back o u l n h) =
      set-of W rs (front ++ back) (ordered-less W front x back o).keeps n h

  pub half-right : {cs : List Cell} → Half W rs cs → (q : ℕ) → Right W rs q (answer W rs q)
  half-right h q = right W rs q (half-set h)

-- S2 of each used slot
falls : (W : ℕ) (before cs : List Cell) → Ordered W before cs → SlotsAgree.Ordered before cs
falls W before [] o = tt
falls W before (c ∷ cs) o = (λ u. no_longer W c before u o.behind.0, falls W (c ∷ before) cs (ordered-rest W o))

pub half-answers : {W : ℕ} {rs : List Route} (cs : List Cell) → Half W rs cs → (q : ℕ) → first_match W cs q ≡ answer W rs q
half-answers {W} {rs} cs h q = ordered_answer W rs cs q (half-set h) (λ r. Iff.symm (half-holds h r)) (falls W [] cs (half-ordered h))

module _ (W : ℕ) where
  -- the image of a book
  pub half-book : (M : ℕ) (b : Book) → BookOk W M b → (rs : List Route) → Holds (book_image W M b) rs → Half W rs (book_image W M b)
  half-book M b ok rs h = whole (in_order_lem W (image-keeps W M b ok) (image-falls W M b ok)) (image-once W M b ok) h

  -- an image that a mend finds no fault in
  found : {cs : List Cell} → Ordered W [] cs → Repeated [] cs → Half W (routes_in cs) cs
  found o (never cs f) = whole o (λ a m. (f a m).0) (λ r. Iff.rfl)
  found o (second front x back u l f) =
      twice front x back o u (omega arith) (λ a m. (f a m).0) (λ r. Iff.symm (copy_holds front x back (omega arith) r))

  pub half-found : (cs : List Cell) → order_fault W 0 [] cs ≡ fine → repeat_fault 0 false [] cs ≡ fine → Half W (routes_in cs) cs
  half-found cs e f = found (ordered W 0 [] cs tt e) (repeated 0 [] cs f)

  -- a cut inside a walk holds what the table without its open slot holds
  pub half-cut : (rs : List Route) (table cut : List Cell) → Doubled W table cut → All (Keeps W) cut → Once table → Holds table rs → Half W rs cut
  half-cut rs table cut d keeps once holds =
      subst (Half W rs) (sym d.is)
      (twice d.front d.twice d.back
      (in_order_lem W (rw d.is at keeps) (rw d.is at d.falls))
      d.used d.first (λ a m. rw (d.same (of_prefix a m)) (once a m))
      (λ r. Iff.trans (
        members-by (d.front ++ d.back) table (λ s l. rw (← (d.same (slot_has s))) l) r,
        members-by table (d.front ++ d.back) (λ s l. rw (d.same (slot_has s)) l) r,
      ) (holds r)))

  -- and breaks S5
  pub doubled-breaks : {table cut : List Cell} → Doubled W table cut → image_fault W 0 [] cut ≢ fine
  doubled-breaks {cut = cut} d e =
      let x = d.twice in
      let p = of_prefix x.address (length_in x) in
      let own = own-prefix x d.used in
      omega (
        arith,
        ((image-fresh W 0 [] cut e).1 x.address (length_in x)).0,
        ap (times p) d.is,
        rw own at (times-append p d.front (x ∷ d.back)),
        times-mono (twin x) p (λ y j. rw (twin-is x y j) own) d.front,
        d.first,
      )
