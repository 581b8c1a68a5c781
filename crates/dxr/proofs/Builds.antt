-- A build: the list's fault, or the table of the list's ranges in both rows.
use Prim.Native.Nat.{ℕ, ◌^◌, ◌≤◌, ◌<◌}
use mathlib.Core.Path.{◌≡◌, sym, ◌∙◌}
use mathlib.Core.List.{List, map}
use native.Mathlib.Omega.{arith}
use borrow.Author.Tests.{eq-eqb}
use lib.ListN.{length, get_or, take, drop, length-map, length-append}
use lib.Seq.{length-take-le, take_at}
use Rattle.route.specs.Limits.{max_routes}
use Rattle.route.specs.Refusals.{fine, fault, Answer, value, refused, unless_fault}
use Rattle.route.specs.Lists.{routes, rows_fault}
use Rattle.route.proofs.Accepted.{rows_of_set}
use Rattle.route.proofs.Entries.{routes-length, routes-addresses}
use Rattle.route.proofs.Members.{each_at}
use Rattle.route.proofs.Tests.{answered, refuses}
use Rattle.ranges.specs.Ranges.{max_ranges, Range, ranges, starts_of, hops_of}
use Rattle.route.specs.Rows.{overwritten}
use Rattle.ranges.specs.Builds.{output_after, table_of, ranges_answer, IsBuilt as Made}
use Rattle.ranges.proofs.Rooms.{built-roomy}
use Rattle.ranges.proofs.Rows.{rows_say}
use Rattle.ranges.proofs.RangesAgree.{ranges_few, ranges_fine}
use Rattle.dxr.specs.Builds.{IsBuilt}
use Rattle.dxr.specs.Splits.{Split}
use Rattle.dxr.specs.Loops.{Splittable, IsSplit}
use Rattle.dxr.proofs.DxrAgrees.{room_for_all}

-- a build: the list has a fault, or its ranges are split
module _ {W S : ℕ} {ad ns hs ms ws : List ℕ} where
  module _ (size : length ms ≡ 2 ^ S) where
    pub built-refused : {n p : ℕ} → fault n p ≡ rows_fault W ad ns hs → IsBuilt W S ad ns hs ms ws (refused n p) ms ws
    built-refused f =
        let e = eq-eqb (length ms) (2 ^ S) size in
        record { answers = rw (e, ← f); main = rw (e, ← f); words = rw (e, ← f) }

    pub built-split : rows_fault W ad ns hs ≡ fine → {answer : Answer} {ms' ws' : List ℕ} → IsSplit W S (table_of W ad ns hs) ms ws answer ms' ws' →
        IsBuilt W S ad ns hs ms ws answer ms' ws'
    built-split ok s =
        let e = eq-eqb (length ms) (2 ^ S) size in
        record { answers = rw (e, ok) s.answers; main = rw (e, ok) s.main; words = rw (e, ok) s.words }

-- the ranges of a list, made in rows that have room for any
module _ {W : ℕ} {ad ns hs ss₀ rh₀ ss rh : List ℕ} {answer : Answer} (a : max_ranges ≤ length ss₀) (b : max_ranges ≤ length rh₀)
    (made : Made W ad ns hs ss₀ rh₀ answer ss rh) where
  abbrev t : List Range
  t = table_of W ad ns hs

  roomy : answer ≡ unless_fault (rows_fault W ad ns hs) (value (length t))
  roomy = made.answers ∙ built-roomy W ad ns hs a b

  -- they are refused for the list's fault alone
  pub made_fault : {n p : ℕ} → answer ≡ refused n p → fault n p ≡ rows_fault W ad ns hs
  made_fault e = refuses (rows_fault W ad ns hs) (length t) (sym e ∙ roomy)

  module _ {n : ℕ} (e : answer ≡ value n) where
    pub made-fine : rows_fault W ad ns hs ≡ fine
    made-fine = answered (rows_fault W ad ns hs) (value (length t)) (sym e ∙ roomy)

    many : n ≡ length t
    many = let same : value n ≡ value (length t) = sym e ∙ (rw made-fine at roomy) in cc

    -- the front of a row is what was built
    front : (part : Range → ℕ) (row₀ row : List ℕ) → row ≡ output_after (ranges_answer W ad ns hs (length ss₀) (length rh₀)) (map part t) row₀ →
        (n ≤ length row) × (take n row ≡ map part t)
    front part row₀ row is =
        let count : length (map part t) ≡ n = length-map t part ∙ sym many in
        let whole : row ≡ overwritten (map part t) row₀ = rw (sym made.answers ∙ e) at is in
        (rw (whole, length-append) (omega arith), rw whole (take_at (map part t) (drop (length (map part t)) row₀) n count))

    pub made-starts : (n ≤ length ss) × (take n ss ≡ starts_of t)
    made-starts = front (λ r. r.start) ss₀ ss made.starts

    pub made-hops : (n ≤ length rh) × (take n rh ≡ hops_of t)
    made-hops = front (λ r. r.hop) rh₀ rh made.hops

    pub made_table : ranges (take n ss) (take n rh) ≡ t
    made_table = rw (made-starts.1, made-hops.1) (rows_say t)

    -- and a DXR table can be made of it
    pub made-splittable : (S : ℕ) → Split W S → ((i : ℕ) → get_or ad i 0 < 2 ^ W) → Splittable W S (take n ss) (take n rh)
    made-splittable S split small =
        let s = (rows_of_set W ad ns hs).0 made-fine in
        let rs = routes ad ns hs in
        let few : length rs ≤ max_routes = omega (arith, routes-length ad ns hs s.equal, s.few) in
        let placed = routes-addresses (λ a. a < 2 ^ W) ad ns hs (each_at (λ a. a < 2 ^ W) ad small) in
        record {
          equal = length-take-le n ss made-starts.0 ∙ sym (length-take-le n rh made-hops.0);
          rules = rw made_table (ranges_fine W rs s.valid placed);
          few = rw (length-take-le n ss made-starts.0) (omega (arith, many, ranges_few W rs));
          low = λ c. rw made_table (omega (arith, room_for_all W S split rs few s.valid placed c));
        }
