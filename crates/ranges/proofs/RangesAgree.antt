-- The merged ranges of a set say its answer: they keep the rules, are few, are found by a lookup, and go by the set alone.
use Rattle.std.proofs.Common.{◌≡◌, ℕ, ◌+◌, ◌-◌, ◌*◌, ◌^◌, ◌<◌, ◌≤◌, List, length, sym, refl, ap, ◌∙◌, subst, arith, pow_pos, eq-eqb, le-leb}
use mathlib.Core.List.Memᴰ
use lib.ListN.{length-map}
use Rattle.route.specs.Limits.{max_hop, max_routes}
use Rattle.route.specs.Rule.{Route, Match, nothing, best, hop_of, longest, answer}
use Rattle.route.specs.Refusals.{fine, value}
use Rattle.route.specs.RightHop.{◌∈◌}
use Rattle.route.specs.RowsOfSet.{Valid}
use Rattle.route.proofs.LongestMatch.{Found, finds, SameSet, same_answer}
use Rattle.route.proofs.RouteSet.{RouteSet}
use Rattle.ranges.specs.Ranges.{max_ranges, Range, boundaries, ranges_of, table_fault, hop_at, range_lookup, starts_of, hops_of}
use Rattle.ranges.proofs.Rows.{rows_say}
use Rattle.ranges.proofs.Boundaries.{Placed, boundaries_rise, boundaries_few, boundaries_fewer, steady}
use Rattle.ranges.proofs.MergedRanges.{merged_few, merged_say}
use Rattle.ranges.proofs.Says.{Table, table-hop, table-fine, table-once, table_same, table-each, table-looked-up}

-- a lookup in the rows of a table that keeps the rules
looked_up : (t : List Range) (q : ℕ) → length t ≤ max_ranges → table_fault t ≡ fine →
    range_lookup (starts_of t) (hops_of t) q ≡ value (hop_at 0 t q)
looked_up t q few ok = rw (
  rows_say t,
  ok,
  length-map t (λ r. r.start),
  length-map t (λ r. r.hop),
  eq-eqb (length t) (length t) refl,
  le-leb (length t) max_ranges few,
)

-- P routes give at most 2P + 1 ranges, and at most 2P - 1 if length 0 is among them
module _ (W : ℕ) (rs : List Route) where
  pub ranges_few : length (ranges_of W rs) ≤ 2 * length rs + 1
  ranges_few = omega (arith, boundaries_few W rs, merged_few (answer W rs) (answer W rs 0) (boundaries W rs))

  pub ranges_fewer : (r : Route) → r ∈ rs → Valid W r → r.length ≡ 0 → r.address < 2 ^ W → length (ranges_of W rs) ≤ 2 * length rs - 1
  ranges_fewer r m v e top =
      let two = boundaries_fewer W r rs m v e top in
      omega (arith, merged_few (answer W rs) (answer W rs 0) (boundaries W rs))

module _ (W : ℕ) (rs : List Route) (valid : (r : Route) → r ∈ rs → Valid W r) (placed : Placed W rs) where
  -- an answer is 0 or a route's hop
  pub answer_small : (q : ℕ) → answer W rs q ≤ max_hop
  answer_small q = of_match (longest W rs q) (finds W rs q)
    where
      of_match : (m : Match) → Found W rs q m → hop_of m ≤ max_hop
      of_match nothing f = omega arith
      of_match (best r) f = (valid r f.member).small

  -- they say the answer, up to the last address of all
  pub ranges_say : Table (answer W rs) (2 ^ W) (ranges_of W rs)
  ranges_say = (
    refl,
    merged_say (answer W rs) (2 ^ W) 0 (boundaries W rs) (pow_pos W) (boundaries_rise W rs placed)
        (λ a b _ le top clear. ap hop_of (steady W rs a b valid le top clear)),
  )

  pub ranges_fine : table_fault (ranges_of W rs) ≡ fine
  ranges_fine = table-fine (answer W rs) (2 ^ W) (pow_pos W) answer_small (ranges_of W rs) ranges_say

  -- starts are addresses, hops are answers
  pub ranges_below : (x : ℕ) → x ∈ starts_of (ranges_of W rs) → x < 2 ^ W
  ranges_below x m =
      let r = Memᴰ.of_map (λ r. r.start) (ranges_of W rs) m in
      subst (λ x. x < 2 ^ W) r.2 (table-each (answer W rs) (2 ^ W) (pow_pos W) (ranges_of W rs) ranges_say r.0 r.1).0

  pub ranges_small : (x : ℕ) → x ∈ hops_of (ranges_of W rs) → x ≤ max_hop
  ranges_small x m =
      let r = Memᴰ.of_map (λ r. r.hop) (ranges_of W rs) m in
      let e = (table-each (answer W rs) (2 ^ W) (pow_pos W) (ranges_of W rs) ranges_say r.0 r.1).1 in
      subst (λ x. x ≤ max_hop) (e ∙ r.2) (answer_small r.0.start)

  -- no other table says it
  pub ranges_once : (t : List Range) → Table (answer W rs) (2 ^ W) t → t ≡ ranges_of W rs
  ranges_once t s = table-once (answer W rs) (2 ^ W) (pow_pos W) t (ranges_of W rs) s ranges_say

  -- so a table that keeps the rules and answers as the set does is the set's
  pub ranges_only : (t : List Range) → table_fault t ≡ fine → ((x : ℕ) → x ∈ starts_of t → x < 2 ^ W) →
      ((q : ℕ) → q < 2 ^ W → hop_at 0 t q ≡ answer W rs q) → t ≡ ranges_of W rs
  ranges_only t ok below finds =
      ranges_once t (table-looked-up (answer W rs) (2 ^ W) (pow_pos W) t ok (λ r m. below r.start (Memᴰ.map (λ r. r.start) m)) finds)

  pub ranges_hop : (q : ℕ) → q < 2 ^ W → hop_at 0 (ranges_of W rs) q ≡ answer W rs q
  ranges_hop q lt = table-hop (answer W rs) (2 ^ W) (ranges_of W rs) ranges_say q lt

  pub ranges_agree : (q : ℕ) → q < 2 ^ W → length rs ≤ max_routes →
      range_lookup (starts_of (ranges_of W rs)) (hops_of (ranges_of W rs)) q ≡ value (answer W rs q)
  ranges_agree q lt few =
      looked_up (ranges_of W rs) q (omega (arith, ranges_few W rs)) ranges_fine
      ∙ ap value (ranges_hop q lt)

-- the merged ranges go by the set, whatever its order
pub ranges_same : (W : ℕ) (rs ss : List Route) → RouteSet W rs → Placed W rs → SameSet rs ss → ranges_of W ss ≡ ranges_of W rs
ranges_same W rs ss ok placed same =
    ranges_once W rs ok.valid placed (ranges_of W ss)
    (table_same (answer W ss) (answer W rs) (2 ^ W) (λ q. sym (same_answer W rs ss q ok same)) (ranges_of W ss)
    (ranges_say W ss (λ r m. ok.valid r ((same r).1 m)) (λ r m. placed r ((same r).1 m))))
