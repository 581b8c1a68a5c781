-- A build into rows with room for any table: no refusal but the list's fault. A build by the table.
use Rattle.std.proofs.Common.{◌≡◌, ltb, ◌||◌, true, false, map, sym, ap, ◌∙◌, ℕ, ◌≤◌, List, length, refl, arith, le-ltb}
use Rattle.route.specs.Entries.{routes_of}
use Rattle.route.specs.declared.list.List.{List as InRows}
use Rattle.ranges.specs.Loops.{Accepted}
use Rattle.route.specs.Refusals.{Verdict, fine, fault, value, refused, unless_fault, room_refusal}
use Rattle.route.specs.Lists.{routes, rows_fault}
use Rattle.route.proofs.Accepted.{rows_of_set}
use Rattle.route.proofs.Entries.{routes-length}
use lib.ListN.{length-map}
use Rattle.route.specs.Rows.{overwritten}
use Rattle.ranges.specs.Shown.{range_of}
use Rattle.ranges.specs.declared.words.Range.{Range as InCode}
use Rattle.ranges.specs.Ranges.{max_ranges, ranges_of, starts_of, hops_of}
use Rattle.ranges.specs.Builds.{table_of, ranges_answer, IsBuilt}
use Rattle.ranges.proofs.RangesAgree.{ranges_few}

-- rows with room for as many ranges as a table can have: only the list is refused
pub built-roomy : (W : ℕ) (ad ns hs : List ℕ) {a b : ℕ} → max_ranges ≤ a → max_ranges ≤ b →
    ranges_answer W ad ns hs a b ≡ unless_fault (rows_fault W ad ns hs) (value (length (table_of W ad ns hs)))
built-roomy W ad ns hs {a} {b} l m = of_fault (rows_fault W ad ns hs) refl
  where
    of_fault : (v : Verdict) → rows_fault W ad ns hs ≡ v →
        ranges_answer W ad ns hs a b ≡ unless_fault (rows_fault W ad ns hs) (value (length (table_of W ad ns hs)))
    of_fault (fault n p) e = rw e
    of_fault fine e =
        let s = (rows_of_set W ad ns hs).0 e in
        let few : length (table_of W ad ns hs) ≤ max_ranges =
        omega (arith, ranges_few W (routes ad ns hs), routes-length ad ns hs s.equal, s.few) in
        rw (e, le-ltb a (length (table_of W ad ns hs)) (omega arith), le-ltb b (length (table_of W ad ns hs)) (omega arith))

-- a list that has been tested, and its ranges: a row is too short for them, or both are written
module _ (l : InRows) (rs : List InCode) (ok : Accepted l) (is : map range_of rs ≡ ranges_of 32 (routes_of l)) where
  many : length (ranges_of 32 (routes_of l)) ≡ length rs
  many = ap length (sym is) ∙ length-map rs range_of

  pub built-short : {ss rh : List ℕ} → (ltb (length ss) (length rs) || ltb (length rh) (length rs)) ≡ true →
      IsBuilt 32 l.addresses.now l.lengths.now l.hops.now ss rh (refused room_refusal 0) ss rh
  built-short t = record { answers = rw (ok.sound, many, t); starts = rw (ok.sound, many, t); hops = rw (ok.sound, many, t) }

  pub built-whole : {ss rh ss' rh' : List ℕ} → (ltb (length ss) (length rs) || ltb (length rh) (length rs)) ≡ false →
      ss' ≡ overwritten (starts_of (map range_of rs)) ss → rh' ≡ overwritten (hops_of (map range_of rs)) rh →
      IsBuilt 32 l.addresses.now l.lengths.now l.hops.now ss rh (value (length rs)) ss' rh'
  built-whole t s h = record {
    answers = rw (ok.sound, many, t);
    starts = rw (ok.sound, many, t) (rw is at s);
    hops = rw (ok.sound, many, t) (rw is at h);
  }
