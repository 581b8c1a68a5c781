-- What the contracts of leaves and of loops speak of. No promise of a public call cites it.
use Rattle.std.specs.Prelude.{◌≡◌, ℕ, ◌+◌, ◌-◌, ◌*◌, ◌/◌, ◌<◌, ◌≤◌, Bool, true, false, cond, not, ◌&&◌, ◌||◌, List, [], length, get_or, ◌==◌, nat_le, nat_lt, slice_index, Option as Optional, None, Some, Result, Ok, Err}
use Rattle.std.proofs.Math.Option.{Option, none, some}
use Rattle.route.specs.Refusals.{Verdict, fine, fault, fault_if, ◌then◌, image_refusal}
use Rattle.route.specs.Shown.{number, place}
use Rattle.route.specs.PrefixOrder.{key_of}
use Rattle.route.specs.Lists.{any}
use Rattle.route.specs.Loops.{before, places_from}
use Rattle.route.specs.declared.Slot.{Slot}
use Rattle.route.specs.declared.Refusal.{Refusal}
use Rattle.route.specs.declared.Refusal.TheVariants.{Image}
use Rattle.tcam.specs.Slots.{Cell, cell, slot_fault, is_free, is_upper, is_lower, length_in, keeps_s1, longer_than_nearest, misplaced, repeats}
use Rattle.tcam.specs.Plans.{Write, write, first_slot, last_slot, of_length, rising, falling, is_some, or_else}
use Rattle.tcam.specs.Runs.{run_of, InOrder}
use Rattle.tcam.specs.Mend.{order_fault, contradicts, repeat_fault, repeat_slot}
use Rattle.tcam.specs.Download.{From, is_to_come, next_in, Next, entry_or_end, next_unless}
use Rattle.tcam.specs.Shown.{cell_at, place_of}
use Rattle.tcam.specs.declared.image.Seen.{Seen}
use Rattle.tcam.specs.declared.mend.Repeats.{Repeats}

-- write i of a plan's row
abbrev pub write_at : List ℕ → ℕ → Write
write_at plan i = write (slice_index plan (3 * i)) (cell (slice_index plan (3 * i + 1)) (slice_index plan (3 * i + 2)))

-- what the image test keeps of the slots `before`: a slot that keeps S1 is longer than the nearest used one where it is longer than
-- `nearest`; whether one is free; whether one holds an entry below the pool
pub record SeenBefore (W : ℕ) (before : List Cell) (seen : Seen) : Type 0 where
  pub nearest : (c : Cell) → keeps_s1 W c ≡ true → is_free c ≡ false → longer_than_nearest c before ≡ nat_lt seen.nearest.0 (length_in c)
  pub free : any is_free before ≡ seen.free
  pub lower : any (is_lower W) before ≡ seen.lower

-- what it keeps before slot 0
pub record SeenNone (W : ℕ) (seen : Seen) : Type 0 where
  pub nearest : seen.nearest.0 ≡ W
  pub free : seen.free ≡ false
  pub lower : seen.lower ≡ false
  pub run : seen.run.0 ≡ 0

-- the same with an entry more, in slot i: its run goes on where it has the nearest length, and else begins with it
pub record SeenWith (W : ℕ) (c : Cell) (i : ℕ) (seen next : Seen) : Type 0 where
  pub nearest : next.nearest.0 ≡ length_in c
  pub free : next.free ≡ seen.free
  pub lower : next.lower ≡ (is_lower W c || seen.lower)
  pub run : next.run.0 ≡ cond (length_in c == seen.nearest.0) seen.run.0 i

-- the same with free slots more, up to slot `to`
pub record SeenPast (to : ℕ) (seen next : Seen) : Type 0 where
  pub nearest : next.nearest.0 ≡ seen.nearest.0
  pub free : next.free ≡ true
  pub lower : next.lower ≡ seen.lower
  pub run : next.run.0 ≡ to

-- the run that ends just before slot i has length n and begins at slot `run`, slot i itself where it is empty; no other length has one
pub record RunBefore (at : ℕ → Cell) (run n i : ℕ) : Type 0 where
  pub within : run ≤ i
  pub is : (m : ℕ) → run_of m (before at i) ≡ cond (m == n) (places_from at run (i - run)) []

-- the slots before slot i keep S1 to S4; what is kept of them for these rules, and the run for S5
pub record TestedBefore (W : ℕ) (at : ℕ → Cell) (s : Seen) (i : ℕ) : Type 0 where
  pub in_order : InOrder W (before at i)
  pub seen : SeenBefore W (before at i) s
  pub run : RunBefore at s.run.0 s.nearest.0 i

-- slot i keeps S1 to S4; whether it repeats an earlier prefix
abbrev pub PlacedAt : ℕ → (ℕ → Cell) → ℕ → Type 0
PlacedAt W at i = misplaced W (at i) (before at i) ≡ false

abbrev pub repeats_at : (ℕ → Cell) → ℕ → Bool
repeats_at at i = repeats (at i) (before at i)

-- whether a slot breaks one of S1 to S4
abbrev pub misplaced_by : ℕ → Cell → Seen → Bool
misplaced_by W c seen =
    not (keeps_s1 W c)
    || (not (is_free c) && nat_lt seen.nearest.0 (length_in c))
    || (is_upper W c && seen.free)
    || (is_free c && seen.lower)

abbrev pub is_used : Cell → Bool
is_used c = not (is_free c)

-- the slots from slot `from` up to slot r are free
pub record FreeBetween (ad ts : List ℕ) (from r : ℕ) : Type 0 where
  pub behind : from ≤ r
  pub within : r ≤ length ad
  pub free : any is_used (places_from (cell_at ad ts) from (r - from)) ≡ false

-- and slot r is used or the rows end there
pub record FreeEnd (ad ts : List ℕ) (from r : ℕ) : Type 0 where
  pub between : FreeBetween ad ts from r
  pub used : r < length ad → is_free (cell_at ad ts r) ≡ false

-- the four cases of an update are two: the first slots of rising lengths, or the last slots of falling ones
abbrev pub edge : Bool → (Cell → Bool) → List Cell → Option ℕ
edge true p cs = first_slot p 0 cs
edge false p cs = last_slot p 0 cs

abbrev pub edge_of : Bool → List Cell → ℕ → Option ℕ
edge_of up cs l = edge up (of_length l) cs

-- k lengths from l on, rising or falling
abbrev pub lengths_from : Bool → ℕ → ℕ → List ℕ
lengths_from true k l = rising k l
lengths_from false k l = falling k l

-- the lengths between length n and the pool
abbrev pub lengths_to : ℕ → Bool → ℕ → List ℕ
lengths_to W up n = cond (nat_le (W / 2) n) (lengths_from up (n - W / 2) (W / 2)) (lengths_from up (W / 2 - 1 - n) (n + 1))

-- the edge slot of a group in a row of them
abbrev pub edge_slot : List (Optional Slot) → ℕ → Option ℕ
edge_slot edges g = place_of (get_or edges g None)

-- a row has the edge slot of each length, and of the free slots behind all lengths
pub record EdgesOf (W : ℕ) (up : Bool) (cs : List Cell) (edges : List (Optional Slot)) : Type 0 where
  pub size : length edges ≡ W + 2
  pub of : (l : ℕ) → l ≤ W → edge_slot edges l ≡ edge_of up cs l
  pub pool : edge_slot edges (W + 1) ≡ edge up is_free cs

-- the slot that a pass over M slots comes to after k others: from the last one back for first slots, from slot 0 on for last ones
abbrev pub visited : Bool → ℕ → ℕ → ℕ
visited true M k = M - 1 - k
visited false M k = k

-- farther ahead than any entry: more than the key of a prefix can be
abbrev pub far_ahead : ℕ
far_ahead = 1099511627776

-- the prefixes still to come are those whose keys are not below a number
pub record IsLeast (from : From) (least : ℕ) : Type 0 where
  pub within : least ≤ far_ahead
  pub is : (a n : ℕ) → n < 64 → is_to_come from a n ≡ nat_le least (key_of a n)

-- how far ahead of a number a key is; where it is below the number, farther than any entry
pub record IsAheadOf (least key r : ℕ) : Type 0 where
  pub is : least ≤ key → least + r ≡ key
  pub far : key < least → far_ahead ≤ r

-- the next entry of an image, or its refusal 7, where the prefixes still to come are known by their keys
pub record NextByKeys (W : ℕ) (cs : List Cell) (least : ℕ) (r : Next) : Type 0 where
  pub is : (from : From) → IsLeast from least → r ≡ next_unless (slot_fault W 0 cs) (entry_or_end (next_in from cs))

-- a refusal, or the slot that was sought
abbrev pub IsRepeat : Result (Optional Slot) Refusal → Verdict → Option ℕ → Type 0
IsRepeat (Err f) v o = fault (number f) (place f) ≡ v
IsRepeat (Ok p) v o = (fine ≡ v) × (place_of p ≡ o)

-- a slot that is refused, or else the slot that was sought
abbrev pub unless_refused : Optional Slot → Optional Slot → Result (Optional Slot) Refusal
unless_refused None later = Ok later
unless_refused (Some s) later = Err (Image s.0)

-- what a pass keeps of repeats, as a refusal or the slot that was sought
abbrev pub repeat_of : Repeats → Result (Optional Slot) Refusal
repeat_of r = unless_refused r.refused r.later

-- the slot that repeats a prefix, where slot i does and none before it
abbrev pub since_at : Option ℕ → Bool → ℕ → Option ℕ
since_at o r i = or_else o (cond r (some i) none)

-- whether slot i has another tag than an earlier copy, or is the second slot to repeat a prefix, the slot o being the first
abbrev pub fails_at : (ℕ → Cell) → Option ℕ → ℕ → Bool
fails_at at o i = contradicts (at i) (before at i) || (is_some o && repeats_at at i)

-- what slot i comes to, where the slots before it repeat a prefix at the slot o: refusal 7, or the slot of the later copy up to slot i
abbrev pub RepeatAt : (ℕ → Cell) → Option ℕ → ℕ → Result (Optional Slot) Refusal → Type 0
RepeatAt at o i r = IsRepeat r (fault_if (fails_at at o i) image_refusal i) (since_at o (repeats_at at i) i)

-- and where one of them may be refused already
abbrev pub RepeatWith : (ℕ → Cell) → Result (Optional Slot) Refusal → ℕ → Result (Optional Slot) Refusal → Type 0
RepeatWith at (Err f) i r = r ≡ Err f
RepeatWith at (Ok p) i r = RepeatAt at (place_of p) i r

-- what a mend finds of all slots: refusal 7, of S1 to S4 first, or the slot of the later copy
abbrev pub MendFound : ℕ → List Cell → Result (Optional Slot) Refusal → Type 0
MendFound W cs r = IsRepeat r (order_fault W 0 [] cs then repeat_fault 0 false [] cs) (repeat_slot 0 [] cs)
