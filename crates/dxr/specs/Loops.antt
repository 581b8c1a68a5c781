-- What the contracts of leaves and of loops speak of. The contracts of the build and of the lookup cite none of it.
use Rattle.std.specs.Prelude.{ℕ, ◌+◌, ◌-◌, ◌/◌, ◌%◌, ◌≤◌, ◌<◌, ◌≡◌, Bool, true, cond, not, List, [], ◌∷◌, map, eqb, ltb, length, get_or}
use Rattle.route.specs.Limits.{max_hop}
use Rattle.route.specs.Refusals.{fine, Answer, value, fault_if, unless_fault, image_refusal, room_refusal}
use Rattle.ranges.specs.Ranges.{Range, range, ranges, table_fault, hop_at}
use Rattle.ranges.specs.Builds.{output_after}
use Rattle.dxr.specs.Dxr.{table_words, table_main}
use Rattle.dxr.specs.Dxr.{all_short, words, all_words, long_range, short_range, entries_fine, chunk_fine, chunk_hop}

-- the half of a word in which entry i stands
abbrev pub half_at : ℕ → ℕ → ℕ
half_at w i = cond (eqb (i % 2) 0) (w / 65536) (w % 65536)

-- entry i of a part, in the one form or the other
abbrev pub entry_at : Bool → List ℕ → ℕ → Range
entry_at short part i = cond short (short_range (half_at (get_or part (i / 2) 0) i)) (long_range (get_or part i 0))

-- refusal 7 at chunk c where a rule is broken, or the hop
abbrev pub ruled : ℕ → Bool → ℕ → Answer
ruled c ok h = unless_fault (fault_if (not ok) image_refusal c) (value h)

-- what the entries of chunk c say of a key
abbrev pub entries_answer : ℕ → ℕ → List Range → ℕ → Answer
entries_answer size c es key = ruled c (entries_fine size es) (hop_at 0 es key)

-- what chunk c with this main word says of a key
abbrev pub chunk_answer : ℕ → ℕ → ℕ → List ℕ → ℕ → Answer
chunk_answer size c w ws key = ruled c (chunk_fine size w ws) (chunk_hop w ws key)

-- i is the last of the ranges with these rising starts that starts at or before address x
pub record LastAt (x : ℕ) (ss : List ℕ) (i : ℕ) : Type 0 where
  pub within : i < length ss
  pub start : get_or ss i 0 ≤ x
  pub next : i + 1 < length ss → x < get_or ss (i + 1) 0

-- the entry that a range makes in a chunk from address b on: one that starts before the chunk starts with it
abbrev pub entry_from : ℕ → Range → Range
entry_from b r = range (r.start - b) r.hop

abbrev pub entries_from : ℕ → List ℕ → List ℕ → List Range
entries_from b ss hs = map (entry_from b) (ranges ss hs)

-- entries whose starts and hops fit 16 bits each
abbrev pub Fits : List Range → Type 0
Fits [] = Unit {0}
Fits (r ∷ rs) = (r.start < 65536) × (r.hop ≤ max_hop) × Fits rs

-- entries that have room in the form, few enough for a count
pub record Encodable (form : Bool) (es : List Range) : Type 0 where
  pub fits : Fits es
  pub few : length es < 16384
  pub suits : form ≡ true → all_short es ≡ true

-- entries of a chunk, with room for their words behind those that are used
pub record HasRoom (es : List Range) (ws : List ℕ) (used : ℕ) : Type 0 where
  pub fits : Fits es
  pub some : 0 < length es
  pub few : length es < 16384
  pub low : used < 65536
  pub room : used + length (words es) ≤ length ws

-- rows of ranges of which a DXR table can be made: they keep the rules, and are few enough for the counts and positions of main words
pub record Splittable (W S : ℕ) (ss hs : List ℕ) : Type 0 where
  pub equal : length ss ≡ length hs
  pub rules : table_fault (ranges ss hs) ≡ fine
  pub few : length ss < 16383
  pub low : (c : ℕ) → length (all_words W S (ranges ss hs) c) < 65536

-- the table of the ranges t: refusal 9, or the number of its range words, and both output rows
abbrev pub split_answer : ℕ → ℕ → List Range → List ℕ → Answer
split_answer W S t ws =
    unless_fault (fault_if (ltb (length ws) (length (table_words W S t))) room_refusal 0) (value (length (table_words W S t)))

pub record IsSplit (W S : ℕ) (t : List Range) (ms ws : List ℕ) (answer : Answer) (ms' ws' : List ℕ) : Type 0 where
  pub answers : answer ≡ split_answer W S t ws
  pub main : ms' ≡ output_after (split_answer W S t ws) (table_main W S t) ms
  pub words : ws' ≡ output_after (split_answer W S t ws) (table_words W S t) ws
