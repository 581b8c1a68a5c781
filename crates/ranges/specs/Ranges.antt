-- The merged ranges of a set of routes, and the lookup in lent ranges.
--
-- A range table is a row of ranges: the first starts at 0, starts rise, neighbouring hops differ. Each range ends just before the next
-- start, the last one at the last address of all. The hop can change only at a boundary, an address where a prefix starts or has just
-- ended; a boundary at which it does change starts a range.
use Rattle.std.specs.Prelude.{ℕ, ◌+◌, ◌%◌, ◌^◌, Bool, true, cond, not, ◌&&◌, ◌||◌, List, [], ◌∷◌, map, length, ◌==◌, nat_le, nat_lt}
use Rattle.route.specs.Limits.{max_hop}
use Rattle.route.specs.Rule.{Route, span, answer}
use Rattle.route.specs.Refusals.{Verdict, fine, fault_if, ◌then◌, Answer, value, unless_fault, image_refusal, size_refusal}

-- the most ranges of a table
abbrev pub max_ranges : ℕ
max_ranges = 8193

pub record Range : Type 0 where
  pub start : ℕ
  pub hop : ℕ

abbrev pub range : ℕ → ℕ → Range
range s h = record { start = s; hop = h }

-- one past the last address of a prefix; past the last address of all it is 0
abbrev pub past_end : ℕ → Route → ℕ
past_end W r = (r.address + span W r.length) % 2 ^ W

-- a rising row with one number more; 0 is never added, since a range starts there anyway
abbrev pub added : ℕ → List ℕ → List ℕ
added x [] = cond (x == 0) [] (x ∷ [])
added x (y ∷ ys) = cond (x == 0 || x == y) (y ∷ ys) (cond (nat_lt x y) (x ∷ y ∷ ys) (y ∷ added x ys))

-- the addresses above 0 where a prefix starts or has just ended, rising
abbrev pub boundaries : ℕ → List Route → List ℕ
boundaries W [] = []
boundaries W (r ∷ rs) = added r.address (added (past_end W r) (boundaries W rs))

-- a range at each boundary at which the hop f changes; h is the hop before the first of them
abbrev pub merged : (ℕ → ℕ) → ℕ → List ℕ → List Range
merged f h [] = []
merged f h (x ∷ xs) = cond (f x == h) (merged f h xs) (range x (f x) ∷ merged f (f x) xs)

abbrev pub ranges_of : ℕ → List Route → List Range
ranges_of W rs = range 0 (answer W rs 0) ∷ merged (answer W rs) (answer W rs 0) (boundaries W rs)

-- the ranges that two lent rows say
abbrev pub ranges : List ℕ → List ℕ → List Range
ranges [] hs = []
ranges (s ∷ ss) [] = []
ranges (s ∷ ss) (h ∷ hs) = range s h ∷ ranges ss hs

-- and back: a table's two rows
abbrev pub starts_of : List Range → List ℕ
starts_of rs = map (λ r. r.start) rs

abbrev pub hops_of : List Range → List ℕ
hops_of rs = map (λ r. r.hop) rs

-- whether a range breaks a rule behind the range p: it does not start later, has the same hop, or one over the limit
abbrev pub breaks : Range → Range → Bool
breaks p r = nat_le r.start p.start || r.hop == p.hop || nat_lt max_hop r.hop

-- whether the first range breaks a rule
abbrev pub first_breaks : Range → Bool
first_breaks r = not (r.start == 0) || nat_lt max_hop r.hop

-- refusal 7 of the ranges behind the range p, of which the first is range i
abbrev pub ranges_fault : ℕ → Range → List Range → Verdict
ranges_fault i p [] = fine
ranges_fault i p (r ∷ rs) = fault_if (breaks p r) image_refusal i then ranges_fault (i + 1) r rs

-- refusal 7 of a table; one without a range breaks the rule of the first
abbrev pub table_fault : List Range → Verdict
table_fault [] = fault_if true image_refusal 0
table_fault (r ∷ rs) = fault_if (first_breaks r) image_refusal 0 then ranges_fault 1 r rs

-- refusal 8: rows of unequal length, or too many ranges
abbrev pub size_fault : List ℕ → List ℕ → Verdict
size_fault ss hs = fault_if (not (length ss == length hs && nat_le (length ss) max_ranges)) size_refusal 0

-- the hop of the last range that starts at or below q, of ranges whose starts rise; h before them
abbrev pub hop_at : ℕ → List Range → ℕ → ℕ
hop_at h [] q = h
hop_at h (r ∷ rs) q = cond (nat_le r.start q) (hop_at r.hop rs q) h

-- look q up in a table: refusal 7, or the hop
abbrev pub table_lookup : List Range → ℕ → Answer
table_lookup t q = unless_fault (table_fault t) (value (hop_at 0 t q))

-- look q up: refusals 8 and 7, or the hop
abbrev pub range_lookup : List ℕ → List ℕ → ℕ → Answer
range_lookup ss hs q = unless_fault (size_fault ss hs then table_fault (ranges ss hs)) (value (hop_at 0 (ranges ss hs) q))
