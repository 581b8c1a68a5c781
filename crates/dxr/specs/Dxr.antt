-- DXR over the width W of an address and the split S: the first S bits of an address choose its chunk, the others are the key.
--
-- A chunk has 2^(W - S) addresses, and a word of the main table. Its entries are the merged ranges inside it, with starts counted from its
-- first address; the first entry starts there, with the hop that holds there, so that a chunk is looked up without its neighbours. A
-- chunk of one entry is its hop, in the main word itself. The entries of any other stand in the range words, in a part of their own that
-- the main word points to: long entries of 32 bits, or short ones of 16 where all of them fit.
use Rattle.std.specs.Prelude.{ℕ, suc, zero, ◌+◌, ◌-◌, ◌*◌, ◌/◌, ◌%◌, ◌^◌, Bool, true, false, cond, not, ◌&&◌, List, [], ◌∷◌, ◌++◌, leb, ltb, eqb, length, get_or, take, drop}
use Rattle.route.specs.Limits.{max_hop}
use Rattle.route.specs.Refusals.{Verdict, fault_if, ◌then◌, Answer, value, unless_fault, image_refusal, size_refusal}
use Rattle.ranges.specs.Ranges.{Range, range, hop_at}

-- how many addresses a chunk has
abbrev pub chunk_size : ℕ → ℕ → ℕ
chunk_size W S = 2 ^ (W - S)

-- the ranges that start behind address b and before address e, their starts counted from b
abbrev pub inside : ℕ → ℕ → List Range → List Range
inside b e [] = []
inside b e (r ∷ rs) =
    cond (ltb b r.start && ltb r.start e)
    (range (r.start - b) r.hop ∷ inside b e rs)
    (inside b e rs)

-- the entries of chunk c of a range table
abbrev pub chunk : ℕ → ℕ → List Range → ℕ → List Range
chunk W S t c = range 0 (hop_at 0 t (c * chunk_size W S)) ∷ inside (c * chunk_size W S) ((c + 1) * chunk_size W S) t

-- whether an entry fits 16 bits, and whether all do
abbrev pub fits_short : Range → Bool
fits_short r = eqb (r.start % 256) 0 && leb r.hop 255

abbrev pub all_short : List Range → Bool
all_short [] = true
all_short (r ∷ rs) = fits_short r && all_short rs

-- a long entry, and the words of some
abbrev pub long_entry : Range → ℕ
long_entry r = r.start * 65536 + r.hop

abbrev pub long_words : List Range → List ℕ
long_words [] = []
long_words (r ∷ rs) = long_entry r ∷ long_words rs

-- a short entry, and the words of some: two to a word, the earlier in the upper half, an odd last half 0
abbrev pub short_entry : Range → ℕ
short_entry r = r.start / 256 * 256 + r.hop

abbrev pub short_words : List Range → List ℕ
short_words [] = []
short_words (r ∷ []) = (short_entry r * 65536) ∷ []
short_words (r ∷ s ∷ rs) = (short_entry r * 65536 + short_entry s) ∷ short_words rs

-- the range words of entries in the one form or the other
abbrev pub encoded : Bool → List Range → List ℕ
encoded short es = cond short (short_words es) (long_words es)

-- the range words of a chunk's entries: none where there is one entry
abbrev pub words : List Range → List ℕ
words [] = []
words (r ∷ []) = []
words (r ∷ s ∷ rs) = encoded (all_short (r ∷ s ∷ rs)) (r ∷ s ∷ rs)

-- a main word of three parts: kind 1 for long entries, 2 for short ones; their count; the position of their first range word
abbrev pub pointer : Bool → ℕ → ℕ → ℕ
pointer short count position = cond short 2 1 * 2 ^ 30 + count * 65536 + position

-- the main word of a chunk whose range words have this position
abbrev pub main_word : List Range → ℕ → ℕ
main_word [] position = 0
main_word (r ∷ []) position = r.hop
main_word (r ∷ s ∷ rs) position = pointer (all_short (r ∷ s ∷ rs)) (length (r ∷ s ∷ rs)) position

-- the range words of the first n chunks, in rising order and with no gap
abbrev pub all_words : ℕ → ℕ → List Range → ℕ → List ℕ
all_words W S t zero = []
all_words W S t (suc c) = all_words W S t c ++ words (chunk W S t c)

-- the main words of the first n chunks; a chunk's position is the number of range words before its own
abbrev pub main_words : ℕ → ℕ → List Range → ℕ → List ℕ
main_words W S t zero = []
main_words W S t (suc c) = main_words W S t c ++ (main_word (chunk W S t c) (length (all_words W S t c)) ∷ [])

-- the range words and the main words of the whole table, which has 2^S chunks
unfoldable pub table_words : ℕ → ℕ → List Range → List ℕ
table_words W S t = all_words W S t (2 ^ S)

unfoldable pub table_main : ℕ → ℕ → List Range → List ℕ
table_main W S t = main_words W S t (2 ^ S)

-- the parts of a main word
abbrev pub kind_in : ℕ → ℕ
kind_in w = w / 2 ^ 30

abbrev pub count_in : ℕ → ℕ
count_in w = w / 65536 % 2 ^ 14

abbrev pub position_in : ℕ → ℕ
position_in w = w % 65536

-- the entries that range words say
abbrev pub long_range : ℕ → Range
long_range w = range (w / 65536) (w % 65536)

abbrev pub long_entries : List ℕ → List Range
long_entries [] = []
long_entries (w ∷ ws) = long_range w ∷ long_entries ws

abbrev pub short_range : ℕ → Range
short_range x = range (x / 256 * 256) (x % 256)

abbrev pub short_entries : List ℕ → List Range
short_entries [] = []
short_entries (w ∷ ws) = short_range (w / 65536) ∷ short_range (w % 65536) ∷ short_entries ws

-- the first entries of a part, in the one form or the other
abbrev pub decoded : Bool → ℕ → List ℕ → List Range
decoded short count part = take count (cond short (short_entries part) (long_entries part))

-- whether starts rise from s on, inside a chunk of this size
abbrev pub starts_rise : ℕ → ℕ → List Range → Bool
starts_rise size s [] = true
starts_rise size s (r ∷ rs) = ltb s r.start && ltb r.start size && starts_rise size r.start rs

-- the rules of a chunk's entries: the first start is 0, starts rise
abbrev pub entries_fine : ℕ → List Range → Bool
entries_fine size [] = false
entries_fine size (r ∷ rs) = eqb r.start 0 && starts_rise size 0 rs

-- how many range words so many entries take
abbrev pub part_length : Bool → ℕ → ℕ
part_length short count = cond short ((count + 1) / 2) count

-- whether a main word points to short entries, and its part of the range words: shorter where it is not inside them
abbrev pub is_short : ℕ → Bool
is_short w = eqb (kind_in w) 2

abbrev pub part_of : ℕ → List ℕ → List ℕ
part_of w ws = take (part_length (is_short w) (count_in w)) (drop (position_in w) ws)

abbrev pub entries_of : ℕ → List ℕ → List Range
entries_of w ws = decoded (is_short w) (count_in w) (part_of w ws)

-- whether a main word points to at least two entries, inside the range words
abbrev pub points_inside : ℕ → List ℕ → Bool
points_inside w ws = leb 2 (count_in w) && leb (position_in w + part_length (is_short w) (count_in w)) (length ws)

-- whether a chunk keeps the rules: a direct word is a hop or 0; of any other the kind is not 3, its part is inside the range words and
-- its entries keep theirs
abbrev pub chunk_fine : ℕ → ℕ → List ℕ → Bool
chunk_fine size w ws = cond (eqb (kind_in w) 0) (leb w max_hop) (ltb (kind_in w) 3 && points_inside w ws && entries_fine size (entries_of w ws))

-- the hop for a key: that of the last start at or below it
abbrev pub chunk_hop : ℕ → List ℕ → ℕ → ℕ
chunk_hop w ws key = cond (eqb (kind_in w) 0) w (hop_at 0 (entries_of w ws) key)

-- refusal 8: not one main word for each chunk
abbrev pub main_fault : ℕ → List ℕ → Verdict
main_fault S main = fault_if (not (eqb (length main) (2 ^ S))) size_refusal 0

-- look q up: refusals 8, and 7 at the chunk, or the hop
abbrev pub dxr_lookup : ℕ → ℕ → List ℕ → List ℕ → ℕ → Answer
dxr_lookup W S main ws q =
    unless_fault
    (main_fault S main then fault_if (not (chunk_fine (chunk_size W S) w ws)) image_refusal (q / chunk_size W S))
    (value (chunk_hop w ws (q % chunk_size W S)))
  where
    w : ℕ
    w = get_or main (q / chunk_size W S) 0
