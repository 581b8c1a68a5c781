-- A range in one word: its start, then its hop in 16 bits. The word says both.
use Prim.Native.Nat.{ℕ, ◌+◌, ◌*◌, ◌/◌, ◌%◌, ◌<◌}
use mathlib.Core.Path.{◌≡◌, ap₂}
use native.Mathlib.Omega.{arith}
use Rattle.ranges.specs.Ranges.{Range, range}

-- the word of a range
abbrev pub word_of : Range → ℕ
word_of r = r.start * 65536 + r.hop

-- the range that a word says
abbrev pub range_in : ℕ → Range
range_in w = range (w / 65536 % 4294967296) (w % 65536)

-- a start and a hop from their word
pub word_start : (s h : ℕ) → s < 4294967296 → h < 65536 → (s * 65536 + h) / 65536 % 4294967296 ≡ s
word_start s h l m = omega arith

pub word_hop : (s h : ℕ) → h < 65536 → (s * 65536 + h) % 65536 ≡ h
word_hop s h m = omega arith

pub word_says : (r : Range) → r.start < 4294967296 → r.hop < 65536 → range_in (word_of r) ≡ r
word_says r l m = ap₂ range (word_start r.start r.hop l m) (word_hop r.start r.hop m)
