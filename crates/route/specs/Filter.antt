-- A filter: a row of words in which each prefix has one word, and two bits of it. Which word and which bits is for speed alone; no
-- answer depends on it.
use Rattle.std.specs.Prelude.{ℕ, ◌+◌, ◌*◌, ◌-◌, ◌/◌, ◌%◌, ◌^◌, ◌≡◌, Bool, true, List, eqb, length, get_or}
use Rattle.std.specs.Int.Bits.{bit_and, bit_or}

-- a number for each prefix
abbrev pub hash_of : ℕ → ℕ → ℕ
hash_of a n = a * 2654435769 + n * 1540483477

-- its word in a row of k words, and its bits
unfoldable pub word_in : ℕ → ℕ → ℕ
word_in k h = bit_and (h / 2 ^ 20) (k - 1)

unfoldable pub bits_of : ℕ → ℕ
bits_of h = bit_or (2 ^ (h / 2 ^ 32 % 64)) (2 ^ (h / 2 ^ 38 % 64))

-- whether word w has all of the bits: to set them changes nothing
abbrev pub has_bits : List ℕ → ℕ → ℕ → Bool
has_bits row w bits = eqb (bit_or (get_or row w 0) bits) (get_or row w 0)

-- whether all bits of the prefix a/n are set
unfoldable pub is_noted : List ℕ → ℕ → ℕ → Bool
is_noted row a n = has_bits row (word_in (length row) (hash_of a n)) (bits_of (hash_of a n))

-- a/n is noted, and what was noted before still is; `was` says whether it was noted before
pub record Noting (row : List ℕ) (a n : ℕ) (was : Bool) (row' : List ℕ) : Type 0 where
  pub asked : was ≡ is_noted row a n
  pub noted : is_noted row' a n ≡ true
  pub kept : (b m : ℕ) → is_noted row b m ≡ true → is_noted row' b m ≡ true
