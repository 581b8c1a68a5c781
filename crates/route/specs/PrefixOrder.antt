-- The order of prefixes: by address, then by length. A build sorts by it, and a download gives the prefixes of a table in it.
use Rattle.std.specs.Prelude.{ℕ, ◌+◌, ◌*◌, Bool, ◌&&◌, ◌||◌, ltb, eqb}

-- whether the prefix a/n comes before b/m
abbrev pub comes_before : ℕ → ℕ → ℕ → ℕ → Bool
comes_before a n b m = ltb a b || (eqb a b && ltb n m)

-- a prefix as one number, 6 bits of length behind the address: where lengths are below 64, numbers come as their prefixes do
abbrev pub key_of : ℕ → ℕ → ℕ
key_of a n = a * 64 + n
