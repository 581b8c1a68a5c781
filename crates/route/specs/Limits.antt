-- The limits of what a caller may lend, each named once.
use Rattle.std.specs.Prelude.{ℕ}

-- entries of a list
abbrev pub max_routes : ℕ
max_routes = 4096

-- a next hop is 1 to this; 0 is only ever an answer
abbrev pub max_hop : ℕ
max_hop = 65535
