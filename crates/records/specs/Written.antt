-- Update records as a writer writes them: the one form of each number, the numbers of each update, and the updates that have a form.
use Rattle.std.specs.Prelude.{ℕ, zero, suc, ◌+◌, ◌/◌, ◌%◌, ◌^◌, ◌≤◌, ◌<◌, ◌≡◌, cond, List, [], ◌∷◌, ◌++◌, ltb}
use Rattle.route.specs.Rule.{span}
use Rattle.route.specs.RowsOfSet.{Valid}
use Rattle.records.specs.Records.{Update, removal, setting}

-- the bytes of a number: groups of seven bits, low group first, the top bit set on all but the last; at most k groups
abbrev pub groups : ℕ → ℕ → List ℕ
groups zero v = []
groups (suc k) v = cond (ltb v 128) (v ∷ []) ((128 + v % 128) ∷ groups k (v / 128))

-- the bytes of a number below 2^32, which has at most five groups
unfoldable pub number_bytes : ℕ → List ℕ
number_bytes v = groups 5 v

-- the bytes of a prefix: its length, and its address divided by its span
abbrev pub prefix_bytes : ℕ → ℕ → ℕ → List ℕ
prefix_bytes W a n = number_bytes n ++ number_bytes (a / span W n)

-- the bytes of an update: its kind, its prefix and, for a set, the hop
abbrev pub update_bytes : ℕ → Update → List ℕ
update_bytes W (removal a n) = number_bytes 0 ++ prefix_bytes W a n
update_bytes W (setting r) = number_bytes 1 ++ prefix_bytes W r.address r.length ++ number_bytes r.hop

-- an update that can be written: a prefix of at most W bits at a multiple of its span, an address of W bits and, for a set, a hop
abbrev pub ValidUpdate : ℕ → Update → Type 0
ValidUpdate W (removal a n) = (n ≤ W) × (a % span W n ≡ 0) × (a < 2 ^ W)
ValidUpdate W (setting r) = Valid W r × (r.address < 2 ^ W)
