-- RFC 4632's rule, over the width W of an address in bits: the longest matching prefix decides.
--
-- A prefix of length n covers 2^(W - n) addresses, its span. It matches the addresses that have its own quotient by the span, so
-- length 0 matches every address and needs no shift by the width. Where no prefix matches there is no next hop: that is a case of its
-- own, `nothing`, and the number 0 only where an answer is written down.
use Rattle.std.specs.Prelude.{ℕ, ◌-◌, ◌/◌, ◌^◌, Bool, true, false, cond, List, [], ◌∷◌, ltb, eqb}

-- a prefix with its next hop
pub record Route : Type 0 where
  pub address : ℕ
  pub length : ℕ
  pub hop : ℕ

abbrev pub route : ℕ → ℕ → ℕ → Route
route a n h = record { address = a; length = n; hop = h }

-- how many addresses a prefix of length n covers
abbrev pub span : ℕ → ℕ → ℕ
span W n = 2 ^ (W - n)

-- whether the prefix a/n matches the address q
abbrev pub matches : ℕ → ℕ → ℕ → ℕ → Bool
matches W a n q = eqb (q / span W n) (a / span W n)

-- a longest match, if anything matches
pub data Match : Type 0 where
  nothing : Match
  best : Route → Match

-- what the route r, which matches or not, makes of the best match among the others
abbrev pub improved : Bool → Route → Match → Match
improved false r m = m
improved true r nothing = best r
improved true r (best s) = cond (ltb s.length r.length) (best r) (best s)

-- the longest of the routes that match q
abbrev pub longest : ℕ → List Route → ℕ → Match
longest W [] q = nothing
longest W (r ∷ rs) q = improved (matches W r.address r.length q) r (longest W rs q)

-- the answer's number: 0 is none
abbrev pub hop_of : Match → ℕ
hop_of nothing = 0
hop_of (best r) = r.hop

-- the hop of the longest matching prefix, 0 where none matches
abbrev pub answer : ℕ → List Route → ℕ → ℕ
answer W rs q = hop_of (longest W rs q)
