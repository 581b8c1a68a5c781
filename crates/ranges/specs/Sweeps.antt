-- The build's way: a sweep over the routes in order of address, of length where addresses are equal.
--
-- A prefix is open from its address up to its end. The sweep holds the open prefixes, the one opened last first, the address up to
-- which it has made ranges, and these ranges. Before it opens a prefix it closes those that end by there; at each of these addresses
-- it makes a range for the addresses passed over, with the hop of the prefix opened last.
--
-- That it makes the merged ranges of the routes is a law (proofs/Sweeps).
use Rattle.std.specs.Prelude.{ℕ, ◌-◌, ◌^◌, Bool, false, cond, not, ◌&&◌, List, [], ◌∷◌, ◌++◌, ◌==◌, nat_le, nat_lt}
use Rattle.route.specs.Rule.{Route}
use Rattle.ranges.specs.Ranges.{Range, range, past_end}

pub record Sweep : Type 0 where
  pub opened : List Route
  pub reached : ℕ
  pub made : List Range

abbrev pub sweep : List Route → ℕ → List Range → Sweep
sweep rs x t = record { opened = rs; reached = x; made = t }

-- the hop of the last of the ranges, h where there is none
abbrev pub last_of : ℕ → List Range → ℕ
last_of h [] = h
last_of h (r ∷ rs) = last_of r.hop rs

-- whether the last of the ranges has this hop
abbrev pub ends_with : List Range → ℕ → Bool
ends_with [] h = false
ends_with (r ∷ rs) h = last_of r.hop rs == h

-- the ranges with one more at their end, unless the last of them has its hop
abbrev pub joined : List Range → Range → List Range
joined t r = cond (ends_with t r.hop) t (t ++ (r ∷ []))

-- the hop of the prefix opened last, 0 where none is open
abbrev pub open_hop : List Route → ℕ
open_hop [] = 0
open_hop (r ∷ rs) = r.hop

-- the ranges with one that starts where the sweep is
abbrev pub extended : Sweep → List Range
extended s = joined s.made (range s.reached (open_hop s.opened))

-- on to address x
abbrev pub advanced : ℕ → Sweep → Sweep
advanced x s = cond (nat_lt s.reached x) (sweep s.opened x (extended s)) s

-- whether the prefix ends at x or before; one that lasts up to the last address of all never does
abbrev pub ends_by : ℕ → ℕ → Route → Bool
ends_by W x r = not (past_end W r == 0) && nat_le (past_end W r) x

-- the prefixes opened last closed, while they end by x
abbrev pub closed : ℕ → ℕ → List Route → ℕ → List Range → Sweep
closed W x [] a t = sweep [] a t
closed W x (r ∷ rs) a t =
    let s = advanced (past_end W r) (sweep (r ∷ rs) a t) in
    cond (ends_by W x r) (closed W x rs s.reached s.made) (sweep (r ∷ rs) a t)

abbrev pub closed_by : ℕ → ℕ → Sweep → Sweep
closed_by W x s = closed W x s.opened s.reached s.made

-- a prefix opened
abbrev pub opening : ℕ → Sweep → Route → Sweep
opening W s r = let c = advanced r.address (closed_by W r.address s) in sweep (r ∷ c.opened) c.reached c.made

-- all of them in turn
abbrev pub swept : ℕ → Sweep → List Route → Sweep
swept W s [] = s
swept W s (r ∷ rs) = swept W (opening W s r) rs

-- the ranges of the whole sweep: at the end every prefix with an end is closed, and the last range lasts
abbrev pub swept_ranges : ℕ → List Route → List Range
swept_ranges W rs = extended (closed_by W (2 ^ W - 1) (swept W (sweep [] 0 []) rs))
