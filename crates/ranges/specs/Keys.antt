-- The build's keys. A key is a route as one number of 64 bits: the order of these is the order of address, length and hop.
use Rattle.std.specs.Prelude.{ℕ, ◌+◌, ◌*◌, ◌/◌, ◌%◌, List, map, slice_index_or}
use Rattle.route.specs.Rule.{Route, route}
use Rattle.route.specs.PrefixOrder
use Rattle.ranges.specs.declared.words.Key.{Key}

-- the key of a route: its prefix's key, then 16 bits of hop
abbrev pub key_of : Route → Key
key_of r = record { 0 = PrefixOrder.key_of r.address r.length * 65536 + r.hop }

-- and the route that a key says
abbrev pub route_in : Key → Route
route_in k = route (k.0 / 4194304 % 4294967296) (k.0 / 65536 % 64) (k.0 % 65536)

-- the keys of some routes, and the routes of some keys
abbrev pub keys_of : List Route → List Key
keys_of rs = map key_of rs

abbrev pub routes_in : List Key → List Route
routes_in ks = map route_in ks

-- key i of a row
abbrev pub key_at : List Key → ℕ → Route
key_at ks i = route_in (slice_index_or ks i (record { 0 = 0 }))
