-- The plain answer over a lent list: three rows of numbers, addresses, lengths and hops, in any order.
--
-- A list is tested entry by entry; an entry is refused for its own numbers before it is compared with the entries before it. An
-- accepted list is a set: each prefix valid, none twice (RowsOfSet).
use Rattle.std.specs.Prelude.{ℕ, ◌+◌, ◌≡◌, Bool, false, not, ◌&&◌, ◌||◌, List, [], ◌∷◌, leb, eqb, length}
use Rattle.route.specs.Limits.{max_routes}
use Rattle.route.specs.Rule.{Route, route, answer}
use Rattle.route.specs.Refusals.{Verdict, fine, fault_if, ◌then◌, Answer, value, unless_fault, entry_fault, size_refusal, twice_refusal}

-- the routes that the rows say
abbrev pub routes : List ℕ → List ℕ → List ℕ → List Route
routes [] ns hs = []
routes (a ∷ ad) [] hs = []
routes (a ∷ ad) (n ∷ ns) [] = []
routes (a ∷ ad) (n ∷ ns) (h ∷ hs) = route a n h ∷ routes ad ns hs

-- one prefix, whatever the hops
abbrev pub same_prefix : Route → Route → Bool
same_prefix r s = eqb r.address s.address && eqb r.length s.length

-- whether any member of a row has a property
abbrev pub any : {A : Type 0} → (A → Bool) → List A → Bool
any p [] = false
any p (x ∷ xs) = p x || any p xs

-- whether one of the routes has the prefix of r
abbrev pub has_prefix : Route → List Route → Bool
has_prefix r rs = any (same_prefix r) rs

-- entry by entry the refusals 1 to 4; `earlier` are the entries before entry i
abbrev pub list_fault : ℕ → ℕ → List Route → List Route → Verdict
list_fault W i earlier [] = fine
list_fault W i earlier (r ∷ rs) =
    entry_fault W i r
    then fault_if (has_prefix r earlier) twice_refusal i
    then list_fault W (i + 1) (r ∷ earlier) rs

-- refusal 8: rows of unequal length, or too many entries
abbrev pub sizes_fault : ℕ → ℕ → ℕ → Verdict
sizes_fault addresses lengths hops =
    fault_if (not (eqb addresses lengths && eqb addresses hops && leb addresses max_routes)) size_refusal 0

abbrev pub rows_size_fault : List ℕ → List ℕ → List ℕ → Verdict
rows_size_fault ad ns hs = sizes_fault (length ad) (length ns) (length hs)

-- refusal 8 of a list, then 1 to 4
abbrev pub rows_fault : ℕ → List ℕ → List ℕ → List ℕ → Verdict
rows_fault W ad ns hs = rows_size_fault ad ns hs then list_fault W 0 [] (routes ad ns hs)

-- test a list: refusals 8 and 1 to 4, or the number of entries
abbrev pub list_check : ℕ → List ℕ → List ℕ → List ℕ → Answer
list_check W ad ns hs = unless_fault (rows_fault W ad ns hs) (value (length ad))

-- look q up: refusals 8 and 1 to 4, or the answer
abbrev pub list_lookup : ℕ → List ℕ → List ℕ → List ℕ → ℕ → Answer
list_lookup W ad ns hs q = unless_fault (rows_fault W ad ns hs) (value (answer W (routes ad ns hs) q))

-- the three rows have one length
pub record EqualRows (ad ns hs : List ℕ) : Type 0 where
  pub second : length ad ≡ length ns
  pub third : length ad ≡ length hs
