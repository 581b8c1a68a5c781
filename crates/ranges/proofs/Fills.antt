-- The values that the loops of a build fill rows with: a key for each entry, a part of each range.
use Rattle.std.proofs.Common.{◌≡◌, ℕ, ◌+◌, ◌<◌, List, [], ◌∷◌, ◌++◌, map, length, get_or, take, set, sym, ap, ◌∙◌, add-one, arith, take-suc, take-suc-set}
use lib.ListN.{length-map}
use Rattle.std.proofs.lemmas.List.{get_or-map}
use Rattle.route.specs.Rule.{Route, route}
use Rattle.route.specs.Loops.{entry_of}
use Rattle.ranges.specs.Ranges.{Range}
use Rattle.ranges.specs.Keys.{key_of, keys_of}
use Rattle.ranges.specs.declared.words.Key.{Key}
use Rattle.ranges.specs.Shown.{range_of}
use Rattle.ranges.specs.declared.words.Range.{Range as InCode}

pub keys_length : (rs : List Route) → length (keys_of rs) ≡ length rs
keys_length rs = length-map rs key_of

-- the keys before place i are stored, and then the one there
pub keys-turn : (rs : List Route) (row : List Key) (i : ℕ) (k : Key) → i < length row → i < length rs → k ≡ key_of (entry_of rs i) →
    take i row ≡ take i (keys_of rs) → take (i + 1) (set row i k) ≡ take (i + 1) (keys_of rs)
keys-turn rs row i k l m e before =
    let there : i < length (keys_of rs) = omega (arith, keys_length rs) in
    let is : k ≡ get_or (keys_of rs) i k = e ∙ sym (get_or-map key_of rs i (route 0 0 0) k m) in
    rw (add-one i, take-suc-set row i k l, take-suc (keys_of rs) i k there, ← is) (ap (λ t. t ++ k ∷ []) before)

pub part_at : (part : Range → ℕ) (rs : List InCode) (d : InCode) (i : ℕ) → i < length rs →
    get_or (map part (map range_of rs)) i 0 ≡ part (range_of (get_or rs i d))
part_at part rs d i l =
    let m : i < length (map range_of rs) = omega (arith, length-map rs range_of) in
    get_or-map part (map range_of rs) i (range_of d) 0 m ∙ ap part (get_or-map range_of rs i d (range_of d) l)

pub parts-length : (part : Range → ℕ) (rs : List InCode) → length (map part (map range_of rs)) ≡ length rs
parts-length part rs = length-map (map range_of rs) part ∙ length-map rs range_of
