-- The row that `copy_rows` fills: after i turns, the first i numbers of each of the list's three rows are stored, from 0, from n and from 2 · n on.
-- Each is a run of stores (`sets` of lib.Seq). A store in front of a run commutes with it, so a turn makes each run longer by one.
-- In the row filled, which is the rows and then the rest as found, each row is found again.
use Prim.Native.Nat.{ℕ, suc, ◌+◌, ◌-◌, ◌*◌, ◌≤◌, ◌<◌}
use mathlib.Core.Path.{◌≡◌, refl, ◌∙◌, ap}
use mathlib.Core.List.{List, [], ◌∷◌, ◌++◌, map, append_assoc}
use native.Mathlib.Omega.{arith}
use native.Mathlib.Nat.{zero-add}
use native.Mathlib.Numerals.{add-one}
use lib.ListN.{length, get_or, set, take, drop, length-map, length-append, get_or-map}
use lib.Seq.{sets, sets-eq, set_comm, take-suc, length-take-le, take-length, take_at, drop_at}
use Rattle.std.specs.Borrow.{Bor}
use Rattle.std.specs.Fn.{Once, FnOnceReturns}
use Rattle.route.specs.Rows.{overwritten}
use Rattle.route.specs.declared.Route.{Route as RouteStruct}
use Rattle.route.proofs.Parts.{sets-append}
use Rattle.prefixes.specs.Prefixes.{address_row, length_row, hop_row}
use Rattle.prefixes.specs.Queries.{three_rows, ReturnsAtRows}

-- a store in front of a run
set-sets : (l : List ℕ) (k : ℕ) (vs : List ℕ) (j a : ℕ) → j < k → set (sets l k vs) j a ≡ sets (set l j a) k vs
set-sets l k [] j a h = refl
set-sets l k (v ∷ vs) j a h = set-sets (set l k v) (suc k) vs j a (omega arith) ∙ ap (λ r. sets r (suc k) vs) (set_comm l k j v a (λ e. omega arith))

-- one more of the run of a field f
set_next : (f : RouteStruct → ℕ) (l : List ℕ) (k : ℕ) (ys : List RouteStruct) (i : ℕ) (d : RouteStruct) (j : ℕ) → i < length ys → k + i ≡ j
    → set (sets l k (take i (map f ys))) j (f (get_or ys i d)) ≡ sets l k (take (suc i) (map f ys))
set_next f l k ys i d j h e =
    let inside : i < length (map f ys) = rw length-map h in
    let e' : length (take i (map f ys)) ≡ i = length-take-le i (map f ys) (omega arith) in
    rw (take-suc (map f ys) i (f d), get_or-map f ys i d, sets-append, e', e)

-- the part b of a row
part : (zs a b c : List ℕ) {k m : ℕ} → zs ≡ a ++ (b ++ c) → length a ≡ k → length b ≡ m → take m (drop k zs) ≡ b
part zs a b c {k} {m} is e f = rw (is, drop_at a (b ++ c) k e) (take_at b c m f)

module _ (ys : List RouteStruct) (xs : List ℕ) where
  abbrev n : ℕ
  n = length ys

  abbrev pub filled : ℕ → List ℕ
  filled i = sets (sets (sets xs 0 (take i (address_row ys))) n (take i (length_row ys))) (2 * n) (take i (hop_row ys))

  pub filled_next : (d : RouteStruct) (i : ℕ) → i < n
      → set (set (set (filled i) i (get_or ys i d).prefix.address) (n + i) (get_or ys i d).prefix.length.0) (2 * n + i) (get_or ys i d).hop.0 ≡ filled (i + 1)
  filled_next d i h =
      let l₁ : i < 2 * n = omega arith in
      let l₂ : n + i < 2 * n = omega arith in
      simp (set-sets, add-one, zero-add, set_next (λ r. r.prefix.address), set_next (λ r. r.prefix.length.0), set_next (λ r. r.hop.0))

  pub filled-all : 3 * n ≤ length xs → filled n ≡ overwritten (three_rows ys) xs
  filled-all room =
      let two : 2 * n ≡ n + n = omega arith in
      let l : 0 + length (three_rows ys) ≤ length xs = simp (length-append, length-map) (omega arith) in
      rw (all (λ r. r.prefix.address), all (λ r. r.prefix.length.0), all (λ r. r.hop.0), two) (simp (sets-append, length-map, zero-add) at (sets-eq (three_rows ys) xs 0 l))
    where
      all : (f : RouteStruct → ℕ) → take n (map f ys) ≡ map f ys
      all f = rw length-map at (take-length (map f ys))

  abbrev made : List ℕ
  made = overwritten (three_rows ys) xs

  abbrev rest : List ℕ
  rest = drop (length (three_rows ys)) xs

  pub first-row : take n made ≡ address_row ys
  first-row = part made [] (address_row ys) (length_row ys ++ (hop_row ys ++ rest)) (simp append_assoc) refl (length-map ys _)

  pub second-row : take (2 * n - n) (drop n made) ≡ length_row ys
  second-row =
      let one : n ≡ 2 * n - n = omega arith in
      part made (address_row ys) (length_row ys) (hop_row ys ++ rest) (simp append_assoc) (length-map ys _) (length-map ys _ ∙ one)

  pub third-row : take (3 * n - 2 * n) (drop (2 * n) made) ≡ hop_row ys
  third-row =
      let one : n ≡ 3 * n - 2 * n = omega arith in
      let two : length (address_row ys ++ length_row ys) ≡ 2 * n = simp (length-append, length-map) (omega arith) in
      part made (address_row ys ++ length_row ys) (hop_row ys) rest (simp append_assoc) two (length-map ys _ ∙ one)

-- what a call at the rows that stand in the row filled returns, a call at the rows of the list returns
pub reply-of-list : {F R : Type 0} {g : Once F (Bor (List ℕ) × (Bor (List ℕ) × (Bor (List ℕ) × Unit {0}))) R} {f : F} {r : R} (ps : List RouteStruct)
    (xs zs : List ℕ) (ads ns hs : Bor (List ℕ)) → zs ≡ overwritten (three_rows ps) xs → ads.now ≡ take (length ps) zs →
    ns.now ≡ take (2 * length ps - length ps) (drop (length ps) zs) → hs.now ≡ take (3 * length ps - 2 * length ps) (drop (2 * length ps) zs) →
    FnOnceReturns g f (ads, (ns, (hs, tt))) r → ReturnsAtRows g f ps r
reply-of-list ps xs zs ads ns hs filled first second third says =
    record {
      addresses = ads;
      lengths = ns;
      hops = hs;
      address_row = first ∙ rw filled (first-row ps xs);
      length_row = second ∙ rw filled (second-row ps xs);
      hop_row = third ∙ rw filled (third-row ps xs);
      returns = says;
    }
