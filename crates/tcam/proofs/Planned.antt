-- What a plan answers and leaves in the lent row: refused, the row as it was; else its writes, and the cells past them as found.
use Rattle.std.proofs.Common.{◌≡◌, ℕ, ◌+◌, ◌-◌, ◌*◌, ◌/◌, ◌<◌, ◌≤◌, Bool, true, false, cond, not, leb, List, [], ◌∷◌, ◌++◌, length, get_or, drop, refl, ap, ◌∙◌, zero-add, arith, le-ltb, lt-ltb, eqb}
use mathlib.Core.Option.{Option, none, some}
use lib.Seq.{sets, sets-eq}
use Rattle.std.specs.Ordering.{is_le, is_lt, nat_cmp}
use Rattle.std.proofs.lemmas.Bool.Decides.{nat_tests}
use Rattle.route.specs.Refusals.{Answer, value, refused, fine, room_refusal, full_refusal}
use Rattle.tcam.specs.Slots.{Cell, is_free, free}
use Rattle.tcam.specs.Plans.{Write, Planned, refuses, writes, with_room, numbers, IsPlanned, write, chain, remove_by}
use Rattle.tcam.specs.Plans.{first_slot, last_slot, first_of_length, last_of, rising, falling, or_else, is_some, open_after, set_at, remove_present}
use Rattle.tcam.specs.Loops.{edge, edge_of, lengths_from, lengths_to}
use Rattle.tcam.specs.InTurn.{lengths_of, chain_of}
use Rattle.tcam.specs.declared.plan.Lengths.{Lengths}

pub length-numbers : (ws : List Write) → length (numbers ws) ≡ 3 * length ws
length-numbers [] = refl
length-numbers (w ∷ ws) = omega (arith, length-numbers ws)

-- the numbers of the writes put into a row that has room
put-row : (ws : List Write) (row : List ℕ) → 3 * length ws ≤ length row → sets row 0 (numbers ws) ≡ numbers ws ++ drop (3 * length ws) row
put-row ws row m =
    let l : length (numbers ws) ≡ 3 * length ws = length-numbers ws in
    sets-eq (numbers ws) row 0 (omega arith) ∙ rw (zero-add, l)

module _ {p : Planned} {row : List ℕ} where
  pub planned-refused : {n q : ℕ} → p ≡ refuses n q → IsPlanned p row (refused n q) row
  planned-refused e = record { answers = rw e; after = rw e }

  pub planned-same : {p' : Planned} {a : Answer} {row' : List ℕ} → p ≡ p' → IsPlanned p' row a row' → IsPlanned p row a row'
  planned-same e h = record { answers = rw e h.answers; after = rw e h.after }

-- w writes, for which there is no room, or that were put from the row's first cell on
module _ (ws : List Write) {row : List ℕ} {w : ℕ} (many : w ≡ length ws) where
  pub no_room : length row < 3 * w → IsPlanned (with_room (length row) fine ws) row (refused room_refusal 0) row
  no_room l = planned-refused (rw (lt-ltb (length row) (3 * length ws) (omega arith)))

  pub planned-put : {row' : List ℕ} → 3 * w ≤ length row → row' ≡ sets row 0 (numbers ws) → IsPlanned (with_room (length row) fine ws) row (value w) row'
  planned-put l g =
      let e : with_room (length row) fine ws ≡ writes ws = rw (le-ltb (length row) (3 * length ws) (omega arith)) in
      record { answers = rw e (ap value many); after = rw e (g ∙ put-row ws row (omega arith)) }

-- where the gap is not at its length's edge, the edge entry goes there first
module _ (edge : ℕ → Option ℕ) (cs : List Cell) (ls : List ℕ) (s e : ℕ) where
  pub gap-elsewhere : false ≡ eqb s e → remove_by edge cs ls s e ≡ write s (get_or cs e free) ∷ chain edge cs ls e free
  gap-elsewhere q = rw (← q)

-- the code's tests of two lengths
pub le-test : (a b : ℕ) → is_le (nat_cmp a b) ≡ leb a b
le-test a b = grind (arith, nat_tests)

pub lt-test : (a b : ℕ) → is_lt (nat_cmp a b) ≡ not (leb b a)
lt-test a b = grind (arith, nat_tests)

-- a set of an absent prefix, by the row of edge slots on its side of the pool
some-first-last : (p : Cell → Bool) (i : ℕ) (cs : List Cell) → is_some (first_slot p i cs) ≡ is_some (last_slot p i cs)
some-first-last p i [] = refl
some-first-last p i (c ∷ cs) = go (p c) (first_slot p (i + 1) cs) (last_slot p (i + 1) cs) (some-first-last p (i + 1) cs)
  where
    go : (b : Bool) (x y : Option ℕ) → is_some x ≡ is_some y → is_some (cond b (some i) x) ≡ is_some (or_else y (cond b (some i) none))
    go true x none e = refl
    go true x (some y) e = refl
    go false x none e = e
    go false x (some y) e = e

some-edge : (up : Bool) (p : Cell → Bool) (cs : List Cell) → is_some (first_slot p 0 cs) ≡ is_some (edge up p cs)
some-edge true p cs = refl
some-edge false p cs = some-first-last p 0 cs

module _ (W : ℕ) (cs : List Cell) (n : ℕ) (c : Cell) (room : ℕ) where
  pub set_full : (up : Bool) → edge up is_free cs ≡ none → set_at W cs n c room none ≡ refuses full_refusal 0
  set_full up e =
      let f : is_some (first_slot is_free 0 cs) ≡ false = some-edge up is_free cs ∙ ap is_some e in
      rw f

  pub set-chain : {s : ℕ} (r : Lengths) → r.up ≡ leb (W / 2) n → lengths_of r ≡ lengths_to W r.up n → edge r.up is_free cs ≡ some s →
      set_at W cs n c room none ≡ with_room room fine (chain_of r cs s c)
  set-chain {s} r u l e =
      let f : is_some (first_slot is_free 0 cs) ≡ true = some-edge r.up is_free cs ∙ ap is_some e in
      rw f (ap (with_room room fine) (go (leb (W / 2) n) u ∙ rw (← l)))
    where
      go : (t : Bool) → r.up ≡ t →
          cond t (chain (first_of_length cs) cs (rising (n - W / 2) (W / 2)) (open_after 0 (first_slot is_free 0 cs)) c)
          (chain (last_of cs) cs (falling (W / 2 - 1 - n) (n + 1)) (open_after 0 (last_slot is_free 0 cs)) c)
          ≡ chain (edge_of r.up cs) cs (cond t (lengths_from r.up (n - W / 2) (W / 2)) (lengths_from r.up (W / 2 - 1 - n) (n + 1))) s c
      go true q = let e' = rw q at e in rw (q, e')
      go false q = let e' = rw q at e in rw (q, e')

-- and a removal
module _ (W : ℕ) (cs : List Cell) (n : ℕ) where
  pub erase-chain : {t : ℕ} (s : ℕ) (r : Lengths) → r.up ≡ not (leb (W / 2) n) → lengths_of r ≡ lengths_to W r.up n → t ≡ open_after s (edge_of r.up cs n) →
      remove_present W cs n s ≡ remove_by (edge_of r.up cs) cs (lengths_of r) s t
  erase-chain s r u l e = go (leb (W / 2) n) u ∙ rw (e, l)
    where
      go : (b : Bool) → r.up ≡ not b → cond b (remove_by (last_of cs) cs (falling (n - W / 2) (W / 2)) s (open_after s (last_of cs n)))
          (remove_by (first_of_length cs) cs (rising (W / 2 - 1 - n) (n + 1)) s (open_after s (first_of_length cs n)))
          ≡ remove_by (edge_of r.up cs) cs (cond b (lengths_from r.up (n - W / 2) (W / 2)) (lengths_from r.up (W / 2 - 1 - n) (n + 1))) s (open_after s (edge_of r.up cs n))
      go true q = rw q
      go false q = rw q
