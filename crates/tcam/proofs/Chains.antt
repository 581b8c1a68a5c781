-- The chain of copies: how many writes it has, and the loops that count and put them.
use Rattle.std.proofs.Common.{cond, get_or, ◌≡◌, ℕ, zero, suc, ◌+◌, ◌*◌, ◌<◌, ◌≤◌, Bool, true, false, List, [], ◌∷◌, length, sym, refl, ap, ◌∙◌, arith, length-set}
use mathlib.Core.Option.{Option, none, some}
use Rattle.std.specs.Prelude.{Option as Optional, None, Some, IfSome}
use mir.Val.{bool_byte}
use Rattle.std.specs.Option.{is_some as found}
use Rattle.route.specs.declared.Slot.{Slot}
use Rattle.tcam.specs.Shown.{place_of}
use lib.Seq.{sets}
use Rattle.tcam.specs.Slots.{Cell, cells, free, max_slots}
use Rattle.tcam.specs.Plans.{Write, first_slot, last_slot, open_after, is_some, chain, numbers}
use Rattle.tcam.specs.Loops.{edge, lengths_from}
use Rattle.tcam.specs.InTurn.{lengths_of}
use Rattle.tcam.specs.declared.plan.Lengths.{Lengths}
use Rattle.tcam.proofs.Rows.{length-cells}

-- a slot that was found is one of the table's
first-bound : (p : Cell → Bool) (i s : ℕ) (cs : List Cell) → first_slot p i cs ≡ some s → s < i + length cs
first-bound p i s [] e = let z : ◌≡◌ {A = ℕ} 0 1 = cc in omega arith
first-bound p i s (c ∷ cs) e = go (first-bound p (i + 1) s cs) (p c) refl
  where
    go : (first_slot p (i + 1) cs ≡ some s → s < i + 1 + length cs) → (b : Bool) → p c ≡ b → s < i + suc (length cs)
    go ih true f = let z : some i ≡ some s = rw f at e in let y : i ≡ s = cc in omega arith
    go ih false f = let z : s < i + 1 + length cs = ih (rw f at e) in omega arith

last-bound : (p : Cell → Bool) (i s : ℕ) (cs : List Cell) → last_slot p i cs ≡ some s → s < i + length cs
last-bound p i s [] e = let z : ◌≡◌ {A = ℕ} 0 1 = cc in omega arith
last-bound p i s (c ∷ cs) e = go (last-bound p (i + 1) s cs) (last_slot p (i + 1) cs) refl (p c) refl
  where
    go : (last_slot p (i + 1) cs ≡ some s → s < i + 1 + length cs) → (m : Option ℕ) → last_slot p (i + 1) cs ≡ m → (b : Bool) → p c ≡ b → s < i + suc (length cs)
    go ih none f true g = let z : some i ≡ some s = rw (f, g) at e in let y : i ≡ s = cc in omega arith
    go ih none f false g = let z : none ≡ some s = rw (f, g) at e in let y : ◌≡◌ {A = ℕ} 0 1 = cc in omega arith
    go ih (some x) f b g = let z : some x ≡ some s = rw f at e in let y : s < i + 1 + length cs = ih (f ∙ z) in omega arith

abbrev pub FoundIn : List Cell → Option ℕ → Type 0
FoundIn cs o = (s : ℕ) → some s ≡ o → s < length cs

pub edge-within : (up : Bool) (p : Cell → Bool) (cs : List Cell) → FoundIn cs (edge up p cs)
edge-within true p cs s e = omega (arith, first-bound p 0 s cs (sym e))
edge-within false p cs s e = omega (arith, last-bound p 0 s cs (sym e))

pub open-within : (up : Bool) (p : Cell → Bool) (cs : List Cell) (s : ℕ) → s < length cs → open_after s (edge up p cs) < length cs
open-within up p cs s l = go (edge up p cs) (edge-within up p cs)
  where
    go : (o : Option ℕ) → FoundIn cs o → open_after s o < length cs
    go none h = l
    go (some t) h = h t refl

-- and of its rows, where the code found it
pub inside-table : (up : Bool) (p : Cell → Bool) (ad ts : List ℕ) → length ad ≡ length ts → (o : Optional Slot) → place_of o ≡ edge up p (cells ad ts) →
    IfSome o (λ s. s.0 < length ad)
inside-table up p ad ts e None f = tt
inside-table up p ad ts e (Some s) f = omega (arith, edge-within up p (cells ad ts) s.0 f, length-cells ad ts e)

-- how many of the lengths have an edge slot
abbrev pub moves : (ℕ → Option ℕ) → List ℕ → ℕ
moves edge [] = 0
moves edge (l ∷ ls) = cond (is_some (edge l)) 1 0 + moves edge ls

-- no more than there are lengths
one-move : (o : Option ℕ) → cond (is_some o) 1 0 ≤ 1
one-move none = omega arith
one-move (some s) = omega arith

pub moves-most : (edge : ℕ → Option ℕ) (ls : List ℕ) → moves edge ls ≤ length ls
moves-most edge [] = omega arith
moves-most edge (l ∷ ls) = omega (arith, one-move (edge l), moves-most edge ls)

-- one write for each, and the last
pub length-chain : (edge : ℕ → Option ℕ) (cs : List Cell) (ls : List ℕ) (at : ℕ) (c : Cell) → length (chain edge cs ls at c) ≡ moves edge ls + 1
length-chain edge cs [] at c = refl
length-chain edge cs (l ∷ ls) at c = go (edge l) refl (λ a. length-chain edge cs ls a c)
  where
    go : (m : Option ℕ) → edge l ≡ m → ((a : ℕ) → length (chain edge cs ls a c) ≡ moves edge ls + 1) →
        length (chain edge cs (l ∷ ls) at c) ≡ moves edge (l ∷ ls) + 1
    go none e ih = rw e (omega (arith, ih at))
    go (some s) e ih = rw e (omega (arith, ih s))

-- so many writes were counted, and the lengths that are left give the rest
pub record CountedWrites (edge : ℕ → Option ℕ) (all ls : List ℕ) (w : ℕ) : Type 0 where
  pub left : w + moves edge ls ≡ moves edge all + 1

pub counted-start : (edge : ℕ → Option ℕ) (all : List ℕ) → CountedWrites edge all all 1
counted-start edge all = record { left = omega arith }

-- a length's edge slot, found or not, is one write or none
pub counted-turn : {edge : ℕ → Option ℕ} {all ls : List ℕ} {l w b : ℕ} → CountedWrites edge all (l ∷ ls) w → (o : Optional Slot) → place_of o ≡ edge l →
    b ≡ bool_byte (found o) → CountedWrites edge all ls (w + b)
counted-turn h None e f = record { left = omega (arith, rw (← e) at h.left) }
counted-turn h (Some s) e f = record { left = omega (arith, rw (← e) at h.left) }

pub counted-few : {edge : ℕ → Option ℕ} {all ls : List ℕ} {w : ℕ} → CountedWrites edge all ls w → w ≤ length all + 1
counted-few {edge} {all} h = omega (arith, h.left, moves-most edge all)

pub counted-end : {edge : ℕ → Option ℕ} {all : List ℕ} {w : ℕ} → CountedWrites edge all [] w → (cs : List Cell) (at : ℕ) (c : Cell) → w ≡ length (chain edge cs all at c)
counted-end {edge} {all} h cs at c = omega (arith, h.left, length-chain edge cs all at c)

-- as many lengths as are counted
pub length-lengths : (up : Bool) (k l : ℕ) → length (lengths_from up k l) ≡ k
length-lengths true zero l = refl
length-lengths true (suc k) l = ap suc (length-lengths true k (l + 1))
length-lengths false zero l = refl
length-lengths false (suc k) l = ap suc (length-lengths false k l)

-- the first of lengths in turn
first-below : (up : Bool) (k l : ℕ) {n : ℕ} {ls : List ℕ} → lengths_from up k l ≡ n ∷ ls → n < l + k
first-below true zero l e = cc
first-below true (suc k) l {n} e = let h : l ≡ n = cc in omega arith
first-below false zero l e = cc
first-below false (suc k) l {n} e = let h : l + k ≡ n = cc in omega arith

pub first-length : (r : Lengths) {n : ℕ} {ls : List ℕ} → lengths_of r ≡ n ∷ ls → n ≤ 32
first-length r e = omega (arith, first-below r.up r.count r.from.0 e, r.within)

-- w writes are in the plan; the lengths that are left and the last write give the rest of the row that is wanted, in which the chain
-- begins at write `start`
pub record ChainPut (edge : ℕ → Option ℕ) (cs : List Cell) (c : Cell) (all : List Write) (start : ℕ) (plan₀ plan ls : List ℕ) (at w : ℕ) : Type 0 where
  pub inside : at < length cs
  pub size : length plan ≡ length plan₀
  pub count : w + length (chain edge cs ls at c) ≡ start + length all
  pub left : sets plan (3 * w) (numbers (chain edge cs ls at c)) ≡ sets plan₀ (3 * start) (numbers all)

pub chain-start : (edge : ℕ → Option ℕ) (cs : List Cell) (c : Cell) (start : ℕ) (plan ls : List ℕ) (at : ℕ) → at < length cs →
    ChainPut edge cs c (chain edge cs ls at c) start plan plan ls at start
chain-start edge cs c start plan ls at l = record { inside = l; size = refl; count = refl; left = refl }

module _ {edge : ℕ → Option ℕ} {cs : List Cell} {c : Cell} {all : List Write} {start : ℕ} {plan₀ plan ls : List ℕ} {at w : ℕ}
    (h : ChainPut edge cs c all start plan₀ plan ls at w) where
  -- the open slot is in the table, and there is room for a write
  pub chain-room : 3 * (start + length all) ≤ length plan₀ → length cs ≤ max_slots → (3 * w + 3 ≤ length plan) × (at < max_slots)
  chain-room r l = (omega (arith, h.count, h.size, length-chain edge cs ls at c), omega (arith, h.inside))

-- l is the next length
module _ {edge : ℕ → Option ℕ} {cs : List Cell} {c : Cell} {all : List Write} {start : ℕ} {plan₀ plan : List ℕ} {l : ℕ} {ls : List ℕ} {at w : ℕ}
    (h : ChainPut edge cs c all start plan₀ plan (l ∷ ls) at w) where
  -- it has no edge slot
  pub chain-pass : edge l ≡ none → ChainPut edge cs c all start plan₀ plan ls at w
  chain-pass e = record { inside = h.inside; size = h.size; count = rw e at h.count; left = rw e at h.left }

  -- its edge entry is in slot t
  pub chain-turn : {t : ℕ} {d : Cell} → edge l ≡ some t → t < length cs → d ≡ get_or cs t free → {plan' : List ℕ} →
      plan' ≡ sets plan (3 * w) (at ∷ d.address ∷ d.tag ∷ []) → ChainPut edge cs c all start plan₀ plan' ls t (w + 1)
  chain-turn e i is g =
      let three : 3 * (w + 1) ≡ suc (suc (suc (3 * w))) = omega arith in
      let g' = rw is at g in
      record {
        inside = i;
        size = ap length g ∙ simp length-set h.size;
        count = omega (arith, rw e at h.count);
        left = rw (g', three) (rw e at h.left);
      }
