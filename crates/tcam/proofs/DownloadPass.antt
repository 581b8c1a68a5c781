-- What the code of the download's pass keeps: the slot of the nearest entry, and how far ahead it is, by keys.
use Rattle.std.proofs.Common.{◌≡◌, ℕ, ◌+◌, ◌<◌, ◌≤◌, true, false, ◌&&◌, ltb, leb, List, length, sym, refl, ap, subst, ◌∙◌, arith, ltb-false, ltb-true, le-ltb, lt-ltb, leb-false, leb-true}
use mathlib.Core.Option.{Option, none, some}
use Rattle.std.specs.Prelude.{Option as Optional, None, Some, Ok}
use Rattle.route.specs.PrefixOrder.{key_of}
use Rattle.route.specs.Refusals.{image_refusal}
use Rattle.tcam.specs.Slots.{Cell, is_free, length_in, keeps_s1}
use Rattle.tcam.specs.Download.{From, is_to_come, is_ahead, end, refusal, entry_or_end}
use Rattle.tcam.specs.Shown.{cell_of, cell_at, next_of}
use Rattle.route.specs.declared.Slot.{Slot}
use Rattle.tcam.specs.declared.slots.Cell.{Cell as SlotCell}
use Rattle.tcam.specs.Loops.{far_ahead, IsLeast, IsAheadOf}
use Rattle.route.proofs.Tests.{by_test}
use Rattle.route.proofs.PrefixOrder.{by_key}
use Rattle.tcam.proofs.Cells.{used-short}
use Rattle.tcam.proofs.Downloads.{yields, next_from, NextBefore, next-stop, next-kept, next-turn, next-end}

-- the entry whose slot the code keeps
abbrev pub entry_at : List ℕ → List ℕ → Optional Slot → Option Cell
entry_at ad ts None = none
entry_at ad ts (Some s) = some (cell_at ad ts s.0)

-- how far ahead it is
abbrev Keeps : ℕ → Option Cell → ℕ → Type 0
Keeps least none nearest = nearest ≡ far_ahead
Keeps least (some c) nearest = (least + nearest ≡ key_of c.address (length_in c)) × (nearest < far_ahead) × (length_in c < 64)

pub record PassAt (W : ℕ) (ad ts : List ℕ) (from : From) (least nearest : ℕ) (next : Optional Slot) (i : ℕ) : Type 0 where
  pub bound : IsLeast from least
  pub before : NextBefore W ad ts from (entry_at ad ts next) i
  pub keeps : Keeps least (entry_at ad ts next) nearest

kept_near : (least : ℕ) (o : Option Cell) (nearest : ℕ) → Keeps least o nearest → nearest ≤ far_ahead
kept_near least none nearest k = omega arith
kept_near least (some c) nearest k = omega (arith, k.1)

-- where a key is nearer than what is kept
key-is : {least key r : ℕ} → IsAheadOf least key r → r < far_ahead → least + r ≡ key
key-is {least} {key} d l = by_test (leb least key)
    (λ t. d.is (leb-true least key t))
    (λ t. absurd (omega (arith, d.far (leb-false least key t))))

-- it is nearer exactly where it is to come, and comes before what is kept
module _ {from : From} {least : ℕ} (b : IsLeast from least) (nearest : ℕ) (c : Cell) (a : c.address < 4294967296) (s : length_in c < 64)
    {r : ℕ} (d : IsAheadOf least (key_of c.address (length_in c)) r) where
  abbrev key : ℕ
  key = key_of c.address (length_in c)

  sooner-by-key : (o : Option Cell) → Keeps least o nearest → least + r ≡ key → ltb r nearest ≡ yields o c
  sooner-by-key none k e = lt-ltb r nearest (omega arith)
  sooner-by-key (some x) k e =
      let y = key_of x.address (length_in x) in
      by_test (ltb r nearest)
      (λ t. t ∙ sym (lt-ltb key y (omega (arith, k.0, ltb-true r nearest t))))
      (λ t. t ∙ sym (le-ltb key y (omega (arith, k.0, ltb-false r nearest t))))
      ∙ sym (by_key c.address (length_in c) x.address (length_in x) s k.2)

  nearer : (o : Option Cell) → Keeps least o nearest → ltb r nearest ≡ (is_to_come from c.address (length_in c) && yields o c)
  nearer o k = rw (b.is c.address (length_in c) s) (by_test (leb least key)
      (λ t. rw t (sooner-by-key o k (d.is (leb-true least key t))))
      (λ t. rw t (le-ltb r nearest (omega (arith, d.far (leb-false least key t), kept_near least o nearest k)))))

-- what the code finds of slot i
module _ {W : ℕ} {ad ts : List ℕ} {from : From} {least nearest : ℕ} {next : Optional Slot} {i : ℕ} (h : PassAt W ad ts from least nearest next i) where
  pub pass-stop : i < length ad → {c : SlotCell} → cell_of c ≡ cell_at ad ts i → keeps_s1 W (cell_of c) ≡ false → refusal image_refusal i ≡ next_from W ad ts from none 0
  pass-stop l is k = next-stop h.before l is k

  module _ (l : i < length ad) {c : SlotCell} (is : cell_of c ≡ cell_at ad ts i) (k : keeps_s1 W (cell_of c) ≡ true) where
    pub pass-free : is_free (cell_of c) ≡ true → PassAt W ad ts from least nearest next (i + 1)
    pass-free u = record { bound = h.bound; before = next-turn h.before l is k {b = false} (rw u) refl; keeps = h.keeps }

    -- a used slot is kept exactly where it is nearer than what is kept
    module _ (u : is_free (cell_of c) ≡ false) (a : c.address < 4294967296) (w : W < 64) {r : ℕ} (d : IsAheadOf least (key_of c.address (length_in (cell_of c))) r) where
      short : length_in (cell_of c) < 64
      short = omega (arith, used-short W (cell_of c) k u)

      test : ltb r nearest ≡ (is_ahead from (cell_of c) && yields (entry_at ad ts next) (cell_of c))
      test = rw u (nearer h.bound nearest (cell_of c) a short d (entry_at ad ts next) h.keeps)

      pub pass_kept : {s : Slot} → s.0 ≡ i → r < nearest → PassAt W ad ts from least r (Some s) (i + 1)
      pass_kept {s = s} e t =
          let here : cell_of c ≡ cell_at ad ts s.0 = is ∙ ap (cell_at ad ts) (sym e) in
          let near : r < far_ahead = omega (arith, kept_near least (entry_at ad ts next) nearest h.keeps) in
          record {
            bound = h.bound;
            before = subst (λ (x : Cell). NextBefore W ad ts from (some x) (i + 1)) here (next-kept h.before l is k test (lt-ltb r nearest t));
            keeps = subst (λ (x : Cell). Keeps least (some x) r) here (key-is d near, near, short);
          }

      pub pass-turn : nearest ≤ r → PassAt W ad ts from least nearest next (i + 1)
      pass-turn t = record { bound = h.bound; before = next-turn h.before l is k test (le-ltb r nearest t); keeps = h.keeps }

  pub pass-none : length ad ≤ i → next ≡ None → end ≡ next_from W ad ts from none 0
  pass-none l e = rw e at (next-end h.before l)

  pub pass-some : length ad ≤ i → {s : Slot} → next ≡ Some s → {c : SlotCell} → cell_of c ≡ cell_at ad ts s.0 → next_of (Ok (Some c)) ≡ next_from W ad ts from none 0
  pass-some l e is = ap (λ (x : Cell). entry_or_end (some x)) is ∙ (rw e at (next-end h.before l))
