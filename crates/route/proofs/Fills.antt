-- Loops that fill a row with values from its front on: at place i those that are left, written, give the row that is wanted.
use Prim.Native.Nat.{ℕ, ◌+◌, ◌≤◌, ◌<◌}
use mathlib.Core.Path.{◌≡◌, refl, ◌∙◌}
use mathlib.Core.List.{List, append-nil}
use native.Mathlib.Omega.{arith}
use native.Mathlib.Nat.{zero-add}
use native.Mathlib.Numerals.{add-one}
use lib.ListN.{length, drop, get_or, set, length-set, drop_of_length-le}
use lib.Seq.{drop-cons, sets, sets-eq}
use Rattle.route.specs.Rows.{overwritten}

pub record FilledTo (values row₀ row : List ℕ) (i : ℕ) : Type 0 where
  pub room : length values ≤ length row₀
  pub size : length row ≡ length row₀
  pub left : sets row i (drop i values) ≡ sets row₀ 0 values

pub fill_start : {values row : List ℕ} → length values ≤ length row → FilledTo values row row 0
fill_start l = record { room = l; size = refl; left = refl }

module _ {values row₀ row : List ℕ} {i : ℕ} (h : FilledTo values row₀ row i) where
  pub fill-turn : i < length values → {v : ℕ} → v ≡ get_or values i 0 → FilledTo values row₀ (set row i v) (i + 1)
  fill-turn l e = record {
    room = h.room;
    size = length-set row i _ ∙ h.size;
    left = rw (e, add-one i) (rw (drop-cons values i 0 l) at h.left);
  }

  pub fill_end : length values ≤ i → row ≡ overwritten values row₀
  fill_end l = (rw (drop_of_length-le values l) at h.left) ∙ (rw zero-add at (sets-eq values row₀ 0 (omega (arith, h.room))))

  -- where they fill the whole row
  pub fill-whole : length values ≡ length row₀ → length values ≤ i → row ≡ values
  fill-whole e l =
      let past : length row₀ ≤ length values = omega arith in
      fill_end l ∙ (rw (drop_of_length-le row₀ past) (append-nil values))
