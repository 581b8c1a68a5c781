-- A prefix and a hop that are not refused make a valid entry.
use Prim.Native.Nat.{ℕ, ◌≤◌}
use mathlib.Core.Path.{◌≡◌}
use Rattle.route.specs.Refusals.{fine, prefix_fault, hop_fault}
use Rattle.tcam.specs.Slots.{Cell, cell, tag_of}
use Rattle.route.proofs.Accepted.{prefix-good}
use Rattle.tcam.proofs.Cells.{entry_length, entry-used, entry-keeps}
use Rattle.claims.proofs.Row.{IsEntry}

abbrev pub cell_of : ℕ → ℕ → ℕ → Cell
cell_of a n h = cell a (tag_of n h)

module _ (W a n : ℕ) (f : prefix_fault W 0 a n ≡ fine) where
  pub prefix-length : n ≤ W
  prefix-length = (prefix-good W 0 a n f).0

  pub entry : (h : ℕ) → hop_fault 0 h ≡ fine → IsEntry W n (cell_of a n h)
  entry h g = record { used = entry-used W a n f h g; long = entry_length W a n f h g; keeps = entry-keeps W a n f h g }
