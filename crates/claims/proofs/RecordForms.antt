-- The reader accepts exactly what a writer writes, and its places lie in the input.
use Prim.Native.Nat.{ℕ, ◌≤◌}
use Rattle.records.proofs.Places.{ahead, cut-at-the-end}
use Rattle.records.proofs.UpdateForms.{written-update, update-form}
use Rattle.claims.specs.RecordForms.{RecordForms}

pub record_forms : (W : ℕ) → W ≤ 32 → RecordForms W
record_forms W small = record {
  written = λ u valid xs ys. written-update xs ys W u small valid;
  read = λ bs byte at next u e. update-form W bs at byte e;
  ahead = λ bs at next u e. let a = ahead W bs at e in (a.behind, a.within);
  cut = λ bs at p e. cut-at-the-end W bs at e;
}
