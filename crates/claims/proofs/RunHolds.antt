-- A slot's run holds what it repeats.
use Prim.Native.Nat.{ℕ}
use Rattle.claims.specs.RunHolds.{RunHolds}
use Rattle.tcam.proofs.Runs.{repeats-in-run, run-addresses, fault-by-runs}

pub run_holds : (W : ℕ) → RunHolds W
run_holds W = record { repeated = repeats-in-run W; by_address = run-addresses; same_fault = fault-by-runs W }
