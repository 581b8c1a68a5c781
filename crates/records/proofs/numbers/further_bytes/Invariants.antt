-- The loop reads byte k at its turn (BytesRead); what a byte adds keeps every sum and product within 32 bits.
use Rattle.records.proofs.Bytes.{BytesRead}
use Rattle.records.proofs.numbers.further_bytes.Given as goal

abbrev pub invariant-loop-k : goal.invariant-loop-k
invariant-loop-k l = BytesRead l.bytes l.at l.first l.value l.weight l.k
