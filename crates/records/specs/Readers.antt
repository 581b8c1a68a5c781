-- What a reader does: it answers what stands at its place, and a record moves it to the next place.
use Rattle.std.specs.Prelude.{ℕ, ◌≡◌, Option, Result}
use Rattle.route.specs.declared.Refusal.{Refusal}
use Rattle.records.specs.Records.{Reply, update, ended, refused_at, record_at}
use Rattle.records.specs.Shown.{reply}
use Rattle.records.specs.declared.Record.{Record}
use Rattle.records.specs.declared.reader.Reader.{Reader}

-- where a reader stands behind its answer: behind a record at the next place, else where it was
abbrev pub place_after : Reply → ℕ → ℕ
place_after (update u next) at = next
place_after ended at = at
place_after (refused_at n p) at = at

-- the reader r answers s and is r' then: the same bytes, behind what was read
pub record IsNext (r : Reader) (s : Result (Option (Record × ℕ)) Refusal) (r' : Reader) : Type 0 where
  pub answers : reply s ≡ record_at 32 r.src.now r.at
  pub source : r'.src ≡ r.src
  pub place : r'.at ≡ place_after (record_at 32 r.src.now r.at) r.at
