-- Update records: the reader accepts exactly what a writer writes, and a loop from place to place ends.
use Rattle.std.specs.Prelude.{ℕ, ◌+◌, ◌-◌, ◌≤◌, ◌<◌, ◌≡◌, List, ◌++◌, length, get_or, take, drop}
use Rattle.route.specs.Refusals.{cut_refusal}
use Rattle.records.specs.Records.{Update, update, refused_at, record_at}
use Rattle.records.specs.Written.{update_bytes, ValidUpdate}

-- a row of bytes
abbrev pub Bytes : List ℕ → Type 0
Bytes bs = (i : ℕ) → get_or bs i 0 < 256

-- the bytes of every valid update are read as that update, whatever stands before and behind them; where an update is read it is valid, and
-- its own bytes stand there; the next place is behind the place asked for and within the input; the place of a cut is the input's length
pub record RecordForms (W : ℕ) : Type 0 where
  pub written :
      (u : Update) → ValidUpdate W u → (xs ys : List ℕ) →
      record_at W (xs ++ (update_bytes W u ++ ys)) (length xs) ≡ update u (length xs + length (update_bytes W u))
  pub read :
      (bs : List ℕ) → Bytes bs → (at next : ℕ) (u : Update) → record_at W bs at ≡ update u next →
      ValidUpdate W u × (take (next - at) (drop at bs) ≡ update_bytes W u)
  pub ahead : (bs : List ℕ) (at next : ℕ) (u : Update) → record_at W bs at ≡ update u next → (at < next) × (next ≤ length bs)
  pub cut : (bs : List ℕ) (at p : ℕ) → record_at W bs at ≡ refused_at cut_refusal p → p ≡ length bs
