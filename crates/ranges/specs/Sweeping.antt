-- The specification's sweep for the code's; what the code's steps leave as it was.
use Rattle.std.specs.Prelude.{[], ◌≡◌, ◌+◌, ◌-◌, ◌*◌, ◌<◌, map, take, length}
use Rattle.route.specs.Loops.{before}
use Rattle.ranges.specs.Sweeps.{Sweep, sweep}
use Rattle.ranges.specs.Keys.{key_at}
use Rattle.ranges.specs.Shown.{range_of}
use Rattle.ranges.specs.declared.sweep.Sweep.{Sweep as CodeSweep}

-- a sweep whose open prefixes are the first of its keys, the last of them opened last, and whose ranges are the first of its row
abbrev pub sweep_of : CodeSweep → Sweep
sweep_of s = sweep (before (key_at s.keys.now) s.at.opened) s.at.reached (map range_of (take s.at.made s.ranges.now))

-- there is room for one range more than the keys that are left and the open prefixes can make
abbrev pub HasRoom : CodeSweep → Type 0
HasRoom s = s.at.made + s.at.opened + 2 * (length s.keys.now - s.read) < length s.ranges.now

-- the keys, how many are read, and the room for ranges are as they were
pub record SameKeys (s t : CodeSweep) : Type 0 where
  pub keys : t.keys.now ≡ s.keys.now
  pub read : t.read ≡ s.read
  pub ranges : length t.ranges.now ≡ length s.ranges.now

-- a sweep at its start
pub record Starts (s : CodeSweep) : Type 0 where
  pub room : HasRoom s
  pub sweep : sweep_of s ≡ sweep [] 0 []
  pub read : s.read ≡ 0
