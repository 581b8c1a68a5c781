-- Cases of the download, in one list: what the definitions give, and what is expected. proofs/DownloadCases has the one proof.
use Rattle.std.specs.Prelude.{ℕ, List, [], ◌∷◌, ◌++◌, replicate, take}
use Rattle.route.specs.Rule.{Route}
use Rattle.tcam.specs.Slots.{cell, free, tag_of}
use Rattle.tcam.specs.Applies.{written}
use Rattle.claims.specs.Sequence.{set, remove, apply_plan}
use Rattle.claims.specs.Board.{ip, set_p, eight_slots, remove_writes}
use Rattle.tcam.specs.Download.{start, past, Next, entry, end, refusal, download}
use Rattle.claims.specs.Download.{Image, asked, walk, Event, update, write, read, at_first, images_read}

-- the removal of the /24 from set P's table, cut after its first write: 10.20.0.0/16 stands in two slots
abbrev pub half_written : Image
half_written = written eight_slots (take 1 (remove_writes eight_slots (ip 10 20 4 0) 24))

-- one prefix in two slots with two tags; a slot that breaks S1 behind one that does not
abbrev pub two_tags : Image
two_tags = free ∷ cell (ip 10 0 0 0) (tag_of 8 5) ∷ cell (ip 10 0 0 0) (tag_of 8 1) ∷ []

abbrev pub broken : Image
broken = free ∷ cell (ip 10 0 0 1) (tag_of 8 1) ∷ []

-- a row for a plan, and sets that are applied whole
abbrev pub plan_row : List ℕ
plan_row = replicate 54 0

abbrev pub set_whole : List Route → List Event
set_whole [] = []
set_whole (r ∷ rs) = update (set r.address r.length r.hop plan_row) ∷ update apply_plan ∷ set_whole rs

-- set P is set in eight slots; while it is read out the /24 is removed, with a call at each write
abbrev pub meanwhile : List Event
meanwhile =
    set_whole set_p ++ (read ∷ read ∷ update (remove (ip 10 20 4 0) 24 plan_row) ∷ read ∷ write ∷ read ∷ write ∷ read ∷ [])

-- set P's table, that table half-written, and the walk with the removal; prefixes asked from, and a prefix with two tags; refusals
abbrev pub got : List (List Next)
got =
    walk 32 (replicate 6 eight_slots)
    ∷ walk 32 (replicate 5 half_written)
    ∷ walk 32 (images_read 32 meanwhile (at_first 8))
    ∷ (asked 32 eight_slots start
    ∷ asked 32 eight_slots (past (ip 10 20 4 8) 31)
    ∷ asked 32 eight_slots (past (ip 255 255 255 255) 32)
    ∷ asked 32 two_tags start
    ∷ [])
    ∷ (download 32 (0 ∷ []) [] (past 0 33)
    ∷ asked 32 broken (past 0 33)
    ∷ asked 32 eight_slots (past (ip 10 0 0 1) 33)
    ∷ asked 32 eight_slots (past (ip 10 0 0 1) 8)
    ∷ [])
    ∷ []

-- an entry by its prefix and hop
abbrev pub given : ℕ → ℕ → ℕ → Next
given a n h = entry a n (tag_of n h)

abbrev pub without_the24 : List Next
without_the24 = given 0 0 7 ∷ given (ip 10 0 0 0) 8 1 ∷ given (ip 10 20 0 0) 16 2 ∷ given (ip 10 20 4 9) 32 2 ∷ end ∷ []

abbrev pub expected : List (List Next)
expected =
    (given 0 0 7 ∷ given (ip 10 0 0 0) 8 1 ∷ given (ip 10 20 0 0) 16 2 ∷ given (ip 10 20 4 0) 24 3 ∷ given (ip 10 20 4 9) 32 2 ∷ end ∷ [])
    ∷ without_the24
    ∷ without_the24
    ∷ (given 0 0 7 ∷ given (ip 10 20 4 9) 32 2 ∷ end ∷ given (ip 10 0 0 0) 8 5 ∷ [])
    ∷ (refusal 8 0 ∷ refusal 7 1 ∷ refusal 1 0 ∷ refusal 2 0 ∷ [])
    ∷ []
