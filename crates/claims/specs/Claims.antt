-- The claims, on one page. The contract of `hold` is this record, so each of them is a part of the crate's verdict.
use Rattle.std.specs.Prelude.{ℕ, ◌≤◌, ◌≡◌, List}
use Rattle.history.specs.Whole.{WholeReport}
use Rattle.claims.specs.Agreement.{Demand2, HasTable}
use Rattle.claims.specs.Sequence.{Demand3}
use Rattle.claims.specs.Reapplied.{Reapplied}
use Rattle.claims.specs.RunHolds.{RunHolds}
use Rattle.claims.specs.Mending.{Mends}
use Rattle.claims.specs.Download.{DownloadClaim}
use Rattle.claims.specs.Board.{got, expected}
use Rattle.claims.specs.MendCases
use Rattle.claims.specs.DownloadCases
use Rattle.claims.specs.RecordForms.{RecordForms}
use Rattle.claims.specs.ReportOfBook.{ReportOfBook}
use Rattle.claims.specs.PlanRoom.{PlansHaveRoom}
use Rattle.claims.specs.Example.{Example}
use Rattle.claims.specs.Determined.{Determined}

pub record Claims : Type 0 where
  -- The list, the slots, the merged ranges and the DXR table of one set of prefixes give every address the next hop of the longest
  -- matching prefix, and none exactly where no prefix matches; no other answer is right. What is built fits its rows: P prefixes give at
  -- most 2P + 1 ranges, 2P - 1 with length 0 among them, and at most 12,288 range words.
  pub demand2 : Demand2
  -- Every set of at most M routes has a table of M slots.
  pub has_table : (W : ℕ) → HasTable W
  -- From an empty table of 1 to 4,096 slots, over any sequence of planned sets, planned removals and applies, refused ones included: each
  -- answers as the book does, with its refusal or its number of writes; the table is the book's image; and every cut of every accepted
  -- plan looks up right, for the set before and, from one named write on, for the set after, and can be mended, to a table of that set.
  -- Between its first write and its last a plan leaves a table that breaks a rule, so that updates refuse it.
  pub demand3 : (W : ℕ) → Demand3 W
  -- A plan can be applied write by write on one table, each time from its start: the first k writes leave what they leave of the table
  -- before the plan.
  pub reapplied : (W : ℕ) → Reapplied W
  -- Where no slot up to and including an entry's breaks S1 to S4, it repeats an earlier prefix exactly when it repeats one in the unbroken
  -- run of its own length just before it. In that run its prefix stands exactly where its address does. So the image test by runs finds
  -- the same first broken slot on every image.
  pub run_holds : (W : ℕ) → RunHolds W
  -- An image that a mend does not refuse with 8 or 7 is mended. The plan is bounded as a removal's is, by 18 writes where addresses have 32
  -- bits. Every cut of it answers as the image did at the start, and its end is a well-formed table of what the slots held. A mend that is
  -- cut short can itself be mended. A well-formed image needs no writes. Where S1 to S4 hold and exactly one prefix stands twice, with
  -- equal tags, the plan is the removal of the later copy.
  pub mends : (W : ℕ) → Mends W
  -- The download gives the prefixes of a table one to a call, in order of address, then length, while updates go on. Each call gives the
  -- least prefix ahead, with its first slot's tag. Over any images the list rises, a prefix present in every image of a finished walk is
  -- given exactly once, and one present in none never. With the calls of demand 3 and single writes of their plans between the calls,
  -- every image is one that demand 3 speaks of and keeps S1, and no call is refused. A table that stays as it is takes at most a call more
  -- than it has slots, and over images that keep S1 a walk ends, whatever is written.
  pub download : (W : ℕ) → DownloadClaim W
  -- The board cases a to j come out as they stand on the board.
  pub board : got ≡ expected
  -- The cases of mending come out as expected.
  pub mend_cases : MendCases.got ≡ MendCases.expected
  -- The cases of the download come out as expected.
  pub download_cases : DownloadCases.got ≡ DownloadCases.expected
  -- The reader of update records accepts exactly what a writer writes, and its places lie in the input.
  pub records : (W : ℕ) → W ≤ 32 → RecordForms W
  -- The parts of a report, one after another, are the report, whatever the buffers' lengths; a buffer is refused exactly where the next
  -- line does not fit it.
  pub parts : (bs rooms : List ℕ) → WholeReport bs rooms
  -- The report of any input can be worked out from the book alone.
  pub report : ReportOfBook
  -- No update of a report is refused with 9: the row that it lends to a plan has room for every plan.
  pub plan_room : PlansHaveRoom
  -- The report of the board's example is the text on the board.
  pub example : Example
  -- What a call shows, its number, place and values, determines the value that it returns.
  pub determined : Determined
