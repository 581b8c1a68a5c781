-- Demand 2 holds, and so do the board cases and those of mending.
pub mod Demand2
pub mod Board
pub mod MendCases
-- Demand 3, from the bottom up. First lists: how many members have a property, pairs, members, lists joined from either side.
pub mod Times
pub mod Pairs
pub mod Members
pub mod Join
-- slots sought
pub mod Find
-- the book: one row, a turned row, a row about an entry, rows of several lengths, where a length lies, the image
pub mod Row
pub mod Turn
pub mod Found
pub mod Rows
pub mod Lies
pub mod Image
-- the walk of the open slot; the plans are walks from the book's image to the next book's
pub mod Walk
pub mod Hop
pub mod Chain
pub mod Update
pub mod Prefix
pub mod Side
pub mod Updates
-- plans applied; the set that slots hold; S2 to S4 as one order; prefixes that stand twice
pub mod Apply
pub mod Set
pub mod Rank
pub mod Repeats
-- what holds of an image and of the set that it holds
pub mod Form
pub mod Next
pub mod HasPrefix
-- mending: an image in order is a book's; the second copy is walked to the pool; half-written images
pub mod Picked
pub mod BookOf
pub mod MendWalk
pub mod Doubled
pub mod Half
pub mod Mends
pub mod Mending
-- plans cut, answered; the claim
pub mod Cuts
pub mod Entry
pub mod Answer
pub mod NewEntry
pub mod SetCall
pub mod RemoveCall
pub mod Demand3
-- a set has a table
pub mod HasTable
-- the report from the book, and the room for its plans
pub mod ReportOfBook
pub mod PlanRoom
pub mod Example
-- the download: one call, any walk, the updates that go on, the claim
pub mod NextEntry
pub mod DownloadWalk
pub mod Meanwhile
pub mod Download
pub mod DownloadCases
-- a plan applied again, the test by runs, update records
pub mod Reapplied
pub mod RunHolds
pub mod RecordForms
-- all claims
pub mod Page
