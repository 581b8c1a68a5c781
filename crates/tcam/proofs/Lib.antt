-- One slot, the rows of a table as slots, what a tested table says, and the slots' part of demand 2.
pub mod Cells
pub mod Rows
pub mod OrElse
pub mod SlotsAgree
pub mod Sizes
-- S5 by runs of one length.
pub mod Runs
-- The loops, by family: the image test, repeats, the lookup, the download, the writes of a plan, edge slots, chains.
pub mod Searched
pub mod SeenBefore
pub mod RunLoops
pub mod Tested
pub mod Images
pub mod Repeats
pub mod Scans
pub mod Downloads
pub mod DownloadPass
pub mod Writes
pub mod Edges
pub mod Chains
-- The code's answers.
pub mod Determined
-- What a plan answers and leaves, that it can be applied, and the most writes that it has.
pub mod Planned
pub mod Whole
pub mod Stores
pub mod Most
