-- Where prefixes start and end, rows of ranges, the merged ranges of a set: they say its answer, and a lookup in them finds it.
pub mod Spans
pub mod Boundaries
pub mod Says
pub mod Rows
pub mod Counting
pub mod MergedRanges
pub mod RangesAgree
-- The build: the sweep over routes in order, words, and that all of it makes the merged ranges.
pub mod LastMatch
pub mod Sweeps
pub mod Packing
pub mod PackedWords
pub mod Rooms
-- The loops, by family: the lookup, filling a row, the sweep.
pub mod Scans
pub mod Fills
pub mod Steps
pub mod SweepLoops
