-- Tests and verdicts, the order of prefixes, members of a list, parts of a row.
pub mod Tests
pub mod PrefixOrder
pub mod Members
pub mod Parts
-- Routes: spans, the longest match, which lists are accepted.
pub mod Spans
pub mod RouteSet
pub mod LongestMatch
pub mod Accepted
pub mod Lookups
-- The code's answers, and its loops.
pub mod Determined
pub mod Searches
pub mod Fills
pub mod Notes
pub mod Entries
