-- The rule and its limits, the order of prefixes, refusals and answers, lists of routes, rows that are written to, what a right answer is.
pub mod Limits
pub mod Rule
pub mod PrefixOrder
pub mod Refusals
pub mod Lists
pub mod Rows
pub mod RightHop
pub mod RowsOfSet
-- What the code's enums show, and what only loops need.
pub mod Shown
pub mod Loops
pub mod Entries
pub mod Filter
