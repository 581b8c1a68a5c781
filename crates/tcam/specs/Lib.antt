-- Slots, their rules and the lookup; the table of a set.
pub mod Slots
pub mod Tables
-- Planned updates, applying them, and the book that they are compared with.
pub mod Plans
pub mod Applies
pub mod Book
-- S5 by runs of one length, and mending a half-written table.
pub mod Runs
pub mod Mend
-- The prefixes of a table read out one by one.
pub mod Download
-- What the code's types show, and what only loops need.
pub mod Shown
pub mod Held
pub mod Searches
pub mod Loops
pub mod InTurn
