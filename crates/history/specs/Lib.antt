-- The report of an input, whole.
pub mod Reports
-- The same in parts: how far it has come, one step, as many lines as fit a buffer.
pub mod Stages
pub mod Fills
-- What the contracts of single steps speak of.
pub mod Steps
-- The claim about all parts of a report.
pub mod Whole
