-- One update and one step.
pub mod Updates
pub mod Steps
-- From step to step: what is kept, what is left to print.
pub mod Stages
pub mod Left
pub mod NextLine
-- A part, and all parts.
pub mod Filling
pub mod Whole
-- The code's answers.
pub mod Determined
