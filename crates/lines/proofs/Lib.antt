-- The digits of a number, and how long the lines are.
pub mod Digits
pub mod Sizes
