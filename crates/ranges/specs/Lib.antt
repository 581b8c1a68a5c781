-- Range tables and the lookup; what is built from a list.
pub mod Ranges
pub mod Builds
-- How it is built: keys, the sweep.
pub mod Keys
pub mod Sweeps
-- What the code's types show, and what only loops need.
pub mod Shown
pub mod Loops
pub mod Sweeping
