-- DXR tables and the lookup; the splits that they allow; what is built from a list.
pub mod Dxr
pub mod Splits
pub mod Builds
-- What the code's types show, and what only loops need.
pub mod Loops
pub mod Chunks
pub mod Shown
