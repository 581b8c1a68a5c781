-- Tables that keep the rules, and the entries of their chunks.
pub mod Rising
pub mod Chunks
-- Words: what they encode is read back.
pub mod ChunkWords
pub mod DxrTable
-- The room that the words need, and that the table of a set answers as the set does.
pub mod ChunkBounds
pub mod Room
pub mod DxrAgrees
-- The lookup's pass over a part.
pub mod Scans
-- The build: rows written in parts, a chunk's entries, a chunk's part of the ranges, the passes over the ranges, what is left in the end.
pub mod Fills
pub mod Entries
pub mod Parts
pub mod Passes
pub mod Builds
