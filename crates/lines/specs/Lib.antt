-- Texts: characters, numbers, addresses, prefixes and routes.
pub mod Ascii
pub mod Texts
-- The report's lines, and what a call that writes a text leaves in a lent buffer.
pub mod Lines
