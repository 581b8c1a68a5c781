-- The rows of a list of prefixes, and the row that `copy_rows` fills with them.
pub mod Prefixes
mod Rows
