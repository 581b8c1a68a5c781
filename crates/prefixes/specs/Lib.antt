-- The list as a slice of prefixes; the rows and replies of its functions.
pub mod Prefixes
pub mod Queries
