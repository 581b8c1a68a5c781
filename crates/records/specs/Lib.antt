-- Numbers and update records in bytes, as they are read and as they are written.
pub mod Records
pub mod Written
-- What the code's enums show, and what a reader does.
pub mod Shown
pub mod Readers
