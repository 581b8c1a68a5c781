-- Numbers, byte by byte; where the places of an answer lie; what an answer shows determines it.
pub mod Bytes
pub mod SmallNumbers
pub mod Places
pub mod Determined
-- Numbers and updates as they are written and read.
pub mod NumberForms
pub mod UpdateForms
