pub mod Outcomes
pub mod Downloads
pub mod Records
