-- Demand 2, demand 3 with mending, a plan applied again, the test by runs, the download, the board cases.
pub mod Agreement
pub mod Mending
pub mod Sequence
pub mod Reapplied
pub mod RunHolds
pub mod Download
pub mod Board
pub mod MendCases
pub mod DownloadCases
-- Update records, the report, answers as values.
pub mod RecordForms
pub mod ReportOfBook
pub mod PlanRoom
pub mod Example
pub mod Determined
-- All claims.
pub mod Claims
