pub mod Sheets
pub mod Assignment
pub mod Trials
pub mod Outcome
