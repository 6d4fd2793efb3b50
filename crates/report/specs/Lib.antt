pub mod Rows
pub mod TextReport
pub mod JsonReport
