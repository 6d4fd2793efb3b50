pub mod JitterSheets
pub mod PointSheets
