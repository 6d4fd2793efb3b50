pub mod Setting
pub mod Supplied
pub mod Segments
pub mod Counts
