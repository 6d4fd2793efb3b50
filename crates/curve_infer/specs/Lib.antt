pub mod Limits
pub mod Traces
pub mod Curves
pub mod Gaps
pub mod Text
pub mod Parsing
