pub mod Text
pub mod Steps
pub mod Progress
pub mod Machine
pub mod FirstLines
pub mod Parsing
