pub mod Arrivals
pub mod Steps
pub mod Supplied
pub mod Crowds
pub mod Spans
pub mod Distances
pub mod Times
