pub mod Compliance
pub mod Bounded
pub mod Tests
pub mod Prefixes
