pub mod Sums
pub mod Searches
pub mod Lending
pub mod Ranges
pub mod Firsts
pub mod Limits
