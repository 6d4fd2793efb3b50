pub mod PointTerms
pub mod Conditions
pub mod Meets
pub mod Filled
