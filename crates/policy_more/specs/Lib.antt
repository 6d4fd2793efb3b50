pub mod PointPolicies
pub mod Meanings
pub mod Lawful
