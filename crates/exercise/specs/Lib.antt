pub mod GeneratedSheet
pub mod Greatest
pub mod Exercises
pub mod Laws
