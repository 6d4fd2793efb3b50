pub mod Promises
pub mod PromiseParts
pub mod Supplies
pub mod Lawful
