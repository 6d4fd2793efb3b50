pub mod Limits
pub mod TableParts
pub mod Validity
pub mod Ticks
pub mod Floors
pub mod Laws
