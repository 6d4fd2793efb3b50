pub mod Alike
pub mod AlikeConditions
pub mod AlikeBest
pub mod Twins
