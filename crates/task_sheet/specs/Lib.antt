pub mod SheetParts
pub mod Limits
pub mod Refusing
pub mod Rules
pub mod Sheets
pub mod Priorities
pub mod Words
