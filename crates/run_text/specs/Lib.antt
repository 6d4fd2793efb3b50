pub mod Text
pub mod Stretches
pub mod Words
pub mod Unread
pub mod Lines
pub mod Parts
pub mod Drafts
pub mod Parsing
