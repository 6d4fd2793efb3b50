pub mod Keys
pub mod PolicyMeaning
pub mod Offsets
pub mod PolicyLaws
pub mod Policies
pub mod Lawful
