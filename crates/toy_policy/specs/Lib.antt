pub mod Numbered
pub mod Lawful
pub mod EvenCuts
pub mod EvenLawful
