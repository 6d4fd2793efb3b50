pub mod PrintedFacts
pub mod ReadsBack
