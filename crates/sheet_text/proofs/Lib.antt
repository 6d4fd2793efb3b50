pub mod Fronts
pub mod Counts
pub mod StepFacts
pub mod Loop
pub mod TableFacts
