mod WritingFacts
pub mod SeenFacts
pub mod LengthFacts
mod VerdictTexts
