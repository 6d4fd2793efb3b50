pub mod Soundness
pub mod FoldFacts
pub mod StandingFacts
pub mod GapFacts
pub mod CheckerFacts
pub mod CertFacts
