pub mod StepFacts
pub mod FoundFacts
pub mod MayFacts
pub mod OpeningFacts
pub mod DoesFacts
pub mod EndingFacts
mod AnalysisFacts
mod SimulationFacts
mod JudgeFacts
pub mod UpgradeFacts
pub mod AssignFacts
mod TableFacts
mod DidFacts
pub mod PourFacts
pub mod VerdictFacts
mod RestFacts
