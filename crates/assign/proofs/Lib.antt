pub mod SheetFacts
pub mod RaisedFacts
pub mod OrderFacts
pub mod TrialFacts
pub mod FillFacts
pub mod EndFacts
pub mod OutcomeFacts
