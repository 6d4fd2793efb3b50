pub mod CountFacts
pub mod FloorFacts
pub mod RiseFacts
pub mod TickFacts
pub mod WaitFacts
pub mod PromiseFacts
pub mod LawFacts
