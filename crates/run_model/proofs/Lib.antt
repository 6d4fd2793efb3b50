pub mod PendingFacts
pub mod ServiceFacts
