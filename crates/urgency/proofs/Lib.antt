pub mod RankFacts
pub mod QueueFacts
