pub mod RuleFacts
pub mod PriorityFacts
