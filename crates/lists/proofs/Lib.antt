pub mod SumFacts
pub mod FirstFacts
pub mod SearchFacts
