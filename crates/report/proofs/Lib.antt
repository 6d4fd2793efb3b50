pub mod RowFacts
pub mod PaddingFacts
pub mod JsonFacts
