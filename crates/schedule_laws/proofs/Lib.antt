pub mod PrefixFacts
pub mod TestFacts
pub mod SupplyFacts
pub mod CrowdFacts
pub mod ComplianceFacts
