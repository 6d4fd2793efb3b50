pub mod PointFacts
