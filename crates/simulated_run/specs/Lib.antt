pub mod Words
pub mod Jobs
pub mod SimulatedRun
pub mod Laws
