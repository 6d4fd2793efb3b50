pub mod Simulations
pub mod Loads
pub mod Dues
pub mod SimulationState
pub mod Openings
pub mod Gaps
pub mod AllOpenings
