pub mod Soonests
pub mod CapNumbers
pub mod Changes
pub mod Places
pub mod Tracking
pub mod Blockers
pub mod MeterParts
pub mod Meters
