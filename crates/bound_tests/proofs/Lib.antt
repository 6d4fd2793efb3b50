pub mod JitterBounds
pub mod PointBounds
