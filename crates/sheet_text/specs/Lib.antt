pub mod Readings
pub mod Documents
pub mod TableRows
pub mod SupplyRows
pub mod CurveRows
pub mod CutRows
pub mod TaskRows
pub mod SheetRows
