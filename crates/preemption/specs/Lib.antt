pub mod CutMeaning
pub mod Cuts
pub mod CutLaws
pub mod Kinds
pub mod Segments
pub mod Lawful
