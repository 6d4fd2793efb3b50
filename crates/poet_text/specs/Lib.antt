pub mod Words
pub mod Refusals
pub mod Endings
pub mod Printing
pub mod RunPrinting
pub mod CurvePrinting
pub mod PromisePrinting
pub mod Tellings
