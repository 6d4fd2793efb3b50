pub mod FailedFacts
pub mod MeetFacts
pub mod FilledFacts
pub mod Worked
