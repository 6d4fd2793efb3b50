pub mod DemandFacts
pub mod Gaps
pub mod MeetingFacts
pub mod Worked
