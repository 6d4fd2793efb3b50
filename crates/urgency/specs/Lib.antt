pub mod Ranks
pub mod Queues
