pub mod PromiseFacts
