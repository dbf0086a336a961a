-- The lemmas of this crate.
pub mod FrameFacts
pub mod Closed
pub mod Firsts
pub mod Fresh
pub mod PassFacts
pub mod StateFacts
