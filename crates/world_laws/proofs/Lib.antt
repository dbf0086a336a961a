-- The lemmas of this crate.
pub mod Bursting
pub mod Reaching
pub mod Giving
pub mod Turns
pub mod One
pub mod Moving
pub mod Saying
pub mod Starting
pub mod Started
