-- The lemmas of this crate.
pub mod Noted
pub mod Forms
pub mod Quiet
pub mod Bounds
pub mod Names
pub mod Fine
pub mod Judged
pub mod First
pub mod Accepted
