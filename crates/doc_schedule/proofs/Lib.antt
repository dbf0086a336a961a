-- The lemmas of this crate.
pub mod Arrays
pub mod EndsMeant
pub mod TablesMeant
pub mod VotesMeant
pub mod RolesMeant
pub mod BlocksMeant
pub mod Counted
pub mod ScheduleMeant
pub mod ScheduleLaw
