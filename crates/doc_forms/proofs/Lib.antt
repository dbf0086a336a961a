-- The lemmas of this crate.
pub mod Lists
pub mod Steps
pub mod Others
pub mod NameTests
pub mod Search
pub mod SortedOnce
pub mod Listed
pub mod LookUps
pub mod Meant
pub mod EachMeant
pub mod NamesMeant
pub mod SetsMeant
pub mod AgentsMeant
