-- The definitions of this crate.
pub mod Growth
pub mod ConflictOrder
pub mod OneCutting
pub mod LawfulBodies
pub mod Agreement
pub mod OneWorld
pub mod OneText
pub mod Admissions
pub mod Named
pub mod Fed
