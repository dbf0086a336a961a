-- The lemmas of this crate.
pub mod Sizes
pub mod HeadMeant
pub mod TablesLawful
pub mod Trees
pub mod PiecesFew
pub mod FaultyLawful
pub mod Whole
pub mod Judges
pub mod Once
pub mod Answered
