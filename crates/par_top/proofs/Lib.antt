-- The lemmas of this crate.
pub mod Complete
pub mod SerialHeadlines
pub mod WholeHeadlines
pub mod InnocentHeadlines
pub mod Endings
