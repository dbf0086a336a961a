-- The lemmas of this crate.
pub mod FoundLemmas
pub mod LearnLemmas
pub mod AdoptLemmas
pub mod RoundLemmas
pub mod TraceLemmas
pub mod JoinLemmas
pub mod TaskLemmas
pub mod VotingLemmas
pub mod CutLemmas
pub mod ForceLemmas
pub mod Bridges
pub mod BurstLemmas
