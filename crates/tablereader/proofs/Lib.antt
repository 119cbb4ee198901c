-- Laws of the definitions, for the crates above.
pub mod Outcomes
pub mod TakenLaws
pub mod Stores
pub mod HeaderRecord
pub mod StateRecords
pub mod TransitionRecords
pub mod Validity
pub mod ReadLaws
mod Reach
mod Behind
pub mod LongestLaws
