-- The round trips, for the crates above: `RoundTrips` has them all; `Repeats`: a repeated line is kept. The others serve this crate's own proofs, from
-- records up.
mod Rising
mod Filled
mod StateRecords
mod TransitionRecords
pub mod ReadWritten
pub mod WrittenRead
mod LongestFile
pub mod Calls
pub mod RoundTrips
pub mod Repeats
