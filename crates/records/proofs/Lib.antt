-- Laws of the definitions, for the crates above and the proofs of this one.
pub mod Columns
pub mod RoundTrip
pub mod RangeLaws
pub mod FaultLaws
pub mod FilledLaws
pub mod RecordTrip
pub mod Behind
pub mod Record
pub mod RecordBytes
pub mod RecordPuts
