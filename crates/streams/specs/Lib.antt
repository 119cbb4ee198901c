-- What the contracts of the streams cite.
pub mod Streams
