-- What the contracts of the crates that write into buffers cite.
pub mod Put
