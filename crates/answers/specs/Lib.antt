-- What the contracts of the exported functions, and of what they are made of, cite.
pub mod Answers
