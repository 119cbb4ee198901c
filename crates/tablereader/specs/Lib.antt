-- What the contracts of `tablereader` cite: the format of a table file (document 01, "The file"), from the outcome and the parts of a record up to the file.
pub mod Outcome
pub mod Record
pub mod Header
pub mod States
pub mod Transitions
pub mod Reader
pub mod Longest
