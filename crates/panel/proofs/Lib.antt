-- What the look shows of every transducer that the calls made, and what every other call says of a value that keeps another set.
pub mod MakingLaws
pub mod WrongLaws
