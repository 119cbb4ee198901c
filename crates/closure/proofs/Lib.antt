-- Laws of the closures.
pub mod FlagLaws
pub mod PassLaws
