-- The laws behind the word test, and of its contract: what it determines, and that it agrees with the translator.
pub mod PathLaws
pub mod RowLaws
pub mod RefusalLaws
pub mod AnswerLaws
