-- The laws behind the translator, and of its contract: what it determines.
pub mod AlikeTranslated
pub mod BufferLaws
pub mod RefusalLaws
pub mod RefusedExactly
pub mod TranslationLaws
