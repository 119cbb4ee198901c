-- Laws of two transducers in series: first of the definitions and of what is proved of every answer, then of the parts that make it.
pub mod GatherLaws
pub mod StateLaws
pub mod RunLaws
pub mod ResultLaws
pub mod RuleLaws
pub mod Composition
pub mod RefusalLaws
pub mod SeriesLaws
pub mod ThereLaws
pub mod AlikeLaws
pub mod ListLaws
pub mod TestLaws
pub mod OrderLaws
pub mod TableLaws
pub mod SetLaws
pub mod MakeLaws
