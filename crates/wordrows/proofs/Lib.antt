-- The laws of the search over two words.
pub mod MarkLaws
pub mod GrowLaws
pub mod SweepLaws
pub mod StartLaws
