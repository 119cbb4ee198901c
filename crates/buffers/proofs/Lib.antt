-- The laws of what is put into a buffer: at once, part behind part, and in a loop.
pub mod PutLaws
pub mod PutsLaws
pub mod Parts
