-- What the contracts of `closure` cite.
pub mod Closure
