-- What the contracts of the exported functions cite, and what holds of any results that meet them.
pub mod Calls
pub mod Laws
