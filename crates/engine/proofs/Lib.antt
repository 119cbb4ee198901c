-- The laws of the engine's contracts, and demand 3.
pub mod EngineLaws
pub mod InputCodes
pub mod Demand3
