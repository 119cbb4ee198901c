-- What the contracts of `engine` cite, and demand 3 as one statement.
pub mod Engine
pub mod Demand3
