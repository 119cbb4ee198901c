-- What the contracts of the reports cite, and what they come to.
pub mod Report
pub mod Printed
