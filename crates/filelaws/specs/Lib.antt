-- What holds of the file of a table that was read and then edited, and of two tables that were read and then joined.
pub mod Rack
pub mod Series
