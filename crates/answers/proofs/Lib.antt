-- How calls end, how flags are cast, and what is returned for a list that lacks places.
pub mod Ends
pub mod Flags
pub mod Rooms
