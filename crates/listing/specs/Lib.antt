-- What the contracts of `listing` cite: the records that the programs print, and how long they can be.
pub mod Listing
pub mod Shown
