-- Laws about the contract of `useful_states`, for the crates above.
pub mod Accessible
pub mod Determined
pub mod SetLaws
pub mod StepLaws
pub mod ReachLaws
