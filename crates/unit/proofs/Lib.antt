-- How the exported functions meet their contracts; and the laws of any results that do.
mod Returns
mod CallLaws
mod ReturnLaws
mod Leaves
mod Determined
mod HeldCalls
mod There
mod WordCalls
pub mod Boundary
