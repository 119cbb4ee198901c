-- What `useful_states` answers, and sets of states as numbers.
pub mod UsefulStates
pub mod Sets
