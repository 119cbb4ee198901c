-- What the search over two words is about: its sizes, where transitions lead, the rows of marks, and what the functions over them leave.
pub mod Limits
pub mod Leads
pub mod Rows
pub mod Cells
