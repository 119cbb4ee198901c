-- The laws behind the reports, and of their contracts: what is printed.
pub mod ReportLaws
pub mod PrintedLaws
pub mod FirstLaws
