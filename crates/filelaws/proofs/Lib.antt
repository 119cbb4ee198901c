-- The file of a table by its lines; a table that is read and then edited; two that are read and then joined.
pub mod FileLaws
pub mod RackLaws
pub mod JoinedFiles
