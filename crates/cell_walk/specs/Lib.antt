pub mod Visits
pub mod Surveys
pub mod Marks
pub mod CellLists
pub mod Ways
pub mod CellCourses
pub mod Sweeps
