-- How reopening with a place table, its check and a range by it cross the C face.
pub mod Calls
pub mod Rescue
