-- How MacaqueV crosses the C face.
pub mod Row
pub mod Calls
pub mod Rescue
pub mod Tabled
pub mod Size
