-- How the choice crosses the C face.
pub mod Row
pub mod Fair
