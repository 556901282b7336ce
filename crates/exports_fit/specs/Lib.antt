-- How the states of PMC-Mean and Swing cross the C face.
pub mod Row
