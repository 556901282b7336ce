pub mod State
pub mod Step
pub mod Model
pub mod Calls
pub mod Grid
pub mod Run
