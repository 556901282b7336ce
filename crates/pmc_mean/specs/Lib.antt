pub mod State
pub mod Calls
pub mod Grid
pub mod Run
