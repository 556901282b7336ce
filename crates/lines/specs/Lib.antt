pub mod Times
pub mod Line
pub mod Values
