-- What the contracts of `macaque_v` cite.
pub mod State
pub mod Write
pub mod Calls
pub mod Made
pub mod Rescued
pub mod ReadRun
pub mod Read
pub mod Sums
pub mod Kept
pub mod Size
pub mod Inner
