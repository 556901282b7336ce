-- What the contracts of `place_table` cite.
pub mod Calls
pub mod Made
pub mod Rescued
pub mod Sums
pub mod Inner
